-- Fitting, item by item and member by member.
use Rattle.std.specs.{Slice.{IsItemAt}, Option.{option_or, option_copied}, Cmp.Lexicographic.{slice_cmp}, Map.{lookup}, BTreeMap.{is_at}}
use Rattle.std.proofs.Common.{◌≡◌, ℕ, zero, suc, Bool, true, ◌&&◌, List, [], ◌∷◌, ◌++◌, length, Option, Some, None, option_map, slice_get, String, Global, Vec, BTreeMap, string_bytes, nat_cmp, Bor, refl, sym, ap, ◌∙◌, rules, ◌+◌, ◌<◌, get_or, drop, add-one}
use Rattle.std.proofs.{lemmas.List.{drop_more}, lemmas.Option.{slice_get_past, slice_get_read}}
use Rattle.pact_rules.specs.{Matching.{has_keys_of}, Rules.{Rules}}
use Rattle.serde_json.specs.{Data.{Data, array, object, Items, no_items, item, Members, no_members, member}, View.{view, items_view, members_view}}
use Rattle.serde_json.specs.{declared.value.Value.{Value, Array, Object}, Find.{get_member, get_item}}
use Rattle.serde_json.proofs.Views.{Entry, view-Array, view-Object, view-lookup}
use Rattle.pact_paths.specs.Paths.{Location, key}
use Rattle.reply_check.specs.Computed.{meets_here, expected_items, expected_members, first_or, example, if_there, fits, items_fit, members_fit}
use Rattle.reply_check.proofs.DeferredLemmas.{and-true}
use Rattle.pact_paths.specs.Paths as paths

-- nothing is expected
pub items_fit-no_items : (rules : Rules) (at : Location) (i : ℕ) (ys : Items) → items_fit rules at no_items i ys ≡ true
items_fit-no_items rules at i no_items = refl
items_fit-no_items rules at i (item y ys) = items_fit-no_items rules at (suc i) ys

pub members_fit-no_members : (rules : Rules) (at : Location) (gs : Members) → members_fit rules at no_members gs ≡ true
members_fit-no_members rules at no_members = refl
members_fit-no_members rules at (member k y gs) = members_fit-no_members rules at gs

pub get_item-items_view : (ts : List Value) (i : ℕ) → get_item i (items_view ts) ≡ option_map view (slice_get ts i)
get_item-items_view [] i = refl
get_item-items_view (t ∷ ts) zero = refl
get_item-items_view (t ∷ ts) (suc i) = get_item-items_view ts i

-- of two lists it is asked that they meet, and of their items
pub fits-list : (rules : Rules) (at : Location) (x : Data) (xs : Items) (actual : Value) (v : Vec Value Global) → actual ≡ Array v → expected_items x ≡ xs
    → fits rules at x (view actual) ≡ (meets_here rules at x (view actual) && items_fit rules at xs 0 (items_view v.items))
fits-list rules at x xs actual v is expected =
    let ys = items_view v.items in
    let seen : view actual ≡ array ys = ap view is ∙ view-Array v in
    ap (fits rules at x) seen ∙ ap (λ y. meets_here rules at x y && items_fit rules at (expected_items x) 0 ys) (sym seen)
    ∙ ap (λ xs. meets_here rules at x (view actual) && items_fit rules at xs 0 ys) expected

pub fits-list_without_example : (rules : Rules) (at : Location) (x : Data) (actual : Value) (v : Vec Value Global) → actual ≡ Array v → expected_items x ≡ no_items
    → meets_here rules at x (view actual) ≡ fits rules at x (view actual)
fits-list_without_example rules at x actual v is none =
    sym (fits-list rules at x no_items actual v is none ∙ ap (λ a. meets_here rules at x (view actual) && a) (items_fit-no_items rules at 0 (items_view v.items))
    ∙ and-true (meets_here rules at x (view actual)))

-- of two objects, that they meet, that the keys are there, and of their members
pub fits-object : (rules : Rules) (at : Location) (x : Data) (fs : Members) (actual : Value) (m : BTreeMap (String Global) Value) → actual ≡ Object m → expected_members x ≡ fs
    → fits rules at x (view actual) ≡ (meets_here rules at x (view actual) && (has_keys_of fs (members_view m.entries) && members_fit rules at fs (members_view m.entries)))
fits-object rules at x fs actual m is expected =
    let gs = members_view m.entries in
    let seen : view actual ≡ object gs = ap view is ∙ view-Object m in
    ap (fits rules at x) seen ∙ ap (λ y. meets_here rules at x y && (has_keys_of (expected_members x) gs && members_fit rules at (expected_members x) gs)) (sym seen)
    ∙ ap (λ fs. meets_here rules at x (view actual) && (has_keys_of fs gs && members_fit rules at fs gs)) expected

pub fits-object_without_example : (rules : Rules) (at : Location) (x : Data) (actual : Value) (m : BTreeMap (String Global) Value) → actual ≡ Object m → expected_members x ≡ no_members
    → meets_here rules at x (view actual) ≡ fits rules at x (view actual)
fits-object_without_example rules at x actual m is none =
    sym (fits-object rules at x no_members actual m is none ∙ ap (λ a. meets_here rules at x (view actual) && a) (members_fit-no_members rules at (members_view m.entries))
    ∙ and-true (meets_here rules at x (view actual)))

-- ---- members

pub Option-none_of_no_some : {A : Type 0} (o : Option A) → ((x : A) → o ≡ Some x → ⊥) → o ≡ None
Option-none_of_no_some None h = refl
Option-none_of_no_some (Some x) h = absurd (h x refl)

pub get_member-members_view : (name k : List ℕ) (es : List Entry) (o : Option Value) → name ≡ k → o ≡ lookup (is_at (λ k. slice_cmp nat_cmp name (string_bytes k))) es → get_member k (members_view es) ≡ option_map view o
get_member-members_view name k es o is e = ap (λ k. get_member k (members_view es)) (sym is) ∙ sym (view-lookup name es) ∙ ap (option_map view) (sym e)

pub get_member-none : (name k : List ℕ) (es : List Entry) (r : Option (Bor Value)) → name ≡ k → option_copied r ≡ lookup (is_at (λ k. slice_cmp nat_cmp name (string_bytes k))) es → ((x : Bor Value) → r ≡ Some x → ⊥) → get_member k (members_view es) ≡ None
get_member-none name k es r is e none = get_member-members_view name k es (option_copied r) is e ∙ ap (λ (r : Option (Bor Value)). option_map view (option_copied r)) (Option-none_of_no_some r none)

pub members_fit-step : (rules : Rules) (at : Location) (fs : Members) (e : Entry) (es : List Entry) (x : Option Data) (b : Bool) → get_member (string_bytes e.0) fs ≡ x
    → if_there x (λ x. fits rules (at ++ key (string_bytes e.0) ∷ []) x (view e.1)) ≡ b
    → members_fit rules at fs (members_view (e ∷ es)) ≡ (b && members_fit rules at fs (members_view es))
members_fit-step rules at fs e es x b h k =
    ap (λ o. if_there o (λ x. fits rules (at ++ key (string_bytes e.0) ∷ []) x (view e.1)) && members_fit rules at fs (members_view es)) h
    ∙ ap (λ c. c && members_fit rules at fs (members_view es)) k

-- ---- the example

pub example-items_view : (ts : List Value) (i : ℕ) (a b r : Option (Bor Value)) → option_copied a ≡ slice_get ts i → option_copied b ≡ slice_get ts 0 → r ≡ option_or a b
    → option_map (λ t. view t.now) r ≡ example (items_view ts) i
example-items_view ts i a b r ea eb er = ap (option_map (λ (t : Bor Value). view t.now)) er ∙ go a b ea eb
  where
    seen : (o : Option (Bor Value)) → option_map (λ t. view t.now) o ≡ option_map view (option_copied o)
    seen None = refl
    seen (Some x) = refl

    here : (o : Option (Bor Value)) (k : ℕ) → option_copied o ≡ slice_get ts k → get_item k (items_view ts) ≡ option_map (λ (t : Bor Value). view t.now) o
    here o k e = get_item-items_view ts k ∙ ap (option_map view) (sym e) ∙ sym (seen o)

    go : (a b : Option (Bor Value)) → option_copied a ≡ slice_get ts i → option_copied b ≡ slice_get ts 0 → option_map (λ t. view t.now) (option_or a b) ≡ example (items_view ts) i
    go None b ea eb = sym (ap (first_or (items_view ts)) (here None i ea) ∙ here b 0 eb)
    go (Some x) b ea eb = sym (ap (first_or (items_view ts)) (here (Some x) i ea))

pub IsItemAt-slice_get : (ts : List Value) (i : ℕ) (r : Option (Bor Value)) → IsItemAt ts i r → option_copied r ≡ slice_get ts i
IsItemAt-slice_get ts i None h = sym (slice_get_past ts i h.3)
IsItemAt-slice_get ts i (Some x) h = sym (slice_get_read ts (length ts) i x.now refl h.3.0 h.1)

-- one item more
pub items_fit-step : (rules : Rules) (at : Location) (xs : Items) (i : ℕ) (ts : List Value) (y : Value) (x : Option Data) (b : Bool) → i < length ts → y ≡ get_or ts i y → x ≡ example xs i
    → if_there x (λ x. fits rules (at ++ paths.item i ∷ []) x (view y)) ≡ b → items_fit rules at xs i (items_view (drop i ts)) ≡ (b && items_fit rules at xs (i + 1) (items_view (drop (i + 1) ts)))
items_fit-step rules at xs i ts y x b lt is expected met =
    let rest = items_view (drop (i + 1) ts) in
    ap (λ us. items_fit rules at xs i (items_view us)) (drop_more ts i y lt ∙ ap (λ z. z ∷ drop (i + 1) ts) (sym is))
    ∙ ap (λ o. if_there o (λ x. fits rules (at ++ paths.item i ∷ []) x (view y)) && items_fit rules at xs (suc i) rest) (sym expected)
    ∙ ap (λ b. b && items_fit rules at xs (suc i) rest) met
    ∙ ap (λ n. b && items_fit rules at xs n rest) (sym (add-one i))

pub option_map-no_view : (o : Option (Bor Value)) → ((x : Bor Value) → o ≡ Some x → ⊥) → None ≡ option_map (λ v. view v.now) o
option_map-no_view o none = ap (option_map (λ (v : Bor Value). view v.now)) (sym (Option-none_of_no_some o none))
