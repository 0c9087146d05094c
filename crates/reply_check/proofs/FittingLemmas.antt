-- The computed form says the same as the relation.
use Rattle.std.specs.{Cmp.Lexicographic.{slice_cmp}, Ordering.{match_ordering}}
use Rattle.std.proofs.Common.{Ordering, Equal, is_eq, cond, nat_cmp, option_and_then, slice_get, ◌≡◌, ◌⊎◌, inl, inr, ◌↔◌, ℕ, zero, suc, ◌+◌, Bool, true, false, ◌&&◌, List, [], ◌∷◌, ◌++◌, Option, Some, None, is_some, IsTrue, refl, sym, ap, ◌∙◌, subst, arith, bytes_eq}
use Rattle.std.proofs.{lemmas.Bool.{and_from, and_parts, false≢true}, lemmas.Slice.Eq.{bytes_eq-Decides}, lemmas.Map.Text.{is_eq-slice_cmp}}
use Rattle.std.proofs.lemmas.Option.{none-some, same_Some}
use Rattle.pact_paths.specs.Paths.{Location, key}
use Rattle.serde_json.specs.{Data.{Data, array, object, Items, no_items, item, Members, no_members, member}, Find.{get_member, get_item}}
use Rattle.pact_rules.specs.{Rules.{Rules, BodyRule, IsInOrder}, Choice.{chosen}, Matching.{has_keys_of}}
use Rattle.pact_rules.proofs.ChoiceLemmas.{IsChoice-chosen, IsChoice-unique}
use Rattle.reply_check.specs.Fitting.{IsRuleFor, HasItem, IsMember, HasMember, Expects, IsObject, IsExample, MeetsRule, MeetsHere, Fits, fitting}
use Rattle.reply_check.specs.Computed.{rule_for, meets_rule, meets_here, first_or, example, expected_items, expected_members, if_there, fits, items_fit, members_fit}
use Rattle.reply_check.proofs.{Deciding.{Bool-by_test}, FitLemmas.{Option-none_of_no_some}}
use Rattle.pact_paths.specs.Paths as paths

-- ---- at a location itself

IsRuleFor-rule_for : (rules : Rules) (order : IsInOrder rules.body) (at : Location) → IsRuleFor rules at (rule_for rules at)
IsRuleFor-rule_for rules order at = (chosen rules.body at, IsChoice-chosen rules.body at order, refl)

IsRuleFor-unique : (rules : Rules) (order : IsInOrder rules.body) (at : Location) (rule : Option BodyRule) → IsRuleFor rules at rule → rule ≡ rule_for rules at
IsRuleFor-unique rules order at rule h =
    h.2 ∙ ap (option_and_then (slice_get rules.body)) (IsChoice-unique rules.body at h.0 (chosen rules.body at) h.1 (IsChoice-chosen rules.body at order))

meets_rule-iff_MeetsRule : (rule : Option BodyRule) (at : Location) (x y : Data) → (meets_rule rule at x y ≡ true) ↔ MeetsRule rule at x y
meets_rule-iff_MeetsRule None at x y = (λ h. h, λ h. h)
meets_rule-iff_MeetsRule (Some rule) at x y = (λ h. h, λ h. h)

-- the computed choice is the one choice
MeetsHere-of_meets_here : (rules : Rules) (order : IsInOrder rules.body) (at : Location) (x y : Data) → meets_here rules at x y ≡ true → MeetsHere rules at x y
MeetsHere-of_meets_here rules order at x y h = (rule_for rules at, IsRuleFor-rule_for rules order at, (meets_rule-iff_MeetsRule (rule_for rules at) at x y).0 h)

meets_here-of_MeetsHere : (rules : Rules) (order : IsInOrder rules.body) (at : Location) (x y : Data) → MeetsHere rules at x y → meets_here rules at x y ≡ true
meets_here-of_MeetsHere rules order at x y h = (meets_rule-iff_MeetsRule (rule_for rules at) at x y).1 (subst (λ rule. MeetsRule rule at x y) (IsRuleFor-unique rules order at h.0 h.1) h.2)

-- ---- members

match_ordering-is_eq : {A : Type 0} (o : Ordering) (x y : A) → match_ordering o x y x ≡ cond (is_eq o) y x
match_ordering-is_eq Equal x y = refl
match_ordering-is_eq o x y = refl

get_member-cons : (k l : List ℕ) (u : Data) (fs : Members) → get_member k (member l u fs) ≡ cond (bytes_eq k l) (Some u) (get_member k fs)
get_member-cons k l u fs = match_ordering-is_eq (slice_cmp nat_cmp k l) (get_member k fs) (Some u) ∙ ap (λ b. cond b (Some u) (get_member k fs)) (is_eq-slice_cmp k l)

get_member-here : (k l : List ℕ) (u : Data) (fs : Members) → bytes_eq k l ≡ true → get_member k (member l u fs) ≡ Some u
get_member-here k l u fs is = get_member-cons k l u fs ∙ rw is refl

get_member-later : (k l : List ℕ) (u : Data) (fs : Members) → bytes_eq k l ≡ false → get_member k (member l u fs) ≡ get_member k fs
get_member-later k l u fs isnt = get_member-cons k l u fs ∙ rw isnt refl

-- what is looked up is a member
IsMember-of_get_member : (k : List ℕ) (fs : Members) (t : Data) → get_member k fs ≡ Some t → IsMember fs k t
IsMember-of_get_member k no_members t h = absurd (none-some t h)
IsMember-of_get_member k (member l u fs) t h = Bool-by_test (bytes_eq k l)
    (λ is. inl (sym ((bytes_eq-Decides k l).0 is), same_Some u t (sym (get_member-here k l u fs is) ∙ h)))
    (λ isnt. inr (IsMember-of_get_member k fs t (sym (get_member-later k l u fs isnt) ∙ h)))

-- a member is looked up
get_member-of_IsMember : (k : List ℕ) (fs : Members) (t : Data) → IsMember fs k t → is_some (get_member k fs) ≡ true
get_member-of_IsMember k no_members t h = absurd h
get_member-of_IsMember k (member l u fs) t (inl h) = ap is_some (get_member-here k l u fs (ap (bytes_eq k) h.0 ∙ (bytes_eq-Decides k k).1 refl))
get_member-of_IsMember k (member l u fs) t (inr h) = Bool-by_test (bytes_eq k l)
    (λ is. ap is_some (get_member-here k l u fs is))
    (λ isnt. ap is_some (get_member-later k l u fs isnt) ∙ get_member-of_IsMember k fs t h)

is_some-value : (o : Option Data) → is_some o ≡ true → (t : Data) × (o ≡ Some t)
is_some-value None h = absurd (false≢true h)
is_some-value (Some t) h = (t, refl)

-- each expected key is get_member-later
has_keys_of-get_member : (fs gs : Members) → has_keys_of fs gs ≡ true → (k : List ℕ) (e : Data) → get_member k fs ≡ Some e → is_some (get_member k gs) ≡ true
has_keys_of-get_member no_members gs h k e is_there = absurd (none-some e is_there)
has_keys_of-get_member (member l u fs) gs h k e is_there = let both = and_parts (is_some (get_member l gs)) (has_keys_of fs gs) h in Bool-by_test (bytes_eq k l)
    (λ is. ap (λ m. is_some (get_member m gs)) ((bytes_eq-Decides k l).0 is) ∙ both.0)
    (λ isnt. has_keys_of-get_member fs gs both.1 k e (sym (get_member-later k l u fs isnt) ∙ is_there))

has_keys_of-of_get_member : (all fs gs : Members) → ((k : List ℕ) (t : Data) → IsMember fs k t → is_some (get_member k all) ≡ true) → ((k : List ℕ) (e : Data) → get_member k all ≡ Some e → is_some (get_member k gs) ≡ true) → has_keys_of fs gs ≡ true
has_keys_of-of_get_member all no_members gs members keys = refl
has_keys_of-of_get_member all (member l u fs) gs members keys =
    let expected = is_some-value (get_member l all) (members l u (inl (refl, refl))) in
    and_from (is_some (get_member l gs)) (has_keys_of fs gs) (keys l expected.0 expected.1) (has_keys_of-of_get_member all fs gs (λ k t h. members k t (inr h)) keys)

-- ---- items

Expects-iff_get_member : (x : Data) (k : List ℕ) (e : Data) → Expects x k e ↔ (get_member k (expected_members x) ≡ Some e)
Expects-iff_get_member (object fs) k e = (λ h. h, λ h. h)
Expects-iff_get_member x k e = (λ h. absurd h, λ h. none-some e h)

IsExample-absurd : {A : Type 0} → ⊥ ⊎ (A × ⊥) → ⊥
IsExample-absurd (inl h) = h
IsExample-absurd (inr h) = h.1

-- the example of an item, in a list
example-of_IsExample : (xs : Items) (i : ℕ) (e : Data) → IsExample (array xs) i e → example xs i ≡ Some e
example-of_IsExample xs i e (inl h) = ap (first_or xs) h
example-of_IsExample xs i e (inr h) = ap (first_or xs) (Option-none_of_no_some (get_item i xs) h.0) ∙ h.1

IsExample-of_example : (xs : Items) (i : ℕ) (e : Data) → example xs i ≡ Some e → IsExample (array xs) i e
IsExample-of_example xs i e = go (get_item i xs) refl
  where
    go : (o : Option Data) → get_item i xs ≡ o → first_or xs o ≡ Some e → IsExample (array xs) i e
    go (Some t) at h = inl (at ∙ h)
    go None at h = inr (λ t found. none-some t (sym at ∙ found), h)

IsExample-iff_example : (x : Data) (i : ℕ) (e : Data) → IsExample x i e ↔ (example (expected_items x) i ≡ Some e)
IsExample-iff_example (array xs) i e = (example-of_IsExample xs i e, IsExample-of_example xs i e)
IsExample-iff_example x i e = (λ h. absurd (IsExample-absurd h), λ h. absurd (none-some e h))

-- ---- the whole

-- of a value that has no parts nothing more is asked
Fits-flat : (rules : Rules) (order : IsInOrder rules.body) (at : Location) (x y : Data) → meets_here rules at x y ≡ true
    → ((i : ℕ) (t : Data) → ¬ HasItem y i t) → ¬ IsObject y → ((k : List ℕ) (t : Data) → ¬ HasMember y k t)
    → Fits rules at x y
Fits-flat rules order at x y h no_item no_object no_member =
    fitting at x y (MeetsHere-of_meets_here rules order at x y h) (λ i e t is found. absurd (no_item i t found)) (λ k e is found. absurd (no_object found)) (λ k e t is found. absurd (no_member k t found))

mutual
  pub Fits-of_fits : (rules : Rules) (order : IsInOrder rules.body) (at : Location) (x y : Data) → fits rules at x y ≡ true → Fits rules at x y
  Fits-of_fits rules order at x (array ys) h =
      let both = and_parts (meets_here rules at x (array ys)) (items_fit rules at (expected_items x) 0 ys) h in
      fitting at x (array ys) (MeetsHere-of_meets_here rules order at x (array ys) both.0)
      (λ i e t is found. Fits-of_items_fit rules order at (expected_items x) 0 ys both.1 i i e t (omega arith) ((IsExample-iff_example x i e).0 is) found)
      (λ k e is found. absurd found) (λ k e t is found. absurd found)
  Fits-of_fits rules order at x (object gs) h =
      let both = and_parts (meets_here rules at x (object gs)) (has_keys_of (expected_members x) gs && members_fit rules at (expected_members x) gs) h in
      let members = and_parts (has_keys_of (expected_members x) gs) (members_fit rules at (expected_members x) gs) both.1 in
      fitting at x (object gs) (MeetsHere-of_meets_here rules order at x (object gs) both.0)
      (λ i e t is found. absurd found)
      (λ k e is found. let t = is_some-value (get_member k gs) (has_keys_of-get_member (expected_members x) gs members.0 k e ((Expects-iff_get_member x k e).0 is)) in (t.0, IsMember-of_get_member k gs t.0 t.1))
      (λ k e t is found. Fits-of_members_fit rules order at (expected_members x) gs members.1 k e t ((Expects-iff_get_member x k e).0 is) found)
  Fits-of_fits rules order at x y h = Fits-flat rules order at x y h (λ i t found. found) (λ is. is) (λ k t found. found)

  Fits-of_items_fit : (rules : Rules) (order : IsInOrder rules.body) (at : Location) (xs : Items) (i : ℕ) (ys : Items) → items_fit rules at xs i ys ≡ true
      → (j p : ℕ) (e t : Data) → p ≡ i + j → example xs p ≡ Some e → get_item j ys ≡ Some t → Fits rules (at ++ paths.item p ∷ []) e t
  Fits-of_items_fit rules order at xs i no_items h j p e t sum is found = absurd (none-some t found)
  Fits-of_items_fit rules order at xs i (item y ys) h zero p e t sum is found =
      let here_is : i ≡ p = omega arith in
      let both = and_parts (if_there (example xs i) (λ x. fits rules (at ++ paths.item i ∷ []) x y)) (items_fit rules at xs (suc i) ys) h in
      subst (λ p. Fits rules (at ++ paths.item p ∷ []) e t) here_is
      (subst (λ t. Fits rules (at ++ paths.item i ∷ []) e t) (same_Some y t found)
      (Fits-of_fits rules order (at ++ paths.item i ∷ []) e y (sym (ap (λ o. if_there o (λ x. fits rules (at ++ paths.item i ∷ []) x y)) (ap (example xs) here_is ∙ is)) ∙ both.0)))
  Fits-of_items_fit rules order at xs i (item y ys) h (suc j) p e t sum is found =
      let both = and_parts (if_there (example xs i) (λ x. fits rules (at ++ paths.item i ∷ []) x y)) (items_fit rules at xs (suc i) ys) h in
      Fits-of_items_fit rules order at xs (suc i) ys both.1 j p e t (omega arith) is found

  Fits-of_members_fit : (rules : Rules) (order : IsInOrder rules.body) (at : Location) (fs gs : Members) → members_fit rules at fs gs ≡ true
      → (k : List ℕ) (e t : Data) → get_member k fs ≡ Some e → IsMember gs k t → Fits rules (at ++ key k ∷ []) e t
  Fits-of_members_fit rules order at fs no_members h k e t is found = absurd found
  Fits-of_members_fit rules order at fs (member l y gs) h k e t is (inl found) =
      let both = and_parts (if_there (get_member l fs) (λ x. fits rules (at ++ key l ∷ []) x y)) (members_fit rules at fs gs) h in
      subst (λ k. Fits rules (at ++ key k ∷ []) e t) found.0
      (subst (λ t. Fits rules (at ++ key l ∷ []) e t) found.1
      (Fits-of_fits rules order (at ++ key l ∷ []) e y (sym (ap (λ o. if_there o (λ x. fits rules (at ++ key l ∷ []) x y)) (ap (λ m. get_member m fs) found.0 ∙ is)) ∙ both.0)))
  Fits-of_members_fit rules order at fs (member l y gs) h k e t is (inr found) =
      let both = and_parts (if_there (get_member l fs) (λ x. fits rules (at ++ key l ∷ []) x y)) (members_fit rules at fs gs) h in
      Fits-of_members_fit rules order at fs gs both.1 k e t is found

-- what fitting says of one location
record Parts (rules : Rules) (at : Location) (x y : Data) : Type 0 where
  meeting : MeetsHere rules at x y
  items : (i : ℕ) (e t : Data) → IsExample x i e → HasItem y i t → Fits rules (at ++ paths.item i ∷ []) e t
  keys : (k : List ℕ) (e : Data) → Expects x k e → IsObject y → (t : Data) × HasMember y k t
  members : (k : List ℕ) (e t : Data) → Expects x k e → HasMember y k t → Fits rules (at ++ key k ∷ []) e t

Fits-parts : (rules : Rules) (at : Location) (x y : Data) → Fits rules at x y → Parts rules at x y
Fits-parts rules _ _ _ (fitting at x y m i k f) = record { meeting = m; items = i; keys = k; members = f }

if_there-of_all : (o : Option Data) (test : Data → Bool) → ((e : Data) → o ≡ Some e → test e ≡ true) → if_there o test ≡ true
if_there-of_all None test h = refl
if_there-of_all (Some e) test h = h e refl

mutual
  pub fits-of_Fits : (rules : Rules) (order : IsInOrder rules.body) (at : Location) (x y : Data) → Fits rules at x y → fits rules at x y ≡ true
  fits-of_Fits rules order at x (array ys) h =
      let p = Fits-parts rules at x (array ys) h in
      and_from (meets_here rules at x (array ys)) (items_fit rules at (expected_items x) 0 ys) (meets_here-of_MeetsHere rules order at x (array ys) p.meeting)
      (items_fit-of_Fits rules order at (expected_items x) 0 ys (λ j q e t sum is found. let same : j ≡ q = omega arith in
      p.items q e t ((IsExample-iff_example x q e).1 is) (subst (λ n. get_item n ys ≡ Some t) same found)))
  fits-of_Fits rules order at x (object gs) h =
      let p = Fits-parts rules at x (object gs) h in
      and_from (meets_here rules at x (object gs)) (has_keys_of (expected_members x) gs && members_fit rules at (expected_members x) gs) (meets_here-of_MeetsHere rules order at x (object gs) p.meeting)
      (and_from (has_keys_of (expected_members x) gs) (members_fit rules at (expected_members x) gs)
      (has_keys_of-of_get_member (expected_members x) (expected_members x) gs (λ k t found. get_member-of_IsMember k (expected_members x) t found)
      (λ k e is. let t = p.keys k e ((Expects-iff_get_member x k e).1 is) tt in get_member-of_IsMember k gs t.0 t.1))
      (members_fit-of_Fits rules order at (expected_members x) gs (λ k e t is found. p.members k e t ((Expects-iff_get_member x k e).1 is) found)))
  fits-of_Fits rules order at x y h = meets_here-of_MeetsHere rules order at x y (Fits-parts rules at x y h).meeting

  items_fit-of_Fits : (rules : Rules) (order : IsInOrder rules.body) (at : Location) (xs : Items) (i : ℕ) (ys : Items)
      → ((j p : ℕ) (e t : Data) → p ≡ i + j → example xs p ≡ Some e → get_item j ys ≡ Some t → Fits rules (at ++ paths.item p ∷ []) e t) → items_fit rules at xs i ys ≡ true
  items_fit-of_Fits rules order at xs i no_items all = refl
  items_fit-of_Fits rules order at xs i (item y ys) all =
      and_from (if_there (example xs i) (λ x. fits rules (at ++ paths.item i ∷ []) x y)) (items_fit rules at xs (suc i) ys)
      (if_there-of_all (example xs i) (λ x. fits rules (at ++ paths.item i ∷ []) x y) (λ e is. fits-of_Fits rules order (at ++ paths.item i ∷ []) e y (all 0 i e y (omega arith) is refl)))
      (items_fit-of_Fits rules order at xs (suc i) ys (λ j p e t sum is found. all (suc j) p e t (omega arith) is found))

  members_fit-of_Fits : (rules : Rules) (order : IsInOrder rules.body) (at : Location) (fs gs : Members)
      → ((k : List ℕ) (e t : Data) → get_member k fs ≡ Some e → IsMember gs k t → Fits rules (at ++ key k ∷ []) e t) → members_fit rules at fs gs ≡ true
  members_fit-of_Fits rules order at fs no_members all = refl
  members_fit-of_Fits rules order at fs (member l y gs) all =
      and_from (if_there (get_member l fs) (λ x. fits rules (at ++ key l ∷ []) x y)) (members_fit rules at fs gs)
      (if_there-of_all (get_member l fs) (λ x. fits rules (at ++ key l ∷ []) x y) (λ e is. fits-of_Fits rules order (at ++ key l ∷ []) e y (all l e y is (inl (refl, refl)))))
      (members_fit-of_Fits rules order at fs gs (λ k e t is found. all k e t is (inr found)))

-- the computed form decides the relation
pub fits-iff_Fits : (rules : Rules) (order : IsInOrder rules.body) (at : Location) (x y : Data) → IsTrue (fits rules at x y) ↔ Fits rules at x y
fits-iff_Fits rules order at x y = (Fits-of_fits rules order at x y, fits-of_Fits rules order at x y)
