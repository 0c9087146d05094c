-- Looking into values, and finding patterns.
use Rattle.std.specs.{Str.Iter.{HasSubslice}, Str.Pattern.{HasMatch, FindsText}}
use Rattle.std.proofs.Common.{eqb, vec_len, Vec, MatchBool, ◌&&◌, ◌≡◌, ◌↔◌, take, drop, length, ◌++◌, ⊎_elim, ℕ, Bool, true, List, [], ◌∷◌, Option, Some, None, option_map, is_some, String, Global, string_bytes, refl, sym, ap, ◌∙◌, arith}
use Rattle.std.proofs.{lemmas.Slice.Eq.{bytes_eq-Decides}, lemmas.Bool.{or_cases, or_right}, lemmas.Bool.Decides.{same_from_decides}}
use Rattle.std.proofs.{lemmas.List.{take_at, take-append-drop}, lemmas.Str.Pattern.{contains_text}}
use Rattle.pact_rules.specs.{Matching.{begins, contains, are_alike, within, at_least, at_most, holds, passes, text_form}, RuleViews.{matcher_view}}
use Rattle.pact_rules.specs.declared.table.Matcher.TheVariants.{Include}
use Rattle.serde_json.specs.{Data.{Data, array}, View.{view, items_view}, declared.value.Value.{Value, Array}, Events.{items_len}}
use Rattle.serde_json.proofs.Views.{view-Array, items_len-items_view}
use Rattle.pact_rules.specs.declared.table.Matcher as code

pub is_some-view : (o : Option Value) → is_some (option_map view o) ≡ is_some o
is_some-view None = refl
is_some-view (Some t) = refl

-- ---- a text in a text

HasSubslice-of_begins : (part bs : List ℕ) → begins part bs ≡ true → HasSubslice bs part
HasSubslice-of_begins part bs h = ([], drop (length part) bs, sym (ap (λ xs. xs ++ drop (length part) bs) ((bytes_eq-Decides part (take (length part) bs)).0 h) ∙ take-append-drop (length part) bs))

pub contains-sound : (part bs : List ℕ) → contains part bs ≡ true → HasSubslice bs part
contains-sound part [] h = HasSubslice-of_begins part [] h
contains-sound part (b ∷ bs) h =
    ⊎_elim (λ e. HasSubslice-of_begins part (b ∷ bs) e) (λ e. let rest = contains-sound part bs e in (b ∷ rest.0, rest.1, ap (λ xs. b ∷ xs) rest.2)) (or_cases (begins part (b ∷ bs)) (contains part bs) h)

contains-of_begins : (part bs : List ℕ) → begins part bs ≡ true → contains part bs ≡ true
contains-of_begins part [] h = h
contains-of_begins part (b ∷ bs) h = rw h refl

pub contains-complete : (part a b : List ℕ) → contains part (a ++ (part ++ b)) ≡ true
contains-complete part [] b = contains-of_begins part (part ++ b) ((bytes_eq-Decides part (take (length part) (part ++ b))).1 (sym (take_at part b (length part) refl)))
contains-complete part (x ∷ a) b = or_right (begins part (x ∷ (a ++ (part ++ b)))) (contains part (a ++ (part ++ b))) (contains-complete part a b)

pub contains-unique : (r : Bool) (part bs : List ℕ) → (r ≡ true) ↔ HasSubslice bs part → r ≡ contains part bs
contains-unique r part bs h =
    same_from_decides r (contains part bs) h (contains-sound part bs, λ s. ap (contains part) s.2 ∙ contains-complete part s.0 s.1)

-- ---- the arms

-- the JSON array that a vector of values is has as many items as the vector has elements
pub items_len-vec_len : (v : Vec Value Global) → items_len (items_view v.items) ≡ vec_len v
items_len-vec_len v = items_len-items_view v.items ∙ omega (arith, v.ok)

pub are_alike-arrays : (a b : Value) (v w : Vec Value Global) (m n : ℕ) → a ≡ Array v → b ≡ Array w → m ≡ vec_len v → n ≡ vec_len w → eqb m n ≡ are_alike (view a) (view b)
are_alike-arrays a b v w m n ea eb em en =
    ap (λ k. eqb k n) em ∙ ap (eqb (vec_len v)) en
    ∙ sym (ap (λ x. are_alike x (view b)) (ap view ea ∙ view-Array v) ∙ ap (are_alike (array (items_view v.items))) (ap view eb ∙ view-Array w)
    ∙ ap (λ k. eqb k (items_len (items_view w.items))) (items_len-vec_len v) ∙ ap (eqb (vec_len v)) (items_len-vec_len w))

pub within-arrays : (min max : Option ℕ) (a b : Value) (v w : Vec Value Global) (n : ℕ) → a ≡ Array v → b ≡ Array w → n ≡ vec_len w → within min max (view a) (view b) ≡ (at_least min n && at_most max n)
within-arrays min max a b v w n ea eb en =
    ap (λ x. within min max x (view b)) (ap view ea ∙ view-Array v) ∙ ap (within min max (array (items_view v.items))) (ap view eb ∙ view-Array w)
    ∙ ap (λ k. at_least min k && at_most max k) (items_len-vec_len w ∙ sym en)

pub holds-include : (m : code.Matcher) (x y : Data) (own : Bool) (part : String Global) (t p : List ℕ) (r : Bool) → m ≡ Include part → Some t ≡ text_form y → p ≡ string_bytes part
    → MatchBool r (HasMatch (FindsText p) t) (FindsText p t None) → r ≡ holds (matcher_view m) x y own
holds-include m x y own part t p r em et ep h =
    contains-unique r p t (contains_text r p t h) ∙ ap (λ q. contains q t) ep ∙ ap (passes (contains (string_bytes part))) et ∙ ap (λ n. holds (matcher_view n) x y own) (sym em)
