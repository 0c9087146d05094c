-- The entry that a walk chooses, and where a pattern comes from.
use Rattle.std.specs.List.{list_any}
use Rattle.std.proofs.Common.{◌≡◌, ◌∙◌, ℕ, zero, suc, Bool, true, List, [], ◌∷◌, map, Option, Some, None, option_map, option_and_then, IsTrue, ◌↔◌, subst, slice_get, refl, sym, ap}
use Rattle.std.proofs.{lemmas.Bool.{or_right}, lemmas.Option.{same_Some, slice_get-map}}
use Rattle.pact_paths.specs.Paths.{Location}
use Rattle.pact_rules.specs.{Matching.{entry_holds}, Walks.{own_place, own_place_of}, Rules.{Rules, IsInOrder, BodyRule, Entry, is_regex, has_regex}}
use Rattle.pact_rules.{specs.Choice.{best, chosen}, proofs.WalkLemmas.{IsThere, IsThere-best}}
use Rattle.serde_json.specs.Data.{Data}
use Rattle.pact_file.proofs.Steps.{option_map-some}
use Rattle.reply_check.{specs.{Computed.{meets_here, meets_rule, fits}, Fitting.{Fits}}, proofs.FittingLemmas.{fits-iff_Fits}}

-- ---- the chosen entry

entry_holds-own_place : (o : Option (ℕ × BodyRule)) (rules : List BodyRule) (at : Location) (index : ℕ) (e : Entry) (x y : Data) (own : Bool) → IsThere rules o → Some index ≡ option_map (λ (b : ℕ × BodyRule). b.0) o
    → slice_get (map (λ (r : BodyRule). r.entry) rules) index ≡ Some e → own ≡ own_place_of at o
    → entry_holds e x y own ≡ meets_rule (option_and_then (slice_get rules) (option_map (λ (b : ℕ × BodyRule). b.0) o)) at x y
entry_holds-own_place None rules at index e x y own is at_index there same = absurd cc
entry_holds-own_place (Some b) rules at index e x y own is at_index there same =
    let here : index ≡ b.0 = same_Some index b.0 at_index in
    let its : e ≡ b.1.entry = same_Some e b.1.entry (sym there ∙ ap (slice_get (map (λ (r : BodyRule). r.entry) rules)) here ∙ slice_get-map (λ (r : BodyRule). r.entry) rules b.0 ∙ ap (option_map (λ (r : BodyRule). r.entry)) is) in
    ap (λ e. entry_holds e x y own) its ∙ ap (entry_holds b.1.entry x y) same ∙ sym (ap (λ o. meets_rule o at x y) is)

-- the entry that is chosen says whether the two meet
pub meets_here-chosen : (rules : Rules) (at : Location) (index : ℕ) (e : Entry) (x y : Data) (own : Bool) → Some index ≡ chosen rules.body at
    → slice_get (map (λ (r : BodyRule). r.entry) rules.body) index ≡ Some e → own ≡ own_place rules.body at → entry_holds e x y own ≡ meets_here rules at x y
meets_here-chosen rules at index e x y own is there same = entry_holds-own_place (best rules.body at) rules.body at index e x y own (IsThere-best rules.body at) is there same

-- ---- patterns

pub list_any-of_slice_get : {A : Type 0} (p : A → Bool) (xs : List A) (i : ℕ) (x : A) → slice_get xs i ≡ Some x → p x ≡ true → list_any p xs ≡ true
list_any-of_slice_get p [] i x is h = absurd cc
list_any-of_slice_get p (y ∷ ys) zero x is h = rw (ap p (same_Some y x is) ∙ h) refl
list_any-of_slice_get p (y ∷ ys) (suc i) x is h = or_right (p y) (list_any p ys) (list_any-of_slice_get p ys i x is h)

-- a body entry with a pattern is in the table
pub has_regex-body_entry : (rules : Rules) (index : ℕ) (e : Entry) → slice_get (map (λ (r : BodyRule). r.entry) rules.body) index ≡ Some e → list_any is_regex e.matchers ≡ true → has_regex rules ≡ true
has_regex-body_entry rules index e is h =
    let at = option_map-some (λ (r : BodyRule). r.entry) (slice_get rules.body index) e (sym (slice_get-map (λ (r : BodyRule). r.entry) rules.body index) ∙ is) in
    let any = list_any-of_slice_get (λ (r : BodyRule). list_any is_regex r.entry.matchers) rules.body index at.0 at.1 (ap (λ e. list_any is_regex e.matchers) at.2 ∙ h) in
    rw any refl

-- ---- the relation

-- what is computed at the root decides the relation there
pub Fits-decided_at_root : (rules : Rules) (order : IsInOrder rules.body) (x y : Data) (b : Bool) → b ≡ fits rules [] x y → IsTrue b ↔ Fits rules [] x y
Fits-decided_at_root rules order x y b is = subst (λ b. IsTrue b ↔ Fits rules [] x y) (sym is) (fits-iff_Fits rules order [] x y)
