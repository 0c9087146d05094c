-- The numbers that versions and results have or get.
use Rattle.std.specs.Prelude.{if◌then◌else◌}
use Rattle.std.proofs.Common.{◌≡◌, ◌+◌, ◌||◌, ℕ, true, false, is_some, IsTrue, Bool, Option, Some, None, [], ◌∷◌, ◌++◌, refl, sym, ap, ◌∙◌, subst}
use Rattle.broker_core.specs.{Limit.{has_room}, Change.{can_name}, Request.{is_known}, State.{State}, declared.command.Version.{Version}}
use Rattle.broker_tables.specs.Numbers.{number_of}
use Rattle.registry_tables.specs.Registry.{AddsVersion, AllowsVersionAs}
use Rattle.contract_commands.specs.{Numbering.{IsNumberFor, CanName, NamesAs}, declared.numbers.VersionNumber.{VersionNumber}}
use Rattle.contract_commands.specs.declared.numbers.VersionNumber.TheVariants.{Old, New}

-- ---- a version that is named

module _ (s : State) (v : Version) where
  abbrev named_by : Bool → State
  named_by b = if b then s else record s { versions = s.versions ++ v ∷ [] }

  pub NamesAs-old : (n : ℕ) → CanName s v (Old n) → NamesAs v n s s
  NamesAs-old n can = (sym (ap named_by (can.known_is ∙ ap is_some can.number_is)), can.number_is)

  pub CanName-new_unknown : (n : ℕ) → CanName s v (New n) → is_known s v ≡ false
  CanName-new_unknown n can = can.known_is ∙ ap is_some can.number_is.0

  pub AllowsVersionAs-new : (n : ℕ) → CanName s v (New n) → AllowsVersionAs n v s
  AllowsVersionAs-new n can = ((CanName-new_unknown n can, can.owned, can.number_is.1), can.number_is.2)

  pub NamesAs-new : (n : ℕ) (t : State) → CanName s v (New n) → AddsVersion v n s t → NamesAs v n s t
  NamesAs-new n t can adds = (adds.0 ∙ sym (ap named_by (CanName-new_unknown n can)), adds.2)

  or-right : (a b : Bool) → b ≡ true → (a || b) ≡ true
  or-right true b is = refl
  or-right false b is = is

  -- it has a number or may get one
  pub can_name-true : (number : VersionNumber) → CanName s v number → can_name s v ≡ true
  can_name-true (Old n) can = ap (λ b. b || has_room s.versions) (can.known_is ∙ ap is_some can.number_is)
  can_name-true (New n) can = or-right (is_known s v) (has_room s.versions) can.number_is.1

  -- it has none, and there is no room for one more
  pub can_name-false : (own : Option ℕ) → is_known s v ≡ is_some own → IsNumberFor s.versions own None → can_name s v ≡ false
  can_name-false own known none = λ i. (known ∙ ap is_some none.0) i || none.1 i

  -- the version has this number, if it has one, and so it may be named
  pub CanName-of_number : (own : Option ℕ) (number : VersionNumber) → number_of s.versions v ≡ own → is_known s v ≡ is_some own → IsTrue (is_some (s.pacticipants v.pacticipant)) → IsNumberFor s.versions own (Some number) → CanName s v number
  CanName-of_number own number is known owned it = record {
    number_is = subst (λ o. IsNumberFor s.versions o (Some number)) (sym is) it;
    known_is = known ∙ ap is_some (sym is);
    owned = owned;
  }
