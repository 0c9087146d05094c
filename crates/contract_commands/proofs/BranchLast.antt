-- The version that a branch shows, from the numbers of versions.
use Rattle.std.specs.{Prelude.{is_some, option_and_then, Result, Ok, Err}, List.{AllByRecursion, enumerate_from, last_or}}
use Rattle.std.proofs.Common.{◌≡◌, ◌≤◌, ◌<◌, ◌+◌, ℕ, ℤ, pos, List, [], ◌∷◌, map, length, filter, Bool, true, false, cond, ◌&&◌, nat_lt, Option, Some, None, refl, sym, ap, ◌∙◌, subst, arith}
use Rattle.std.proofs.lemmas.Bool.{and_parts, ltb-true, ltb-false}
use Rattle.sqlite.specs.{Order.{Row}, Effect.{Database}}
use Rattle.table_access.{specs.Columns.{text, whole_at}, proofs.SoundLemmas.{all_of}}
use Rattle.broker_core.specs.{Text.{Text, same_text, version}, State.{State}, Change.{text_of, unchanged_with}, Machine.{StepOfCaller}}
use Rattle.broker_core.specs.{Request.{branch_version, refusal, refused, unless, has_grant}, declared.answer.Answer.{Answer}}
use Rattle.broker_core.specs.{declared.command.Command.TheVariants.{GetBranchPact}, declared.command.Version.{Version}, declared.policy.Caller.{Caller}}
use Rattle.broker_core.specs.declared.policy.Rule.TheVariants.{OwnerOrOfficeToRead}
use Rattle.broker_tables.{specs.{Schema.{in_versions}, Numbers.{number_of}, Holds.{Holds}}, proofs.NumberLemmas.{number_of-bounds, number_of-injective}}
use Rattle.broker_tables.proofs.VersionRows.{number_of-version_row, false_if}
use Rattle.content_store.proofs.TextNumbers.{same_is, same_itself}
use Rattle.contract_commands.specs.BranchPact.{NoneFrom, IsNextBelow, IsBranchContent, ReachesBranch}
use Rattle.contract_commands.specs.{Pacts.{AreSidesRead, missing_of_branch, Admits, ShowsReached}, declared.sides.Sides.{Sides}}
use Rattle.command_facts.{specs.Primitives.{broker_primitives}, proofs.CallerSteps.{StepOfCaller-refused, StepOfCaller-effect}}
use Rattle.broker_core.specs.declared.answer.Missing.TheVariants as missing

-- ---- versions whose places in the list are their numbers

module _ (versions : List Version) where
  -- from this number on
  abbrev pub ArePresentFrom : ℕ → List Version → Type 0
  ArePresentFrom n [] = Unit {0}
  ArePresentFrom n (x ∷ xs) = (number_of versions x ≡ Some n) × ArePresentFrom (n + 1) xs

  module _ (test : Version → Bool) where
    -- if none passes, none is the last
    none_last : (n : ℕ) (xs : List Version) → ArePresentFrom n xs → (o : Option Version) → ((v : Version) (k : ℕ) → number_of versions v ≡ Some k → n ≤ k → test v ≡ false) → last_or o (filter test xs) ≡ o
    none_last n [] are_there o none = refl
    none_last n (x ∷ xs) are_there o none =
        ap (λ b. last_or o (cond b (x ∷ filter test xs) (filter test xs))) (none x n are_there.0 (omega arith))
        ∙ none_last (n + 1) xs are_there.1 o (λ v k is low. none v k is (omega (arith, low)))

    -- the one with the greatest number that passes is the last
    greatest_last : (n : ℕ) (xs : List Version) → ArePresentFrom n xs → (o : Option Version) (v : Version) (k : ℕ) → number_of versions v ≡ Some k → test v ≡ true
        → ((w : Version) (m : ℕ) → number_of versions w ≡ Some m → test w ≡ true → m ≤ k) → n ≤ k → k < n + length xs → last_or o (filter test xs) ≡ Some v
    greatest_last n [] are_there o v k is passes top low high = absurd (omega (arith, low, high))
    greatest_last n (x ∷ xs) are_there o v k is passes top low high =
        go (nat_lt n k) refl (λ p over below. greatest_last (n + 1) xs are_there.1 p v k is passes top over below)
      where
        pick : (u : Bool) → ((p : Option Version) → last_or p (filter test xs) ≡ Some v) → last_or o (cond u (x ∷ filter test xs) (filter test xs)) ≡ Some v
        pick true later = later (Some x)
        pick false later = later o

        go : (b : Bool) → nat_lt n k ≡ b → ((p : Option Version) → n + 1 ≤ k → k < n + 1 + length xs → last_or p (filter test xs) ≡ Some v) → last_or o (filter test (x ∷ xs)) ≡ Some v
        go true e later =
            let above = ltb-true n k e in
            pick (test x) (λ p. later p (omega (arith, above)) (omega (arith, high)))
        go false e later =
            let near = ltb-false n k e in
            let nats : n ≡ k = omega (arith, low, near) in
            let same : x ≡ v = number_of-injective versions x v k (are_there.0 ∙ ap Some nats) is in
            ap (λ b. last_or o (cond b (x ∷ filter test xs) (filter test xs))) (ap test same ∙ passes)
            ∙ none_last (n + 1) xs are_there.1 (Some x) (λ w m at far. false_if (test w) (λ passing. let over = top w m at passing in omega (arith, far, over, near))) ∙ ap Some same

-- ---- and so do those of a state that a database holds

abbrev entry : Row → ℤ × Version
entry r = (whole_at in_versions.number r, version (text in_versions.pacticipant r) (text in_versions.version r))

abbrev head_of : ℤ × Version → List (ℤ × Version) → ℤ × Version
head_of other [] = other
head_of other (e ∷ es) = e

abbrev rest_of : List (ℤ × Version) → List (ℤ × Version)
rest_of [] = []
rest_of (e ∷ es) = es

module _ (versions : List Version) where
  abbrev HasNumber : Row → Type 0
  HasNumber r = (k : ℕ) × (number_of versions (version (text in_versions.pacticipant r) (text in_versions.version r)) ≡ Some k) × (whole_at in_versions.number r ≡ pos k)

  ArePresentFrom-enumerate : (n : ℕ) (xs : List Version) (rows : List Row) → map entry rows ≡ map (λ e. (pos e.0, e.1)) (enumerate_from n xs) → AllByRecursion HasNumber rows → ArePresentFrom versions n xs
  ArePresentFrom-enumerate n [] rows is each = tt
  ArePresentFrom-enumerate n (x ∷ xs) [] is each = absurd (let e = is in cc)
  ArePresentFrom-enumerate n (x ∷ xs) (r ∷ rows) is each =
      let here : entry r ≡ (pos n, x) = ap (head_of (pos n, x)) is in
      let ints : pos each.0.0 ≡ pos n = sym each.0.2 ∙ ap (λ (e : ℤ × Version). e.0) here in
      let nats : each.0.0 ≡ n = cc in
      (ap (number_of versions) (sym (ap (λ (e : ℤ × Version). e.1) here)) ∙ each.0.1 ∙ ap Some nats, ArePresentFrom-enumerate (n + 1) xs rows (ap rest_of is) each.1)

ArePresentFrom-versions : (db : Database) (s : State) → Holds db s → ArePresentFrom s.versions 1 s.versions
ArePresentFrom-versions db s held = ArePresentFrom-enumerate s.versions 1 s.versions (db.trees in_versions.tree) held.versions (all_of (HasNumber s.versions) (db.trees in_versions.tree) (λ r has. number_of-version_row db held.broker s.versions held.versions r has))

-- ---- the version that the branch shows

module _ (s : State) (provider consumer branch : Text) where
  abbrev passes : Version → Bool
  passes v = same_text v.pacticipant consumer && (s.branches (v, branch) && is_some (s.contracts (v, provider)))

  passes-parts : (v : Version) → passes v ≡ true → (v.pacticipant ≡ consumer) × (s.branches (v, branch) ≡ true) × (is_some (s.contracts (v, provider)) ≡ true)
  passes-parts v h =
      let one = and_parts (same_text v.pacticipant consumer) (s.branches (v, branch) && is_some (s.contracts (v, provider))) h in
      let two = and_parts (s.branches (v, branch)) (is_some (s.contracts (v, provider))) one.1 in
      (same_is v.pacticipant consumer one.0, two.0, two.1)

  -- no version from the bound on passes
  passes-below_bound : (bound : ℕ) → NoneFrom s provider consumer branch bound → (v : Version) (n : ℕ) → number_of s.versions v ≡ Some n → passes v ≡ true → n < bound
  passes-below_bound bound none v n is passing = go (nat_lt n bound) refl
    where
      go : (b : Bool) → nat_lt n bound ≡ b → n < bound
      go true e = ltb-true n bound e
      go false e =
          let it = passes-parts v passing in
          let has : is_some (s.contracts (v, provider)) ≡ false = ap is_some (none v n is (ltb-false n bound e) it.0 it.1) in
          absurd (let clash : true ≡ false = sym it.2 ∙ has in cc)

  -- the bound that is above all numbers
  pub NoneFrom-above_all : (bound : ℕ) → bound ≡ length s.versions + 1 → NoneFrom s provider consumer branch bound
  NoneFrom-above_all bound is v n number low owner on = absurd (let it = number_of-bounds s.versions v n number in omega (arith, is, low, it.1))

  -- the next version has no contract with the provider
  pub NoneFrom-next_without_content : (bound next : ℕ) → NoneFrom s provider consumer branch bound → IsNextBelow s provider consumer branch bound (Some (record { number = next; content = None })) → NoneFrom s provider consumer branch next
  NoneFrom-next_without_content bound next none found v n is low owner on = go (nat_lt n bound) refl
    where
      go : (b : Bool) → nat_lt n bound ≡ b → s.contracts (v, provider) ≡ None
      go true e =
          let high = found.0.2 n (v, is, owner, on) (ltb-true n bound e) in
          let nats : n ≡ next = omega (arith, low, high) in
          sym (found.1 v (is ∙ ap Some nats))
      go false e = none v n is (ltb-false n bound e) owner on

  module _ (db : Database) (held : Holds db s) where
    -- no version is left
    pub none_shown : (bound : ℕ) → NoneFrom s provider consumer branch bound → IsNextBelow s provider consumer branch bound None → IsBranchContent s provider consumer branch None
    none_shown bound none found = none_last s.versions passes 1 s.versions (ArePresentFrom-versions db s held) None (λ v n is low. false_if (passes v) (λ passing.
        let it = passes-parts v passing in
        let near = passes-below_bound bound none v n is passing in
        let far = found n (v, is, it.0, it.1) in
        omega (arith, near, far)))

    -- the next version has a contract with the provider: it is the one that the branch shows
    pub found_shown : (bound next content : ℕ) → NoneFrom s provider consumer branch bound → IsNextBelow s provider consumer branch bound (Some (record { number = next; content = Some content })) → IsBranchContent s provider consumer branch (Some content)
    found_shown bound next content none found =
        let on = found.0.0 in
        let v = on.0 in
        let has : s.contracts (v, provider) ≡ Some content = sym (found.1 v on.1) in
        let fits = number_of-bounds s.versions v next on.1 in
        let all : passes v ≡ true = (λ i. same_text (on.2 i) consumer && (on.3 i && is_some (has i))) ∙ ap (λ b. b && true) (same_itself consumer) in (
          v,
          greatest_last s.versions passes 1 s.versions (ArePresentFrom-versions db s held) None v next on.1 all
              (λ w m is also. let it = passes-parts w also in found.0.2 m (w, is, it.0, it.1) (passes-below_bound bound none w m is also))
              fits.0 (omega (arith, fits.1)),
          has,
        )

-- ---- what is shown of it

module _ (s : State) (caller : Caller) (provider consumer branch : Text) where
  IsBranchContent-is_some : (content : Option ℕ) → IsBranchContent s provider consumer branch content → is_some (branch_version s provider consumer branch) ≡ is_some content
  IsBranchContent-is_some None it = ap is_some it
  IsBranchContent-is_some (Some n) it = ap is_some it.1

  module _ (found : Sides) (content : Option ℕ) (sides : AreSidesRead s caller OwnerOrOfficeToRead (provider ∷ consumer ∷ []) provider consumer found) (is : IsBranchContent s provider consumer branch content) where
    -- the command is refused as its sides and its contract say
    branch_refused : refusal s caller (GetBranchPact provider consumer branch)
        ≡ refused (GetBranchPact provider consumer branch) (missing_of_branch found content) found.is_allowed
    branch_refused =
        let may = sides.may_is (has_grant s caller None) in
        let shown = IsBranchContent-is_some content is in
        λ i. refused (GetBranchPact provider consumer branch) (unless (sides.provider_is i) missing.Pacticipant (unless (sides.consumer_is i) missing.Pacticipant (unless (shown i) missing.Contract None))) (may i)

    pub reaches_branch : (r : Result ℕ Answer) → Admits OwnerOrOfficeToRead content (missing_of_branch found content) found.is_allowed r → ReachesBranch s caller provider consumer branch r
    reaches_branch (Ok n) it = (subst (IsBranchContent s provider consumer branch) it.0 is, branch_refused ∙ it.1 (GetBranchPact provider consumer branch) refl)
    reaches_branch (Err answer) it = branch_refused ∙ it (GetBranchPact provider consumer branch) refl

  pub StepOfCaller-branch_pact : (place : Result ℕ Answer) (answer : Answer) → ReachesBranch s caller provider consumer branch place → ShowsReached s place answer → StepOfCaller broker_primitives s caller (GetBranchPact provider consumer branch) (unchanged_with s answer)
  StepOfCaller-branch_pact (Ok content) answer reach it =
      let shown_as = reach.0 in
      StepOfCaller-effect s caller (GetBranchPact provider consumer branch) refl (unchanged_with s answer) reach.1
      (shown_as.0, shown_as.1, (it.0, ap (option_and_then (text_of s)) shown_as.2 ∙ it.1, ap (unchanged_with s) it.2))
  StepOfCaller-branch_pact (Err refusal) answer reach it =
      subst (λ a. StepOfCaller broker_primitives s caller (GetBranchPact provider consumer branch) (unchanged_with s a)) (sym it) (StepOfCaller-refused s caller (GetBranchPact provider consumer branch) refl refusal reach)
