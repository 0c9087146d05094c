-- What the commands on results lead to, from what was read.
use Rattle.std.specs.{Prelude.{option_map, if◌then◌else◌}, Option.{option_map_or}}
use Rattle.std.proofs.Common.{◌≡◌, ℕ, ◌+◌, ◌==◌, List, [], ◌∷◌, ◌++◌, length, Bool, true, false, ◌&&◌, is_some, Option, Some, None, refl, sym, ap, subst, ◌∙◌, ◌≤◌, Ok, Result}
use Rattle.sqlite.specs.State.{State as Connection}
use Rattle.table_access.{specs.declared.StoreFault.{StoreFault}, proofs.CallLemmas.{CallsBetween-then_Ok, CallsBetween-then_call}}
use Rattle.broker_tables.{specs.{Failures.{LooksUpBetween}, Holds.{AnswersTakingBetween}, Numbers.{number_of}}, proofs.QueryLemmas.{Holds-same_database}}
use Rattle.broker_tables.proofs.{RoomLemmas.{TakesRoom-same}, NumberLemmas.{number_of-same_version}, Ties.{eqb-int_cmp}}
use Rattle.command_facts.proofs.PerformLemmas.{HoldsAfter-after_query}
use Rattle.broker_core.specs.{Text.{Text, same_bool, same_version, version}, State.{State, Verification}, Limit.{has_room}}
use Rattle.broker_core.specs.Change.{Transition, unchanged_with, can_name, report, result_of_run, says_same}
use Rattle.broker_core.specs.{Request.{is_known, Access, contract_of, first_absent, unless, is_allowed, refused, refusal}, declared.policy.Caller.{Caller}}
use Rattle.broker_core.specs.{declared.policy.Rule.TheVariants.{OwnerToVerify}, declared.command.Command.{Command}, declared.command.PactPath.{PactPath}}
use Rattle.broker_core.specs.{declared.command.Report.{Report}, declared.answer.Detail.{Detail}, declared.answer.Missing.{Missing}}
use Rattle.contract_tables.specs.{Verified.{Returned, returned_of, RecordsResult, AllowsResult}, declared.lookups.ResultRow.{ResultRow}}
use Rattle.contract_commands.specs.{Numbering.{NamesAs}, Pacts.{AsksContract}}
use Rattle.contract_commands.specs.Results.{HasPacticipant, reported_version, reported_result, Reports, returned_row, IsRowOf, IsNumbered, AllowsReport, recorded}
use Rattle.contract_commands.specs.{declared.results.Finding.{Finding}, declared.results.Reported.TheVariants.{Recorded, Full}}
use Rattle.contract_commands.{specs.declared.numbers.VersionNumber.{VersionNumber}, proofs.ContentThere.{HasContent-bounds}}
use Rattle.contract_commands.proofs.PactLemmas.{with_version-contents, with_version-results}
use Rattle.broker_core.specs.declared.answer.Answer.TheVariants as answer
use Rattle.broker_core.specs.declared.answer.Clash.TheVariants as clash
use Rattle.broker_core.specs.declared.answer.Missing.TheVariants as missing

-- ---- if nothing refuses

refused-first_present : (command : Command) (b may : Bool) (what : Missing) (rest : Option Missing) → refused command (unless b what rest) may ≡ None → b ≡ true
refused-first_present command true may what rest h = refl
refused-first_present command false may what rest h = absurd cc

-- the provider is there
pub HasPacticipant-of_allowed : (s : State) (caller : Caller) (path : PactPath) (command : Command) → AsksContract path OwnerToVerify (path.provider ∷ []) command → refusal s caller command ≡ None → HasPacticipant s path.provider
HasPacticipant-of_allowed s caller path command is none =
    let returned : refused command (first_absent s (contract_of path)) (is_allowed s caller command) ≡ None = sym (ap (λ (a : Access). refused command (first_absent s a.required) (is_allowed s caller command)) is) ∙ none in
    refused-first_present command (is_some (s.pacticipants path.provider)) (is_allowed s caller command) missing.Pacticipant _ returned

-- ---- a run that was used

-- the result that a row gives
pub IsRowOf-of_some : (s : State) (o : Option (ℕ × Verification)) (found : Option ResultRow) (row : ResultRow) → found ≡ Some row → option_map returned_row found ≡ option_map (returned_of s.versions) o → (e : ℕ × Verification) × (o ≡ Some e) × IsRowOf s row e
IsRowOf-of_some s o found row is h = by_result o (sym (ap (option_map returned_row) is) ∙ h) where
  by_result : (o : Option (ℕ × Verification)) → Some (returned_row row) ≡ option_map (returned_of s.versions) o → (e : ℕ × Verification) × (o ≡ Some e) × IsRowOf s row e
  by_result None g = absurd cc
  by_result (Some e) g = (e, refl, (let same : returned_row row ≡ returned_of s.versions e = cc in same))

pub returned_row-none : (s : State) (o : Option (ℕ × Verification)) (found : Option ResultRow) → found ≡ None → option_map returned_row found ≡ option_map (returned_of s.versions) o → o ≡ None
returned_row-none s o found is h = by_result o (sym (ap (option_map returned_row) is) ∙ h) where
  by_result : (o : Option (ℕ × Verification)) → None ≡ option_map (returned_of s.versions) o → o ≡ None
  by_result None g = refl
  by_result (Some e) g = absurd cc

-- ---- what is reported

module _ (s : State) (r : Verification) (unused : result_of_run s r.version.pacticipant r.run ≡ None) where
  abbrev newly : (ℕ → Detail) → Bool → Transition
  newly detail b = if b
      then record { answer = answer.Done (detail (length s.results + 1)); state = recorded s r }
      else unchanged_with s answer.Full

  newly-report : (detail : ℕ → Detail) (b : Bool) → (can_name s r.version && has_room s.results) ≡ b → newly detail b ≡ report s r detail
  newly-report detail b place =
      sym (ap (λ (o : Option (ℕ × Verification)). option_map_or (λ q. unchanged_with s (if says_same q.1 r then answer.Already (detail q.0) else answer.Taken clash.Run)) o (newly detail (can_name s r.version && has_room s.results))) unused
      ∙ ap (newly detail) place)

  pub Reports-recorded : (number : ℕ) (t : State) → (can_name s r.version && has_room s.results) ≡ true → number ≡ length s.results + 1 → t ≡ recorded s r → Reports s r (Recorded number) t
  Reports-recorded number t place is next = λ detail.
      let returned : ◌≡◌ {A = Transition} (record { answer = answer.Done (detail number); state = t }) (record { answer = answer.Done (detail (length s.results + 1)); state = recorded s r }) = (λ i. record { answer = answer.Done (detail (is i)); state = next i }) in
      returned ∙ newly-report detail true place

  pub Reports-full : (can_name s r.version && has_room s.results) ≡ false → Reports s r Full s
  Reports-full none = λ detail. newly-report detail false none

-- ---- whether two results say the same, by numbers

module _ (s : State) (provider : Text) (r : Report) (found : Finding) (row : ResultRow) (e : ℕ × Verification) (h : IsRowOf s row e) where
  row-content : row.content ≡ e.1.content
  row-content = ap (λ (t : Returned). t.1) h

  row-version_number : Some row.provider_version ≡ number_of s.versions e.1.version
  row-version_number = ap (λ (t : Returned). t.2) h

  row-pass : row.pass ≡ e.1.pass
  row-pass = ap (λ (t : Returned). t.3) h

  row-checked : row.checked ≡ e.1.checked
  row-checked = ap (λ (t : Returned). t.4) h

  pub says_same-of_row : (n : ℕ) → number_of s.versions (reported_version provider r) ≡ Some n
      → (row.content == found.content && (row.provider_version == n && (same_bool row.pass found.pass && same_bool row.checked found.checked))) ≡ says_same e.1 (reported_result provider r found)
  says_same-of_row n is =
      let ties : (row.provider_version == n) ≡ same_version e.1.version (reported_version provider r) = eqb-int_cmp row.provider_version n ∙ sym (number_of-same_version s.versions e.1.version (reported_version provider r) row.provider_version n (sym row-version_number) is) in
      λ i. (row-content i == found.content) && (ties i && (same_bool (row-pass i) found.pass && same_bool (row-checked i) found.checked))

-- ---- a result that is recorded

module _ (s t : State) (provider : Text) (r : Report) (found : Finding) (p : Text) (next number : ℕ) (of : p ≡ provider) (names : NamesAs (reported_version provider r) number s t) where
  results-unchanged : t.results ≡ s.results
  results-unchanged = ap (λ (u : State). u.results) names.0 ∙ with_version-results s (reported_version provider r)

  results-next_number : next ≡ length s.results + 1 → next ≡ length t.results + 1
  results-next_number is = is ∙ ap (λ (rows : List Verification). length rows + 1) (sym results-unchanged)

  -- the result is the last, and its version was named
  pub RecordsResult-of_named : next ≡ length s.results + 1 → RecordsResult next found.content p number found.pass found.checked r.run t (record t { results = t.results ++ reported_result provider r found ∷ [] })
  RecordsResult-of_named is = (reported_version provider r, names.1, sym of, results-next_number is, refl)

  pub recorded-of_named : record t { results = t.results ++ reported_result provider r found ∷ [] } ≡ recorded s (reported_result provider r found)
  recorded-of_named = λ i. record (names.0 i) { results = results-unchanged i ++ reported_result provider r found ∷ [] }

  -- the tables allow the result, if its run is new and its content is there
  pub AllowsResult-of_report : (version : VersionNumber) → AllowsReport provider r found version next s → AllowsResult next found.content p number r.run t
  AllowsResult-of_report version can =
      let there = HasContent-bounds s found.content can.2 in (
        reported_version provider r,
        names.1,
        sym of,
        results-next_number can.1,
        there.0,
        subst (λ (texts : List Text). found.content ≤ length texts) (sym (ap (λ (u : State). u.contents) names.0 ∙ with_version-contents s (reported_version provider r))) there.1,
        (λ i. result_of_run (record t { results = results-unchanged i }) (of i) r.run) ∙ can.0.1,
      )

-- ---- calls that a report makes

-- the answer is what was read, and nothing changes
pub AnswersTakingBetween-query : {A B : Type 0} (old new : Connection) (a : A) (b : B) (P : A → State → Type 0) (Allows : State → Type 0) (Next : B → State → State → Type 0) → ((s : State) → Allows s → P a s → Next b s s) → LooksUpBetween false old new (Ok a) P → AnswersTakingBetween 4 old new (Ok b) Allows Next
AnswersTakingBetween-query old new a b P Allows Next f it =
    CallsBetween-then_Ok old new a b _ _ (λ read s held may. let first = read s held in (s, f s may first.0, (Holds-same_database old new s first.1 held, TakesRoom-same 4 old.now new.now first.1))) it.call

-- what was read AllowsResult-of_report changes
pub AnswersTakingBetween-query_then : {A B : Type 0} (old mid new : Connection) (a : A) (r : Result B StoreFault) (P : A → State → Type 0) (Allows Then : State → Type 0) (Next Last : B → State → State → Type 0)
    → ((s : State) → Allows s → P a s → Then s × ((b : B) (t : State) → Next b s t → Last b s t)) → LooksUpBetween false old mid (Ok a) P → AnswersTakingBetween 4 mid new r Then Next → AnswersTakingBetween 4 old new r Allows Last
AnswersTakingBetween-query_then old mid new a r P Allows Then Next Last f one two =
    CallsBetween-then_call old mid new a r _ _ _ (λ read b puts s held may.
    let first = read s held in
    let go = f s may first.0 in
    let made = puts s (Holds-same_database old mid s first.1 held) go.0 in
    (made.0, go.1 b made.0 made.1, HoldsAfter-after_query 4 old mid new made.0 first.1 made.2)) one.call two

-- ---- the version that a report is of

pub IsNumbered-of_names : (s : State) (provider : Text) (r : Report) (p name : Text) (number : Option ℕ) → p ≡ provider → name ≡ r.provider_version → (number ≡ number_of s.versions (version p name)) × (is_some number ≡ is_known s (version p name)) → IsNumbered s (reported_version provider r) number
IsNumbered-of_names s provider r p name number is called h = record {
  number_is = sym (h.0 ∙ (λ i. number_of s.versions (version (is i) (called i))));
  known_is = sym (h.1 ∙ (λ i. is_known s (version (is i) (called i))));
}
