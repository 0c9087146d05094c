use Rattle.std.{specs.{Prelude.{Contains, option_map, IsSorted}, Ordering.{nat_cmp}}, proofs.Common.{subst, ℕ, ◌≡◌, arith, Some, Ok, map, true}}
use Rattle.sqlite.specs.{Held.{state}, State.{HasCleanDisk}, Effect.{Database}}
use Rattle.broker_core.specs.{declared.command.Version.{Version}, Listing.{Lists}, State.{latest_result}}
use Rattle.broker_tables.{specs.Numbers.{number_of}, proofs.{QueryLemmas.{LooksUpBetween-then_failed, LooksUpBetween-then}, AnyTables.{CanBeAsked-unchanged}}}
use Rattle.contract_tables.{specs.{VersionResults.{pass_cmp, IsPassOf, marked}, LatestRows.{IsCheckedFor}}, proofs.QueryLemmas.{LooksUpBetween-computed}}
use Rattle.contract_tables.proofs.{AnyLatest.{AreRead-map_marked, AreLatestIn-found, FailsAsListed-after_query}, VersionResults.{Lists-latest_results}}
use Rattle.contract_tables.proofs.version_results.latest_results.Goals as goal

pub returns-in-Ok-with_marks-clause-answers : goal.returns-in-Ok-with_marks-clause-answers
returns-in-Ok-with_marks-clause-answers g c =
    let n = c.args.version_number in
    let passes = c.in-Ok.value in
    let checked = c.in-Ok-checked_of.value in
    let found = c.in-Ok-with_marks.found in
    LooksUpBetween-computed _ _ checked (Ok found)
    (λ marks s. ((v : Version) → number_of s.versions v ≡ Some n → Lists pass_cmp (IsPassOf s v) passes.items)
    × ((v : Version) → number_of s.versions v ≡ Some n → Lists nat_cmp (λ content. option_map (λ e. e.1.checked) (latest_result s content v) ≡ Some true) marks.items))
    (λ found. IsSorted nat_cmp checked.items → found.items ≡ map (marked checked.items) passes.items) _
    (λ s read found made v is. Lists-latest_results s v checked.items (read.1 v is) passes.items found.items (read.0 v is) made)
    (AreRead-map_marked checked.items passes.items found.items (rw (c.deref.ensures.value, c.deref-2.ensures.value) at c.in-Ok-with_marks.ensures)) tt
    (LooksUpBetween-then _ _ _ passes _ _ _ _ (λ s one marks two. (one, two)) c.in-Ok.ensures.answers c.in-Ok-checked_of.ensures.answers)

pub returns-in-Err-checked_of-clause-answers : goal.returns-in-Err-checked_of-clause-answers
returns-in-Err-checked_of-clause-answers g c =
    LooksUpBetween-then_failed _ _ _ c.in-Ok.value c.in-Err-checked_of.fault _ _ _ c.in-Ok.ensures.answers c.in-Err-checked_of.ensures.answers

pub returns-in-Ok-with_marks-clause-mark : goal.returns-in-Ok-with_marks-clause-mark
returns-in-Ok-with_marks-clause-mark g c clean asked =
    let n = c.args.version_number in
    let old = state g.S.Store c.args.conn.now in
    let mid = state g.S.Store c.passes_of.new.conn in
    let mid_clean : HasCleanDisk mid = omega (arith, c.in-Ok-checked_of.ensures.answers.call.survives.clean, clean) in
    let same = c.in-Ok.ensures.stays mid_clean asked in
    let marks = c.in-Ok-checked_of.ensures.mark clean (CanBeAsked-unchanged old mid same c.in-Ok.ensures.answers.call.survives.limit asked) in
    AreLatestIn-found n old.now c.in-Ok.value.items c.in-Ok-checked_of.value.items c.in-Ok-with_marks.found.items (rw (c.deref.ensures.value, c.deref-2.ensures.value) at c.in-Ok-with_marks.ensures)
    (c.in-Ok.ensures.mark mid_clean asked)
    (subst (λ (db : Database). (k : ℕ) → Contains c.in-Ok-checked_of.value.items k → IsCheckedFor n db k) same.0.now_is marks)

pub returns-in-Err-checked_of-clause-mark : goal.returns-in-Err-checked_of-clause-mark
returns-in-Err-checked_of-clause-mark g c clean asked =
    let old = state g.S.Store c.args.conn.now in
    let mid = state g.S.Store c.passes_of.new.conn in
    let new = state g.S.Store c.checked_of.new.conn in
    let mid_clean : HasCleanDisk mid = omega (arith, c.in-Err-checked_of.ensures.answers.call.survives.clean, clean) in
    let same = c.in-Ok.ensures.stays mid_clean asked in
    FailsAsListed-after_query c.args.version_number old mid new c.in-Err-checked_of.fault same c.in-Ok.ensures.answers.call.survives.counts
    (c.in-Err-checked_of.ensures.mark clean (CanBeAsked-unchanged old mid same c.in-Ok.ensures.answers.call.survives.limit asked))
