use Rattle.std.{specs.Prelude.{option_map}, proofs.{Common.{◌∙◌, ap, pos, inl, inr}, lemmas.Result.{IfOk-weaker, IfErr-weaker, MatchResult-from_both}}}
use Rattle.sqlite.specs.declared.types.Value.TheVariants.{Int}
use Rattle.table_access.proofs.Answered.{slice_get-has_first}
use Rattle.broker_tables.proofs.{AnyTables.{IsRefusedAs-ends}, TableQuery.{Shown-IsShown, Shown-now_same, FailsToTake-explained_number}}
use Rattle.broker_tables.proofs.{QueryLemmas.{LooksUpBetween-read_result, LooksUpBetween-read_Err}, TruthLemmas.{mark_of-option_map}}
use Rattle.registry_tables.proofs.EnvironmentRows.{gated, IsShown-gated, EachReads-gated, IsTruthAt-not_above_one, IsTruthAt-IsNumberRow, Asks-HasBrokerTables, IsMarkIn-found, HasNoMark-shown}
use Rattle.registry_tables.proofs.environments.gated.Goals as goal

pub returns-clause-answers : goal.returns-clause-answers
returns-clause-answers g c =
    let e = c.args.environment.now in
    LooksUpBetween-read_result _ _ c.in-Ok.value c.truth_of.result _ _
    (IfOk-weaker c.truth_of.result _ _ (λ truth is h s held. (
      is ∙ IsShown-gated e _ h.0 s c.in-Ok.value held (Shown-IsShown (gated e) _ _ held.broker h.0 h.1) h.2,
      Shown-now_same (gated e) _ _ held.broker h.0 h.1,
    )) c.truth_of.ensures.ok)
    (λ none. IfErr-weaker c.truth_of.result _ _ (λ fault why. why.0) c.truth_of.ensures.cause)
    (λ s here h. IfErr-weaker c.truth_of.result _ _ (λ fault why.
    let it = IsTruthAt-not_above_one c.in-Ok.value _ h.2 why.1 in
    it.2 (EachReads-gated e _ s here.held here.readable h.0 (Shown-IsShown (gated e) _ _ here.held.broker h.0 h.1) it.0 (slice_get-has_first h.0 it.0 it.1))) c.truth_of.ensures.cause)
    (rw c.params-to_sql.ensures at c.in-Ok.ensures.leaves)

pub returns-in-Err-clause-answers : goal.returns-in-Err-clause-answers
returns-in-Err-clause-answers g c =
    let said = rw c.params-to_sql.ensures at c.in-Err.ensures in
    LooksUpBetween-read_Err _ _ c.in-Err.fault _ _ _
    (FailsToTake-explained_number (gated c.args.environment.now) _ _ (λ s held readable rows h row has. IsTruthAt-IsNumberRow row (EachReads-gated c.args.environment.now _ s held readable rows h row has)))
    said.leaves said.cause

pub returns-clause-mark : goal.returns-clause-mark
returns-clause-mark g c clean asked =
    let shown = (rw c.params-to_sql.ensures at c.in-Ok.ensures.leaves).ok clean in
    MatchResult-from_both c.truth_of.result _ _
    (IfOk-weaker c.truth_of.result _ _ (λ truth exact. IsMarkIn-found c.args.environment.now _ _ asked.1 shown.0 shown.1 truth (mark_of-option_map truth ∙ ap (option_map (λ n. Int (pos n))) exact ∙ shown.2)) c.truth_of.ensures.exact)
    (IfErr-weaker c.truth_of.result _ _ (λ fault why. let it = IsTruthAt-not_above_one c.in-Ok.value _ shown.2 why.1 in inr (why.0, HasNoMark-shown c.args.environment.now _ _ asked.1 shown.0 shown.1 it.0 it.1 it.2)) c.truth_of.ensures.cause)

pub returns-in-Err-clause-mark : goal.returns-in-Err-clause-mark
returns-in-Err-clause-mark g c clean asked =
    elim ((rw c.params-to_sql.ensures at c.in-Err.ensures.cause) clean) [
      | inl refused ↦ inl (IsRefusedAs-ends _ _ (Asks-HasBrokerTables _ asked.1 c.args.environment.now) asked.0 c.in-Err.fault refused)
      | inr returned ↦ inr (returned.4.0, HasNoMark-shown c.args.environment.now _ _ asked.1 returned.0 returned.1 returned.2 returned.3 (λ is_present. returned.4.1 (IsTruthAt-IsNumberRow returned.2 is_present)))
    ]
