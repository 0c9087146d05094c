use Rattle.std.{specs.Prelude.{IfErr}, proofs.Common.{inl, Result, Ok, Err, sym, subst, ap, ◌∙◌}}
use Rattle.sqlite.specs.{Held.{state}, State.{State}}
use Rattle.broker_tables.specs.{Making.{IsBlank, IsMarked}, Holds.{format}}
use Rattle.broker_database.specs.{Ends.{IsAsBefore}, Opening.{IsMarkedToday, IsUnchangedUnlessStore, OpensOrRefuses, judgement}}
use Rattle.broker_database.specs.declared.opening.OpenFault.{OpenFault}
use Rattle.broker_database.proofs.Judgements.{OpensOrRefuses-judgement, FindsToday-blank, FindsToday-other, FindsToday-today}
use Rattle.broker_database.proofs.{MigrationLemmas.{OnOk-const, HoldsDurably-now}, OpenFailures.{judgement-not_store}}
use Rattle.broker_database.specs.declared.opening.OpenFault.TheVariants as returned
use Rattle.broker_database.proofs.opening.open.Goals as goal

unless_store : (old new : State) (r : Result (Unit {0}) OpenFault) → IsAsBefore old new → IfErr r (IsUnchangedUnlessStore old new)
unless_store old new (Ok u) it = tt
unless_store old new (Err returned.NotEmpty) it = it
unless_store old new (Err returned.NotABroker) it = it
unless_store old new (Err (returned.Format n)) it = it
unless_store old new (Err returned.Memory) it = it
unless_store old new (Err returned.Store) it = it.commit

pub returns-in-Ok : goal.returns-in-Ok
returns-in-Ok g c =
    let old = state g.S.Store c.args.conn.now in
    record {
      judges = λ clean. subst (OpensOrRefuses old.now) (sym c.judge_format.ensures) (OpensOrRefuses-judgement old.now c.in-Ok.found (c.in-Ok.ensures.found clean).1);
      failure = λ clean fresh is. absurd (judgement-not_store format c.in-Ok.found (sym c.judge_format.ensures ∙ is));
      blank = λ clean keeps.
          let it = c.in-Ok.ensures.found clean in
          inl (c.judge_format.ensures ∙ ap (judgement format) (FindsToday-blank old.now c.in-Ok.found (HoldsDurably-now IsBlank old keeps it.0).schema it.1));
      marked = λ clean n office other keeps.
          let it = c.in-Ok.ensures.found clean in
          inl (c.judge_format.ensures ∙ ap (judgement format) (FindsToday-other n office old.now c.in-Ok.found other (HoldsDurably-now (IsMarked n office) old keeps it.0) it.1));
      today = λ clean office keeps.
          let it = c.in-Ok.ensures.found clean in
          inl (c.judge_format.ensures ∙ ap (judgement format) (FindsToday-today office old.now c.in-Ok.found (HoldsDurably-now (IsMarkedToday office) old keeps it.0) it.1));
      kept = λ clean. OnOk-const c.judge_format.result (IsAsBefore old _) (c.find_format.ensures.same clean);
      unchanged = λ clean. unless_store old _ c.judge_format.result (c.find_format.ensures.same clean);
      over = c.find_format.ensures.over;
      survives = c.find_format.ensures.survives;
    }
