use Rattle.std.proofs.Common.{Ok, Err, Result, ℕ, OnOk, OnErr, IsTrue, [], refl, codes, sym, subst}
use Rattle.sqlite.{specs.{State.{State, Executes, Commits}, Command.TheVariants.{Commit}, declared.error.Error.{Error}}, proofs.Callers.{runs_as}}
use Rattle.sqlite.proofs.StateLemmas.{survives_weaker}
use Rattle.table_access.{specs.Unit.{IsLeft, FailsToCommit}, proofs.Texts.{codes-commit, Executes-IsLeft, CommitsBy-commit}}
use Rattle.table_access.proofs.RefusedEnds.{Executes-commit_fails}
use Rattle.table_access.proofs.committing.run_commit.Goals as goal

committed : (old new : State) (r : Result ℕ Error) → Executes (codes "COMMIT") [] old new r → OnOk r (IsTrue old.in_transaction × Commits old new) × OnErr r (IsLeft old new)
committed old new (Ok count) h = let means = (codes-commit old.now.schema).0 in let ran = runs_as (codes "COMMIT") [] old new _ refl Commit means.is means.plain count h in ((ran.0, (ran.1, ran.2, ran.4)), tt)
committed old new (Err e) h = (tt, Executes-IsLeft _ _ old new e h)

pub returns-in-Ok-clause-done : goal.returns-in-Ok-clause-done
returns-in-Ok-clause-done g c clean = (committed _ _ _ (c.in-Ok.ensures.runs clean)).0

pub returns-in-Ok-clause-survives : goal.returns-in-Ok-clause-survives
returns-in-Ok-clause-survives g c = survives_weaker _ _ _ _ (λ _ db h. CommitsBy-commit _ db h) c.execute.ensures.survives

pub returns-in-Err-clause-refused : goal.returns-in-Err-clause-refused
returns-in-Err-clause-refused g c clean = (committed _ _ _ (c.in-Err.ensures.runs clean)).1

pub returns-in-Err-clause-cause : goal.returns-in-Err-clause-cause
returns-in-Err-clause-cause g c clean =
    subst (FailsToCommit _ _) (sym c.fault_of.ensures) (Executes-commit_fails _ _ c.in-Err.error (c.in-Err.ensures.runs clean))

pub returns-in-Err-clause-survives : goal.returns-in-Err-clause-survives
returns-in-Err-clause-survives g c = survives_weaker _ _ _ _ (λ _ db h. CommitsBy-commit _ db h) c.execute.ensures.survives
