use Rattle.std.proofs.Common.{Ok, Err, Result, ℕ, OnOk, IfErr, IsTrue, [], refl, codes}
use Rattle.sqlite.{specs.{State.{State, Executes}, Command.TheVariants.{Rollback}, declared.error.Error.{Error}}, proofs.Callers.{runs_as}}
use Rattle.sqlite.proofs.StateLemmas.{survives_weaker}
use Rattle.table_access.{specs.{Calls.{fault_of}, Unit.{RollsBack, FailsToRollBack}}, proofs.Texts.{codes-rollback, CommitsBy-rollback_never}}
use Rattle.table_access.proofs.RefusedEnds.{Executes-rollback_fails}
use Rattle.table_access.proofs.run_rollback.Goals as goal

undone : (old new : State) (r : Result ℕ Error) → Executes (codes "ROLLBACK") [] old new r → OnOk r (RollsBack old new)
undone old new (Ok count) h = let means = (codes-rollback old.now.schema).0 in let ran = runs_as (codes "ROLLBACK") [] old new _ refl Rollback means.is means.plain count h in (ran.0, ran.1)
undone old new (Err e) h = tt

why : (old new : State) (r : Result ℕ Error) → Executes (codes "ROLLBACK") [] old new r → IsTrue old.in_transaction → IfErr r (λ e. FailsToRollBack old new (fault_of e))
why old new (Ok count) h inside = tt
why old new (Err e) h inside = Executes-rollback_fails old new e h inside

pub returns-clause-undone : goal.returns-clause-undone
returns-clause-undone g c clean = undone _ _ _ (c.execute.ensures.runs clean)

pub returns-clause-cause : goal.returns-clause-cause
returns-clause-cause g c clean inside = why _ _ _ (c.execute.ensures.runs clean) inside

pub returns-clause-survives : goal.returns-clause-survives
returns-clause-survives g c = survives_weaker _ _ _ _ (λ _ db h. CommitsBy-rollback_never _ db h) c.execute.ensures.survives
