use Rattle.std.proofs.Common.{Ok, Err, Result, ℕ, OnOk, OnErr, IfErr, [], refl, codes}
use Rattle.sqlite.{specs.{State.{State, Executes}, Command.TheVariants.{Begin}, declared.error.Error.{Error}}, proofs.Callers.{runs_as}}
use Rattle.sqlite.proofs.StateLemmas.{survives_weaker}
use Rattle.table_access.{specs.{Unit.{Begins, IsLeft, FailsToBegin}, Calls.{fault_of}}, proofs.Texts.{codes-begin, Executes-IsLeft, CommitsBy-begin_never}}
use Rattle.table_access.proofs.RefusedEnds.{Executes-begin_fails}
use Rattle.table_access.proofs.run_begin.Goals as goal

begun : (old new : State) (r : Result ℕ Error) → Executes (codes "BEGIN") [] old new r → OnOk r (Begins old new) × OnErr r (IsLeft old new)
begun old new (Ok count) h = let means = (codes-begin old.now.schema).0 in let ran = runs_as (codes "BEGIN") [] old new _ refl Begin means.is means.plain count h in ((ran.0, ran.1, ran.2, ran.4), tt)
begun old new (Err e) h = (tt, Executes-IsLeft _ _ old new e h)

why : (old new : State) (r : Result ℕ Error) → Executes (codes "BEGIN") [] old new r → IfErr r (λ e. FailsToBegin old new (fault_of e))
why old new (Ok count) h = tt
why old new (Err e) h = Executes-begin_fails old new e h

pub returns-clause-begun : goal.returns-clause-begun
returns-clause-begun g c clean = (begun _ _ _ (c.execute.ensures.runs clean)).0

pub returns-clause-refused : goal.returns-clause-refused
returns-clause-refused g c clean = (begun _ _ _ (c.execute.ensures.runs clean)).1

pub returns-clause-cause : goal.returns-clause-cause
returns-clause-cause g c clean = why _ _ _ (c.execute.ensures.runs clean)

pub returns-clause-survives : goal.returns-clause-survives
returns-clause-survives g c = survives_weaker _ _ _ _ (λ _ db h. CommitsBy-begin_never _ db h) c.execute.ensures.survives
