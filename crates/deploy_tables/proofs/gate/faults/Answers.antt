use Rattle.deploy_tables.proofs.{NeedLemmas.{AreFaults-listed}, MatrixLoop.{LooksUpBetween-other_answer}}
use Rattle.deploy_tables.proofs.gate.faults.Goals as goal

pub returns-in-Ok-decide-clause-answers : goal.returns-in-Ok-decide-clause-answers
returns-in-Ok-decide-clause-answers g c =
    LooksUpBetween-other_answer _ _ _ c.in-Ok-decide.faults _ _
    (λ s returned number. AreFaults-listed s _ _ _ _ _ (returned number) (rw c.deref.ensures.value at c.in-Ok-decide.ensures.faults)) c.in-Ok.ensures.answers
