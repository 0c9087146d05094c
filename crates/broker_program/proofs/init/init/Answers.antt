use Rattle.std.proofs.{Common.{inr}, lemmas.Result.{IfErr-weaker}}
use Rattle.broker_program.proofs.ResultLemmas.{IfOk-const}
use Rattle.broker_program.proofs.init.init.Goals as goal

pub returns-in-Ok-clause-token : goal.returns-in-Ok-clause-token
returns-in-Ok-clause-token g c = IfOk-const c.make.result (c.in-Ok.ensures.ok.1)

pub returns-in-Ok-clause-made : goal.returns-in-Ok-clause-made
returns-in-Ok-clause-made g c = rw c.in-Ok.ensures.ok.0 at c.make.ensures.made

pub returns-in-Ok-clause-cause : goal.returns-in-Ok-clause-cause
returns-in-Ok-clause-cause g c =
    IfErr-weaker c.make.result _ _ (λ failed fails. inr (c.in-Ok.ensures.ok.1, fails)) (rw c.in-Ok.ensures.ok.0 at c.make.ensures.cause)
