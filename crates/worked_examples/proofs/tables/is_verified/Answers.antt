use Rattle.std.proofs.Common.{◌==◌, ◌∙◌, ap}
use Rattle.worked_examples.proofs.Asked.{answers, IsFaultAmong-none_iff_good}
use Rattle.worked_examples.proofs.tables.is_verified.Goals as goal

pub returns-in-Ok-decide : goal.returns-in-Ok-decide
returns-in-Ok-decide g c =
    answers _ _ _ _ _ c.is_empty.result
    (λ s listed v number. IsFaultAmong-none_iff_good s v c.args.environment.now c.args.strict _ _ _ (c.is_empty.ensures ∙ ap (λ n. n == 0) c.in-Ok-decide.faults.ok.0) (listed.0 v number) (rw c.deref.ensures.value at c.in-Ok-decide.ensures.faults)) c.in-Ok.ensures.answers
