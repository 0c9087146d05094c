use Rattle.std.proofs.Common.{refl}
use Rattle.deploy_tables.proofs.MatrixLoop.{iff-trans, LooksUpBetween-other_answer}
use Rattle.deploy_tables.proofs.all_needs.needs_numbered.Goals as goal

pub returns-clause-answers : goal.returns-clause-answers
returns-clause-answers g c =
    LooksUpBetween-other_answer _ _ _ c.each_need_once.result _ _
    (λ s returned number. c.each_need_once.ensures s c.args.version.now c.args.environment.now
    (λ x. iff-trans (returned number x) (λ need. need.0, λ need. (need, refl)))) c.in-Ok.ensures.answers
