use Rattle.std.proofs.Common.{◌∙◌, sym}
use Rattle.broker_program.proofs.{ResultLemmas.{MatchResult-of_both}, ServingLemmas.{ServesNoMore-not_reopened, ServesOn-opened_again}}
use Rattle.broker_program.proofs.reopening.ensure_running.Goals as goal

pub returns-then-is_stopped-clause-goes : goal.returns-then-is_stopped-clause-goes
returns-then-is_stopped-clause-goes g c n so_far =
    MatchResult-of_both c.reopen.result (λ found again. ServesOn-opened_again _ n c.args.broker found again so_far) (λ failed shut. ServesNoMore-not_reopened _ n c.args.broker failed.0 failed.1 failed.2 (sym c.is_stopped.ensures ∙ c.if-is_stopped.true) shut so_far)
    c.reopen.ensures.again c.reopen.ensures.shut
