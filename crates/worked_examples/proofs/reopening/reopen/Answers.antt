use Rattle.worked_examples.proofs.Reopened.{opened_again, nothing_lost}
use Rattle.worked_examples.proofs.reopening.reopen.Goals as goal

pub returns-clause-opened : goal.returns-clause-opened
returns-clause-opened g c = opened_again g.D.Disk c.args.broker c.in_ok-files.files c.in_ok-files.ensures.closed c.open.result c.open.ensures.runs c.open.ensures.over

pub returns-clause-kept : goal.returns-clause-kept
returns-clause-kept g c = nothing_lost g.D.Disk c.args.broker c.in_ok-files.files c.in_ok-files.ensures.closed c.open.result c.open.ensures.kept
