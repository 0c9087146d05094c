use Rattle.worked_examples.proofs.Reopened.{IsLeftOf-of_leftover}
use Rattle.worked_examples.proofs.reopening.connect.Goals as goal

pub returns-in-Err-clause-kept : goal.returns-in-Err-clause-kept
returns-in-Err-clause-kept g c s keep = IsLeftOf-of_leftover g.D.Disk s c.args.files c.in-Err.left c.kept_files.ensures.unopened keep c.in-Err.ensures.unharmed
