use Rattle.worked_examples.proofs.Reopened.{over, refused}
use Rattle.worked_examples.proofs.reopening.open.Goals as goal

pub returns-in-Ok-clause-over : goal.returns-in-Ok-clause-over
returns-in-Ok-clause-over g c = over g.D.Disk c.args.files c.in_ok-conn.conn c.in_ok-conn.ensures.found c.in-Ok.broker c.in-Ok.ensures

pub returns-in-Err-clause-kept : goal.returns-in-Err-clause-kept
returns-in-Err-clause-kept g c s = refused g.D.Disk c.args.files c.in_ok-conn.conn c.in_ok-conn.ensures.found s c.in-Err.refused c.in-Err.ensures
