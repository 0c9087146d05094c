use Rattle.broker_program.proofs.files.release.Goals as goal

pub returns : goal.returns
returns g c = rw c.connection_of.ensures at c.leave.ensures
