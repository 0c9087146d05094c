use Rattle.broker_program.proofs.files.broker_of.Goals as goal

pub returns-in-Err-clause-refused : goal.returns-in-Err-clause-refused
returns-in-Err-clause-refused g c = (c.in-Err.refused.connection, c.in-Err.ensures, c.leave.ensures)
