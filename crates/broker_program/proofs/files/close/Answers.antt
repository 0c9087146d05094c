use Rattle.broker_program.proofs.files.close.Goals as goal

pub returns-clause-ok : goal.returns-clause-ok
returns-clause-ok g c = rw c.connection_of.ensures at c.disconnect.ensures.ok

pub returns-clause-unclosed : goal.returns-clause-unclosed
returns-clause-unclosed g c = rw c.connection_of.ensures at c.disconnect.ensures.unclosed
