use Rattle.std.proofs.Common.{inr}
use Rattle.broker_program.proofs.RefusalLemmas.{IsOfDatabase-opens_none}
use Rattle.broker_program.proofs.files.open_broker.Goals as goal

pub returns-in-Ok-clause-opened : goal.returns-in-Ok-clause-opened
returns-in-Ok-clause-opened g c = (c.in_ok-connection.connection, c.in_ok-connection.ensures.ok, c.in-Ok.ensures.opened)

pub returns-in-Err-clause-cause : goal.returns-in-Err-clause-cause
returns-in-Err-clause-cause g c = inr (IsOfDatabase-opens_none _ _ _ _ c.in_ok-connection.ensures.ok c.in-Err.ensures.refused)
