use Rattle.sqlite.specs.Held.{state}
use Rattle.caller_facts.specs.Callers.{token_of}
use Rattle.broker_service.proofs.TransactLemmas.{transacted, untransacted}
use Rattle.broker_service.proofs.work.transact.Goals as goal

pub returns-clause-transacts : goal.returns-clause-transacts
returns-clause-transacts g c =
    transacted (token_of c.args.token) c.args.command.now (state g.S.Store) c.args.conn.now c.begin.new.conn c.work-worked.new.conn c.conclude.new.conn c.work-worked.result c.conclude.result c.is_done-keeps.result
    c.in-Ok.ensures.begun c.begin.ensures.survives c.work-worked.ensures.performs c.work-worked.ensures.failure c.is_done-keeps.ensures c.conclude.ensures.concludes c.conclude.ensures.refused

pub returns-in-Err-clause-transacts : goal.returns-in-Err-clause-transacts
returns-in-Err-clause-transacts g c =
    untransacted (token_of c.args.token) c.args.command.now (state g.S.Store) c.args.conn.now c.begin.new.conn c.in-Err.fault c.in-Err.ensures.refused c.in-Err.ensures.cause c.begin.ensures.survives
