use Rattle.sqlite.specs.Held.{state}
use Rattle.broker_tables.proofs.QueryLemmas.{LooksUpBetween-then_failed}
use Rattle.environment_commands.proofs.listing.read_lists.Goals as goal

pub returns-in-Err-released : goal.returns-in-Err-released
returns-in-Err-released g c =
    LooksUpBetween-then_failed (state g.S.Store c.args.conn.now) (state g.S.Store c.deployed.new.conn) (state g.S.Store c.released.new.conn) c.in-Ok.value c.in-Err-released.fault _ _ _ c.in-Ok.ensures.answers c.in-Err-released.ensures.answers
