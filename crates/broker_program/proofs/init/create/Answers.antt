use Rattle.std.proofs.Common.{arith}
use Rattle.sqlite.specs.{State.{HasCleanDisk}, Files.{file_state}}
use Rattle.broker_program.{specs.FileRefusals.{MakesNone}, proofs.RefusalLemmas.{IsOfDatabase-of_failure}}
use Rattle.broker_program.proofs.init.create.Goals as goal

pub returns-in-Ok-clause-made : goal.returns-in-Ok-clause-made
returns-in-Ok-clause-made g c clean =
    let conn = c.args.connection in
    let early : HasCleanDisk (file_state conn) = omega (arith, clean, c.in-Ok.ensures.tables.survives.1.clean) in
    (conn, c.requires early, c.in-Ok.ensures)

pub returns-in-Err-clause-cause : goal.returns-in-Err-clause-cause
returns-in-Err-clause-cause g c =
    IsOfDatabase-of_failure _ (MakesNone c.args.office.now) c.args.connection c.in-Err.refused.connection c.in-Err.refused.fault _ _ c.requires c.in-Err.ensures.tables.survives.1.clean c.in-Err.ensures c.give_up.ensures.0 c.give_up.ensures.1
