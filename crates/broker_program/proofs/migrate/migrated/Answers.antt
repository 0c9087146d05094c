use Rattle.std.proofs.Common.{arith}
use Rattle.sqlite.specs.{State.{HasCleanDisk}, Files.{file_state}}
use Rattle.broker_program.{specs.FileRefusals.{MigratesNone}, proofs.RefusalLemmas.{IsOfDatabase-of_failure}}
use Rattle.broker_program.proofs.migrate.migrated.Goals as goal

pub returns-in-Ok-clause-ok : goal.returns-in-Ok-clause-ok
returns-in-Ok-clause-ok g c clean =
    let conn = c.args.connection in
    let early : HasCleanDisk (file_state conn) = omega (arith, clean, c.migrate.ensures.survives.1.clean) in
    (conn, c.requires early, rw c.in-Ok.is at c.migrate.ensures)

pub returns-in-Err-clause-cause : goal.returns-in-Err-clause-cause
returns-in-Err-clause-cause g c =
    IsOfDatabase-of_failure _ MigratesNone c.args.connection _ c.in-Err.fault _ _ c.requires c.migrate.ensures.survives.1.clean (rw c.in-Err.is at c.migrate.ensures) c.give_up.ensures.0 c.give_up.ensures.1
