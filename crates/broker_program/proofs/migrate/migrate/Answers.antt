use Rattle.std.proofs.Common.{inr}
use Rattle.broker_program.{specs.Making.{MigratesOn}, proofs.RefusalLemmas.{EndsUnclosed-of_not_closed}}
use Rattle.broker_program.proofs.migrate.migrate.Goals as goal

pub returns-in-Ok-clause-ok : goal.returns-in-Ok-clause-ok
returns-in-Ok-clause-ok g c clean =
    let copied = (c.in-Ok.ensures.ok.ends clean).1 in
    let from = c.in_ok-connection-2.ensures.ok copied.was_clean in
    record { old = from.0; new = _; starts = from.1; migrated = from.2; closed = copied }

pub returns-in-Err-clause-cause : goal.returns-in-Err-clause-cause
returns-in-Err-clause-cause g c =
    inr (inr (EndsUnclosed-of_not_closed _ MigratesOn _ _ _ c.in_ok-connection-2.ensures.ok c.in-Err.ensures.cause c.in-Err.ensures.unclosed))
