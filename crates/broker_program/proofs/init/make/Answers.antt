use Rattle.std.proofs.Common.{inr, refl}
use Rattle.broker_program.{specs.Making.{MakesOn}, proofs.RefusalLemmas.{EndsUnclosed-of_not_closed}}
use Rattle.broker_program.proofs.init.make.Goals as goal

pub returns-in-Ok-clause-made : goal.returns-in-Ok-clause-made
returns-in-Ok-clause-made g c clean =
    let copied = (c.in-Ok.ensures.ok.ends clean).1 in
    let from = c.in_ok-broker.ensures.made copied.was_clean in
    record { connection = from.0; broker = c.in_ok-broker.broker; starts = from.1; made = from.2; closed = copied }

pub returns-in-Err-clause-cause : goal.returns-in-Err-clause-cause
returns-in-Err-clause-cause g c =
    let broker = c.in_ok-broker.broker in
    inr (inr (EndsUnclosed-of_not_closed _ (MakesOn c.args.office.now) broker.connection _ _ (λ clean.
    let from = c.in_ok-broker.ensures.made clean in (from.0, from.1, (broker, refl, from.2))) c.in-Err.ensures.cause c.in-Err.ensures.unclosed))
