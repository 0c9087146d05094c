use Rattle.std.proofs.Common.{refl, arith}
use Rattle.command_facts.proofs.{CarryLemmas.{CarriesBetween-query_answer, CarriesBetween-query_changes}, ShortTexts.{IsName-short, IsName-optional_short}}
use Rattle.registry_commands.proofs.versions.put_version.Goals as goal

pub returns-in-Some : goal.returns-in-Some
returns-in-Some g c = CarriesBetween-query_answer (λ s may h. c.in-Some.ensures.unchanged s _ _ _ h) c.in-Ok.ensures

pub returns-in-None : goal.returns-in-None
returns-in-None g c =
    CarriesBetween-query_changes 4 3 (omega arith) (omega arith) (λ s may h. let it = c.in-None.ensures.changes s c.args.caller.now c.args.version.now c.args.branch.now h in (it.0, (_, (it.0, refl), it.1)))
    (λ long named. long (IsName-short _ named.0.0, (IsName-short _ named.0.1, (IsName-optional_short _ named.1, tt))))
    c.returned.ensures c.in-Ok.ensures c.record_version.ensures.changes c.record_version.ensures.failure
