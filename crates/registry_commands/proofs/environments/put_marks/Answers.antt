use Rattle.std.proofs.Common.{[], ◌∷◌, codes, refl, Some, sym, ◌∙◌, ap, subst}
use Rattle.broker_names.specs.Name.{IsName}
use Rattle.broker_core.specs.Text.{put_at, same_text, Text}
use Rattle.command_facts.proofs.{CarryLemmas.{CarriesBetween-query_answer, CarriesBetween-query_change}, ShortTexts.{IsName-short}}
use Rattle.registry_commands.proofs.environments.put_marks.Goals as goal

pub returns-in-Some : goal.returns-in-Some
returns-in-Some g c = CarriesBetween-query_answer (λ s may h. c.in-Some.ensures.unchanged s c.args.environment.now c.requires (ap s.environments (sym c.as_str.ensures) ∙ sym h)) c.in-Ok.ensures.answers

pub returns-in-None : goal.returns-in-None
returns-in-None g c =
    let is = c.as_str-in-None.ensures in
    CarriesBetween-query_change (codes "environments" ∷ codes "strict_environments" ∷ []) (refl, (refl, tt))
    (λ s may h.
    let it = c.in-None.ensures.changes s c.args.environment.now c.requires (ap s.environments (sym c.as_str.ensures) ∙ sym h) in
    (_, (ap s.environments is ∙ it.0, ap (λ (x : Text). record s { environments = put_at same_text s.environments x (Some c.args.marks) }) (sym is)), it.1))
    (λ long named. long (IsName-short _ (subst IsName (sym is) named), tt))
    c.returned.ensures c.in-Ok.ensures.answers c.add_environment.ensures.changes c.add_environment.ensures.failure
