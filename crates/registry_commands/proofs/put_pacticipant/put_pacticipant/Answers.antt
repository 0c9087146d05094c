use Rattle.std.{specs.Option.{is_some}, proofs.Common.{[], ◌∷◌, codes, refl, Some, sym, ◌∙◌, ap, subst}}
use Rattle.broker_names.specs.Name.{IsName}
use Rattle.broker_core.specs.Text.{put_at, same_text}
use Rattle.command_facts.proofs.{CarryLemmas.{CarriesBetween-query_answer, CarriesBetween-query_change}, ShortTexts.{IsName-short}}
use Rattle.registry_commands.proofs.put_pacticipant.put_pacticipant.Goals as goal

pub returns-in-Some : goal.returns-in-Some
returns-in-Some g c = CarriesBetween-query_answer (λ s may h. c.in-Some.ensures.unchanged s _ h) c.in-Ok.ensures

pub returns : goal.returns
returns g c =
    let is = c.as_str.ensures in
    let by = c.as_str-in-None.ensures in
    CarriesBetween-query_change (codes "pacticipants" ∷ []) (refl, tt)
    (λ s may h.
    let it = c.in-None.ensures.changes s c.args.pacticipant.now h in
    (_, (ap s.pacticipants is ∙ it.0, ap (λ x. is_some (s.teams x)) by ∙ it.1, λ i. record s { pacticipants = put_at same_text s.pacticipants (sym is i) (Some (sym by i)) }), it.2))
    (λ long named. long (IsName-short _ (subst IsName (sym is) named.0), (IsName-short _ (subst IsName (sym by) named.1), tt)))
    c.returned.ensures c.in-Ok.ensures c.add_pacticipant.ensures.changes c.add_pacticipant.ensures.failure
