use Rattle.std.proofs.Common.{[], ◌∷◌, codes, refl, Some, sym, ◌∙◌, ap, ◌≤◌, ◌^◌, ℕ, List, length, subst}
use Rattle.broker_core.specs.Text.{put_at, same_text, Text}
use Rattle.command_facts.proofs.CarryLemmas.{CarriesBetween-query_answer, CarriesBetween-query_change}
use Rattle.registry_commands.proofs.put_team.put_digest.Goals as goal

pub returns-in-Some : goal.returns-in-Some
returns-in-Some g c = CarriesBetween-query_answer (λ s may h. c.in-Some.ensures.unchanged s _ h) c.in-Ok.ensures

pub returns : goal.returns
returns g c =
    let is = c.as_str.ensures in
    CarriesBetween-query_change (codes "teams" ∷ []) (refl, tt)
    (λ s may h.
    let it = c.in-None.ensures.changes s c.args.team.now h in
    (_, (ap s.teams is ∙ it.0, c.in-None.ensures.unused s h.holder_is, ap (λ (x : Text). record s { teams = put_at same_text s.teams x (Some c.args.digest.now) }) (sym is)), it.1))
    (λ long are. long (subst (λ (t : List ℕ). length t ≤ 10 ^ 7) (sym is) are.0, are.1))
    c.returned.ensures c.in-Ok.ensures c.add_team.ensures.changes c.add_team.ensures.failure
