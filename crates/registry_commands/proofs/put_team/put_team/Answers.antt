use Rattle.std.proofs.Common.{ap, ◌∙◌, ◌≤◌, ◌^◌, ℕ, List, length, subst, sym}
use Rattle.command_facts.{specs.Primitives.{broker_primitives}, proofs.{CarryLemmas.{CarriesBetween-weaker}, ShortTexts.{IsName-short, digest_of-short}}}
use Rattle.registry_commands.specs.Facts.{PutsTeam}
use Rattle.registry_commands.proofs.put_team.put_team.Goals as goal

pub returns : goal.returns
returns g c =
    let is = c.as_str-2.ensures.value ∙ c.in-Ok.ensures.ok in
    CarriesBetween-weaker {Q = λ s out. PutsTeam s c.args.caller.now c.args.team.now c.as_str-2.result.now out} (λ s out it. it c.args.token.now (is ∙ ap broker_primitives.digest_of c.as_str.ensures))
    (λ long named. long (IsName-short _ named.0, (subst (λ (t : List ℕ). length t ≤ 10 ^ 7) (sym is) (digest_of-short c.as_str.result.now), tt))) c.put_digest.ensures
