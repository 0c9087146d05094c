use Rattle.std.proofs.Common.{sym, ◌∙◌, ap}
use Rattle.broker_tables.proofs.QueryLemmas.{LooksUpBetween-then_failed, LooksUpBetween-from_both}
use Rattle.registry_commands.proofs.put_team.read_team_facts.Goals as goal

pub returns : goal.returns
returns g c = LooksUpBetween-from_both _ _ _ _ _ _ _ _ _ (λ s old holder. record { team_is = sym (ap s.teams c.as_str.ensures) ∙ sym old; holder_is = holder }) c.in-Ok.ensures.answers c.in-Ok-holder_of.ensures

pub returns-in-Err-holder_of : goal.returns-in-Err-holder_of
returns-in-Err-holder_of g c = LooksUpBetween-then_failed _ _ _ _ _ _ _ _ c.in-Ok.ensures.answers c.in-Err-holder_of.ensures
