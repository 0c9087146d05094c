use Rattle.std.{specs.Option.{is_some}, proofs.Common.{sym, ◌∙◌, ap}}
use Rattle.broker_tables.proofs.QueryLemmas.{LooksUpBetween-then_failed, LooksUpBetween-from_both}
use Rattle.registry_commands.proofs.put_pacticipant.read_pacticipant_facts.Goals as goal

pub returns : goal.returns
returns g c =
    LooksUpBetween-from_both _ _ _ _ _ _ _ _ _ (λ s has owner. record { team_is = has ∙ ap (λ t. is_some (s.teams t)) c.as_str.ensures; owner_is = sym (ap s.pacticipants c.as_str-2.ensures) ∙ sym owner }) c.in-Ok.ensures c.in-Ok-owner_of.ensures.answers

pub returns-in-Err-owner_of : goal.returns-in-Err-owner_of
returns-in-Err-owner_of g c = LooksUpBetween-then_failed _ _ _ _ _ _ _ _ c.in-Ok.ensures c.in-Err-owner_of.ensures.answers
