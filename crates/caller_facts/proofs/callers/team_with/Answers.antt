use Rattle.std.proofs.Common.{Some, None, ap, ◌∙◌}
use Rattle.sqlite.specs.Held.{state}
use Rattle.broker_tables.proofs.QueryLemmas.{LooksUpBetween-other_answer}
use Rattle.caller_facts.proofs.callers.team_with.Goals as goal

pub returns-in-Ok-stored_name : goal.returns-in-Ok-stored_name
returns-in-Ok-stored_name g c =
    LooksUpBetween-other_answer (state g.S.Store c.args.conn.now) (state g.S.Store c.team_of_digest.new.conn) (Some c.in-Some.team) (Some c.in-Ok-stored_name.value) _ _ (λ s h. ap s.teams (c.in-Ok-stored_name.ensures.ok ∙ c.as_str.ensures.value) ∙ h) (rw c.in-Some.is at c.in-Ok.ensures.answers)

pub returns-in-None : goal.returns-in-None
returns-in-None g c = LooksUpBetween-other_answer (state g.S.Store c.args.conn.now) (state g.S.Store c.team_of_digest.new.conn) None None _ _ (λ s h. h) (rw c.in-None.is at c.in-Ok.ensures.answers)
