use Rattle.std.proofs.Common.{Bool, sym, subst}
use Rattle.sqlite.specs.Held.{state}
use Rattle.broker_core.specs.{Gate.{Judges}, Text.{Text}}
use Rattle.deploy_tables.specs.Needs.{AreFaults}
use Rattle.environment_commands.proofs.GateJudgement.{Judges-by_fault_count}
use Rattle.broker_tables.proofs.QueryLemmas.{LooksUpBetween-other_answer}
use Rattle.environment_commands.proofs.gate.gate_verdict.Goals as goal

pub returns : goal.returns
returns g c =
    let v = c.args.version.now in
    let marks = c.args.place.marks in
    let faults = c.in-Ok.value.items in
    LooksUpBetween-other_answer (state g.S.Store c.args.conn.now) (state g.S.Store c.faults.new.conn) c.in-Ok.value (c.permits.result, c.in-Ok.value) _ _
    (λ s listed admitted. subst (λ (b : Bool). Judges s v c.args.environment.now b faults) (sym (rw c.deref.ensures.value at c.permits.ensures))
    (Judges-by_fault_count s v c.args.environment.now marks faults admitted.0 (subst (λ (e : Text). AreFaults s v e marks.strict faults) c.as_str.ensures (listed admitted.1)))) c.in-Ok.ensures.answers
