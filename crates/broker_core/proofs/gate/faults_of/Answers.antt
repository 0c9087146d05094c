use Rattle.std.{specs.{Prelude.{filter_map}, List.{cons_option}}, proofs.Common.{sym, ap, ◌∙◌, arith, take, ◌∷◌, [], ◌++◌}}
use Rattle.std.proofs.lemmas.List.{take_all, append-nil}
use Rattle.broker_core.{specs.Faults.{fault_of}, proofs.{Lists.{filter_map-take_next}, gate.faults_of.Goals.{in-Some+in_ok-push, in_default}}}
use Rattle.broker_core.proofs.gate.faults_of.Goals as goal

pub loop-need-preserved : goal.loop-need-preserved
loop-need-preserved c =
    let before = filter_map (fault_of c.args.strict) (take c.loop-need.need-index c.args.needs.now) in
    let more = filter_map-take_next (fault_of c.args.strict) c.args.needs.now c.loop-need.need-index c.need-item.result c.loop-need-test.true c.need-item.is in
    elim c.match-branch-2.branch [
      | in-Some+in_ok-push w ↦ ap (λ v. v.items) w.faults-is ∙ w.in_ok-push.ensures.items ∙ ap (λ xs. xs ++ w.in-Some.fault ∷ []) c.loop-need.invariant
          ∙ ap (λ o. before ++ cons_option o []) (sym w.in-Some.is ∙ c.in_ok-fault.ensures.fault) ∙ sym more
      | in_default w ↦ ap (λ v. v.items) w.faults-is ∙ c.loop-need.invariant ∙ sym (append-nil before)
          ∙ ap (λ o. before ++ cons_option o []) (sym w.in_default.is ∙ c.in_ok-fault.ensures.fault) ∙ sym more
    ]

pub returns-clause-faults : goal.returns-clause-faults
returns-clause-faults c = c.loop-need.invariant ∙ ap (filter_map (fault_of c.args.strict)) (take_all c.loop-need.need-index c.args.needs.now (omega arith))
