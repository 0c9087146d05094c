use Rattle.std.{specs.Prelude.{filter_map}, proofs.Common.{◌≡◌, take}}
use Rattle.broker_core.specs.Faults.{fault_of}
use Rattle.broker_core.proofs.gate.faults_of.Given as goal

-- the faults of the needs so far
abbrev pub invariant-loop-need : goal.invariant-loop-need
invariant-loop-need l = l.faults.items ≡ filter_map (fault_of l.strict) (take l.need-index l.needs)
