use Rattle.std.proofs.Common.{◌∙◌, sym}
use Rattle.pact_rules.proofs.PatternLemmas.{path_at-of_reading, FailsAs-path_fault, path_fault-first, Ok-apart_from_Err}
use Rattle.pact_rules.proofs.table_reader.path_of.Goals as goal

pub returns-in-Ok : goal.returns-in-Ok
returns-in-Ok c =
    let h = path_at-of_reading c.args.key.now _ c.in-Ok.ensures.reading (λ e. cc) in
    record { reading = h; fault = λ e k. Ok-apart_from_Err (sym h ∙ k) }

pub returns-in-Err : goal.returns-in-Err
returns-in-Err c =
    let k = c.args.key.now in
    let f = c.in-Err.fault in
    let h = c.in-Err.ensures in
    rw c.as_rule_fault.ensures (record { reading = FailsAs-path_fault k f h.reading; fault = path_fault-first k f h.reading h.faults })
