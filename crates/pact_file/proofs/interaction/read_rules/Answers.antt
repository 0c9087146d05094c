use Rattle.std.proofs.Common.{Ok, Err, sym, ◌∙◌, subst}
use Rattle.serde_json.specs.View.{view}
use Rattle.pact_file.{specs.Rules.{RulesRead}, proofs.ReadLemmas.{RulesRead-none, IsRulesOf-no_rules, RulesRead-some, IsRulesOf-some, as_pact_fault-not_memory}}
use Rattle.pact_file.proofs.interaction.read_rules.Goals as goal

pub returns-in-None-clause-read : goal.returns-in-None-clause-read
returns-in-None-clause-read c = RulesRead-none c.args.index (view c.args.response.now) c.none.result c.in-None.ensures c.none.ensures

pub returns-in-None-clause-table : goal.returns-in-None-clause-table
returns-in-None-clause-table c = IsRulesOf-no_rules (view c.args.response.now) c.none.result c.in-None.ensures c.none.ensures

pub returns-in-Ok-clause-read : goal.returns-in-Ok-clause-read
returns-in-Ok-clause-read c =
    RulesRead-some c.args.index (view c.args.response.now) (view c.in-Some.rules.now) (Ok c.in-Ok.table) c.in-Some.ensures c.in-Ok.ensures.reading

pub returns-in-Ok-clause-table : goal.returns-in-Ok-clause-table
returns-in-Ok-clause-table c =
    IsRulesOf-some (view c.args.response.now) (view c.in-Some.rules.now) c.in-Ok.table c.in-Some.ensures c.in-Ok.ensures.reading

pub returns-in-Err-clause-read : goal.returns-in-Err-clause-read
returns-in-Err-clause-read c = λ memory.
    let is = c.rule_fault.ensures in
    let a = as_pact_fault-not_memory c.args.index c.in-Err.fault (λ e. memory (is ∙ e)) in
    subst (λ e. RulesRead c.args.index (view c.args.response.now) (Err e)) (sym (is ∙ a.1))
    (RulesRead-some c.args.index (view c.args.response.now) (view c.in-Some.rules.now) (Err c.in-Err.fault) c.in-Some.ensures (c.in-Err.ensures.reading a.0))
