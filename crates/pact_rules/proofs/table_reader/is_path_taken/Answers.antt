use Rattle.std.proofs.Common.{◌∙◌}
use Rattle.pact_rules.{specs.{Rules.{rule_text}, RuleViews.{rule_view}}, proofs.OrderLemmas.{lookup-IsKeyedBy}}
use Rattle.pact_rules.proofs.table_reader.is_path_taken.Goals as goal

pub returns : goal.returns
returns c = c.contains_key.ensures ∙ lookup-IsKeyedBy rule_view rule_text c.args.text.now c.args.rules.now.entries c.requires
