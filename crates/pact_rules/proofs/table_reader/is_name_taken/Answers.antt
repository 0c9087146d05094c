use Rattle.std.proofs.Common.{◌∙◌}
use Rattle.pact_rules.{specs.{Rules.{name_key}, RuleViews.{header_view}}, proofs.OrderLemmas.{lookup-IsKeyedBy}}
use Rattle.pact_rules.proofs.table_reader.is_name_taken.Goals as goal

pub returns : goal.returns
returns c = c.contains_key.ensures ∙ lookup-IsKeyedBy header_view name_key c.args.name.now c.args.rules.now.entries c.requires
