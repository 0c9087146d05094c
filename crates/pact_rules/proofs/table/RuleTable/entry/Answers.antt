use Rattle.std.proofs.Common.{ap}
use Rattle.pact_rules.{specs.Rules.{BodyRule}, proofs.ChoiceLemmas.{slice_get-rule_field}}
use Rattle.pact_rules.proofs.table.RuleTable.entry.Goals as goal

pub returns : goal.returns
returns c = slice_get-rule_field (λ (r : BodyRule). r.entry) c.self.inside.body.items c.args.self.now.body c.args.index c.index.result.now (ap (λ r. r.body) c.self.view_is) c.requires c.index.ensures
