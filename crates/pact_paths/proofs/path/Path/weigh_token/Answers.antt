use Rattle.std.proofs.Common.{sym}
use Rattle.pact_paths.{specs.Locations.{step_view}, proofs.WeightLemmas.{token_weight-slice_get}}
use Rattle.pact_paths.proofs.path.Path.weigh_token.Goals as goal

pub returns-clause-value : goal.returns-clause-value
returns-clause-value c =
    token_weight-slice_get c.self.inside.tokens.items c.args.self.now c.args.index c.index.result.now (step_view c.args.step.now) c.weight_at.result (sym c.self.view_is) c.requires c.index.ensures
    c.weight_at.ensures.value
