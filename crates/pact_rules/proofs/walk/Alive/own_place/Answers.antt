use Rattle.std.proofs.Common.{◌∙◌, sym, ap}
use Rattle.pact_rules.{specs.Walks.{Walk}, proofs.WalkLemmas.{own_place-eqb_steps, own_place-IsOwnPlace}}
use Rattle.pact_rules.proofs.walk.Alive.own_place.Goals as goal

pub returns-in-Some-clause-computed : goal.returns-in-Some-clause-computed
returns-in-Some-clause-computed c = λ at e.
    own_place-eqb_steps c.args.table.now.body at c.in-Some.index c.self.inside.steps c.len.result c.path.result.now (sym c.in-Some.is ∙ c.chosen.ensures.computed at e) c.path.ensures (ap (λ (w : Walk). w.steps) c.self.view_is ∙ e.steps) c.len.ensures.value c.len.ensures.few

pub returns-in-Some-clause-place : goal.returns-in-Some-clause-place
returns-in-Some-clause-place c = λ at e.
    own_place-IsOwnPlace c.args.table.now.body at c.chosen.result _ (c.chosen.ensures.computed at e) (c.chosen.ensures.choice at e) (returns-in-Some-clause-computed c at e)
