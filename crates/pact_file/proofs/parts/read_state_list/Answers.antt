use Rattle.serde_json.specs.View.{view}
use Rattle.pact_file.{specs.Parts.{state_in}, proofs.Lists.{drop-at, all_of-goes_on, all_of-ends, all_of-done}}
use Rattle.std.proofs.{Common.{map, ap, sym, ◌∙◌, arith}, lemmas.List.{drop_all}}
use Rattle.pact_file.proofs.parts.read_state_list.Goals as goal

pub returns-in-None : goal.returns-in-None
returns-in-None c =
    let here = drop-at c.args.items.now c.loop-item.item-index c.item-item.result (omega arith) c.item-item.is in
    all_of-ends state_in c.loop-item.states.items _ (view c.item-item.result) _ _ (ap (map view) here) (sym c.in_ok-state.ensures ∙ c.in-None.is) c.loop-item.invariant

pub loop-item-preserved : goal.loop-item-preserved
loop-item-preserved c =
    let here = drop-at c.args.items.now c.loop-item.item-index c.item-item.result (omega arith) c.item-item.is in
    rw c.in_ok-push-in-Some.ensures.items
    (all_of-goes_on state_in c.loop-item.states.items _ (view c.item-item.result) _ c.in-Some.state _ (ap (map view) here) (sym c.in_ok-state.ensures ∙ c.in-Some.is) c.loop-item.invariant)

pub returns : goal.returns
returns c =
    all_of-done state_in c.loop-item.states.items _ _ (ap (map view) (drop_all c.loop-item.item-index c.args.items.now (omega arith))) c.loop-item.invariant
