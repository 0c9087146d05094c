use Rattle.std.{specs.{Prelude.{filter_map}, List.{cons_option}}, proofs.Common.{sym, ap, ◌∙◌, arith, take, ◌∷◌, [], ◌++◌}}
use Rattle.std.proofs.lemmas.List.{take_all, append-nil, append_assoc}
use Rattle.broker_core.proofs.Lists.{filter_map-take_next}
use Rattle.deploy_tables.{specs.Partners.{number_if}, proofs.partners.with_released.Goals.{in-Some+in_ok-push, in_default}}
use Rattle.deploy_tables.proofs.partners.with_released.Goals as goal

pub loop-one-preserved : goal.loop-one-preserved
loop-one-preserved c =
    let f = number_if c.args.provider.now in
    let deployed = c.args.deployed.items in
    let before = filter_map f (take c.loop-one.one-index c.args.released.now) in
    let more = ap (λ xs. deployed ++ xs) (filter_map-take_next f c.args.released.now c.loop-one.one-index c.one-item.result c.loop-one-test.true c.one-item.is) in
    elim c.match-number_if.branch [
      | in-Some+in_ok-push w ↦ ap (λ v. v.items) w.found-is ∙ w.in_ok-push.ensures.items ∙ ap (λ xs. xs ++ w.in-Some.number ∷ []) c.loop-one.invariant ∙ append_assoc deployed before (w.in-Some.number ∷ [])
          ∙ ap (λ o. deployed ++ (before ++ cons_option o [])) (sym w.in-Some.is ∙ c.number_if.ensures) ∙ sym more
      | in_default w ↦ ap (λ v. v.items) w.found-is ∙ c.loop-one.invariant ∙ ap (λ xs. deployed ++ xs) (sym (append-nil before)) ∙ ap (λ o. deployed ++ (before ++ cons_option o [])) (sym w.in_default.is ∙ c.number_if.ensures) ∙ sym more
    ]

pub returns : goal.returns
returns c = c.loop-one.invariant ∙ ap (λ xs. c.args.deployed.items ++ filter_map (number_if c.args.provider.now) xs) (take_all c.loop-one.one-index c.args.released.now (omega arith))
