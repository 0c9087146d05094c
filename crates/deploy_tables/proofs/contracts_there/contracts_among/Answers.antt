use Rattle.std.{specs.Prelude.{filter_map}, proofs.Common.{sym, ap, ◌∙◌, arith, take, ◌∷◌, [], ◌++◌, Some, None}}
use Rattle.std.proofs.lemmas.List.{take_all, append-nil, get_or_default}
use Rattle.broker_core.proofs.Lists.{filter_map-take_next}
use Rattle.deploy_tables.proofs.contracts_there.contracts_among.Goals.{in-Some+in_ok-push, in_default}
use Rattle.deploy_tables.proofs.contracts_there.contracts_among.Goals as goal

pub loop-one-preserved : goal.loop-one-preserved
loop-one-preserved c =
    let found = c.args.found.now in
    let at = c.loop-one.one-index in
    elim c.match-one.branch [
      | in-Some+in_ok-push w ↦
          let here = Some w.in-Some.contract in
          ap (λ v. v.items) w.contracts-is ∙ w.in_ok-push.ensures.items ∙ ap (λ xs. xs ++ w.in-Some.contract ∷ []) c.loop-one.invariant
          ∙ sym (filter_map-take_next (λ one. one) found at here c.loop-one-test.true (sym w.in-Some.is ∙ get_or_default found at None here c.loop-one-test.true))
      | in_default w ↦
          ap (λ v. v.items) w.contracts-is ∙ c.loop-one.invariant ∙ sym (append-nil (filter_map (λ one. one) (take at found)))
          ∙ sym (filter_map-take_next (λ one. one) found at None c.loop-one-test.true (sym w.in_default.is))
    ]

pub returns : goal.returns
returns c = c.loop-one.invariant ∙ ap (filter_map (λ one. one)) (take_all c.loop-one.one-index c.args.found.now (omega arith))
