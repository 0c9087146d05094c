use Rattle.std.{specs.Option.{ok_or}, proofs.{Common.{Err, sym, ap, ◌∙◌}, lemmas.Result.{err_from_is_err_and}, lemmas.List.{nil_from_length}}}
use Rattle.pact_file.specs.{Pact.{key_cmp}, declared.fault.PactFault.TheVariants.{SameInteraction}, Sorting.{insert_sorted, same_text}}
use Rattle.pact_file.proofs.{Steps.{ok_or-ok, ok_or-err}, OrderedSets.{key_cmp-total}, SetLemmas.{stays}}
use Rattle.pact_file.proofs.SortingSteps.{insert_all_sorted-goes_on, insert_all_sorted-ends, insert_all_sorted-done}
use Rattle.pact_file.proofs.order.in_key_order.Goals as goal

pub loop-new-preserved : goal.loop-new-preserved
loop-new-preserved c =
    let l = c.loop-new in
    let new = ok_or-ok _ SameInteraction _ c.in_ok-insert_interaction.ensures in (
      (stays key_cmp key_cmp-total same_text c.in-Some.new l.list.items c.insert_interaction.new.list.items new).0 l.invariant.0,
      insert_all_sorted-goes_on key_cmp same_text l.list.items l.new-iterator.rest.items c.in-Some.new c.next.new.self.rest.items c.insert_interaction.new.list.items _ c.in-Some.ensures.steps.0 new l.invariant.1,
    )

pub returns-in_err-insert_interaction : goal.returns-in_err-insert_interaction
returns-in_err-insert_interaction c =
    let l = c.loop-new in
    let p = err_from_is_err_and c.from_residual-in_err-insert_interaction.result c.from_residual-in_err-insert_interaction.ensures.1 in
    rw (p.1, p.2) (λ memory.
    let h = ok_or-err (insert_sorted key_cmp same_text c.in-Some.new l.list.items) SameInteraction _ (c.in_err-insert_interaction.ensures memory) in
    ap (λ o. ok_or o SameInteraction) (insert_all_sorted-ends key_cmp same_text l.list.items l.new-iterator.rest.items c.in-Some.new c.next.new.self.rest.items _ c.in-Some.ensures.steps.0 h.0 l.invariant.1)
    ∙ ap Err h.1)

pub returns : goal.returns
returns c =
    let l = c.loop-new in
    ap (λ o. ok_or o SameInteraction) (insert_all_sorted-done key_cmp same_text l.list.items l.new-iterator.rest.items _ (nil_from_length l.new-iterator.rest.items (sym l.new-iterator.rest.ok.0 ∙ c.in-None.ensures.steps.0)) l.invariant.1)
