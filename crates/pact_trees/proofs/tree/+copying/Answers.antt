use Rattle.std.specs.{List.Sorted.{IsStrictlySortedBy}, Map.{keys_of}, String.{string_cmp}}
use Rattle.std.proofs.Common.{◌≡◌, [], ◌∷◌, ◌++◌, length, true≢false, false, string_bytes, sym, ap, ◌∙◌, subst, append_assoc, arith}
use Rattle.serde_json.{specs.{View.{members_view}, Written.{members_have_float}}, proofs.Views.{Entry, put_last}}
use Rattle.pact_trees.specs.Trees.{members_data}
use Rattle.pact_trees.proofs.Copies.{members_data-insert_entry, members_have_float-tail, has_parts-items, has_parts-members, OnErr-any_fact}
use Rattle.pact_trees.proofs.tree.+copying.Goals as goal

pub copied_items-returns-in_err-trees-clause-memory : goal.copied_items-returns-in_err-trees-clause-memory
copied_items-returns-in_err-trees-clause-memory t c =
    let filled = λ (e : length c.args.items.now.items ≡ 0). absurd (true≢false (sym (c.in_err-trees.ensures.succeeds (omega arith)))) in
    OnErr-any_fact c.from_residual.result _ (has_parts-items c.args.items.now.items filled)

pub copied_members-returns-in_err-name-clause-memory : goal.copied_members-returns-in_err-name-clause-memory
copied_members-returns-in_err-name-clause-memory t c =
    OnErr-any_fact c.from_residual.result _ (has_parts-members c.loop-key.invariant.0 c.loop-key.invariant.1 c.in-Some.ensures.steps)

pub copied_members-returns-in_err-copied-clause-memory : goal.copied_members-returns-in_err-copied-clause-memory
copied_members-returns-in_err-copied-clause-memory t c =
    OnErr-any_fact c.from_residual-in_err-copied.result _ (has_parts-members c.loop-key.invariant.0 c.loop-key.invariant.1 c.in-Some.ensures.steps)

pub copied_members-returns-in_err-insert-clause-memory : goal.copied_members-returns-in_err-insert-clause-memory
copied_members-returns-in_err-insert-clause-memory t c =
    OnErr-any_fact c.from_residual-in_err-insert.result _ (has_parts-members c.loop-key.invariant.0 c.loop-key.invariant.1 c.in-Some.ensures.steps)

pub copied_members-loop-key-preserved : goal.copied_members-loop-key-preserved
copied_members-loop-key-preserved t c =
    let l = c.loop-key in
    let done = l.invariant.0 in
    let e : Entry = (c.in-Some.key.now, c.in-Some.member.now) in
    let left = c.next.new.self in
    let step = c.in-Some.ensures.steps in
    let all : c.args.members.now.entries ≡ done ++ e ∷ left = l.invariant.1 ∙ ap (λ es. done ++ es) step in
    let last = put_last done e left (subst (λ es. IsStrictlySortedBy string_cmp (keys_of es)) all c.iter-key-items.ensures.ordered) in
    let named : string_bytes c.in_ok-name.name ≡ string_bytes e.0 = c.in_ok-name.ensures.ok ∙ c.as_str.ensures.value in (
      done ++ e ∷ [],
      all ∙ sym (append_assoc done (e ∷ []) left),
      ap members_data c.in_ok-insert.ensures.entries ∙ members_data-insert_entry l.trees.entries c.in_ok-name.name c.in_ok-copied.field-0 ∙ rw (named, c.in_ok-copied.ensures.tree, l.invariant.2) last,
      members_have_float-tail e left (subst (λ es. members_have_float (members_view es) ≡ false) step l.invariant.3),
    )
