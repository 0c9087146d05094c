use Rattle.std.specs.{List.Sorted.{IsStrictlySortedBy}, Map.{keys_of}, String.{string_cmp}}
use Rattle.std.proofs.{Common.{◌≡◌, [], ◌∷◌, ◌++◌, map, take, string_bytes, String, Global, sym, ap, ◌∙◌, subst, append_assoc, arith}, lemmas.List.{take_all}}
use Rattle.serde_json.{specs.View.{members_view}, proofs.Views.{members_view-insert_entry}}
use Rattle.pact_trees.specs.declared.tree.Tree.{Tree}
use Rattle.pact_rules.proofs.AsReadLemmas.{tree_as_read, read_last, items_copied}
use Rattle.pact_rules.proofs.tree_reader.+copying.Goals as goal

pub values_of-returns : goal.values_of-returns
values_of-returns t c =
    let xs = c.deref-item-items.result.now in
    let all : take c.loop-item.item-index xs ≡ xs = take_all c.loop-item.item-index xs (omega arith) in
    items_copied c.args.items.now.items c.loop-item.values.items (c.loop-item.invariant ∙ ap (map tree_as_read) (all ∙ c.deref-item-items.ensures.value))

pub map_of-loop-key-preserved : goal.map_of-loop-key-preserved
map_of-loop-key-preserved t c =
    let l = c.loop-key in
    let done = l.invariant.0 in
    let e : String Global × Tree = (c.in-Some.key.now, c.in-Some.member.now) in
    let left = c.next.new.self in
    let all : c.args.members.now.entries ≡ done ++ e ∷ left = l.invariant.1 ∙ ap (λ es. done ++ es) c.in-Some.ensures.steps in
    let last = read_last done e left (subst (λ es. IsStrictlySortedBy string_cmp (keys_of es)) all c.iter-key-items.ensures.ordered) in
    let named : string_bytes c.in_ok-name.name ≡ string_bytes e.0 = c.in_ok-name.ensures.ok ∙ c.as_str.ensures.value in (
      done ++ e ∷ [],
      all ∙ sym (append_assoc done (e ∷ []) left),
      ap members_view c.in_ok-insert.ensures.entries ∙ members_view-insert_entry l.map.entries c.in_ok-name.name c.in_ok-value_of.field-0 ∙ rw (named, c.in_ok-value_of.ensures, l.invariant.2) last,
    )
