use Rattle.std.proofs.Common.{◌≡◌, []}
use Rattle.pact_file.specs.{Pact.{key_cmp}, Sets.{IsRising}, Sorting.{insert_all_sorted, same_text}}
use Rattle.pact_file.proofs.order.in_key_order.Given as goal

abbrev pub invariant-loop-new : goal.invariant-loop-new
invariant-loop-new l =
    IsRising key_cmp l.list.items × (insert_all_sorted key_cmp same_text l.list.items l.new-iterator.rest.items ≡ insert_all_sorted key_cmp same_text [] l.fn.found.items)
