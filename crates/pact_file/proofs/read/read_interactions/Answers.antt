use Rattle.std.{specs.Option.{ok_or}, proofs.{Common.{Ok, Err, map, refl, []}, lemmas.Result.{err_from_is_err_and}}}
use Rattle.serde_json.specs.View.{view}
use Rattle.pact_file.specs.{declared.fault.PactFault.TheVariants.{SameInteraction}, Normal.{InteractionsRead}, Pact.{key_cmp}}
use Rattle.pact_file.{specs.Sorting.{insert_all_sorted, same_text}, proofs.OrderedSets.{InOrder-of_insert_all}}
use Rattle.pact_file.proofs.ReadLemmas.{items_at-sound, AreSound-items_view, EachRead-sound, GivesOne-of_Gives}
use Rattle.pact_file.proofs.read.read_interactions.Goals as goal

pub returns-in_err-items : goal.returns-in_err-items
unfolding InteractionsRead
returns-in_err-items c =
    let p = err_from_is_err_and c.from_residual.result c.from_residual.ensures.1 in
    rw (p.1, p.2) (λ memory. (Err c.in_err-items.field-0.0, c.in_err-items.ensures, refl))

pub read_list-requires : goal.read_list-requires
read_list-requires c =
    AreSound-items_view c.in_ok-items.items.items (items_at-sound (view c.args.file) (map view c.in_ok-items.items.items) c.requires c.in_ok-items.ensures)

pub returns-in_err-found : goal.returns-in_err-found
unfolding InteractionsRead
returns-in_err-found c =
    let p = err_from_is_err_and c.from_residual-in_err-found.result c.from_residual-in_err-found.ensures.1 in
    rw (p.1, p.2) (λ memory.
    let e = c.in_err-found.field-0.0 in
    (Ok (map view c.in_ok-items.items.items), c.in_ok-items.ensures, (Err e, c.in_err-found.ensures memory, refl)))

pub returns : goal.returns
unfolding InteractionsRead
returns c =
    let vs = c.in_ok-items.items.items in
    let xs = c.in_ok-found.found.items in
    let read = c.in_ok-found.ensures in
    let good = EachRead-sound 0 (map view vs) xs (items_at-sound (view c.args.file) (map view vs) c.requires c.in_ok-items.ensures) read in
    GivesOne-of_Gives (λ v. v.items) c.in_key_order.result (ok_or (insert_all_sorted key_cmp same_text [] xs) SameInteraction) _ (λ a is. (Ok (map view vs), c.in_ok-items.ensures, (Ok xs, read, InOrder-of_insert_all xs a good is))) c.in_key_order.ensures
