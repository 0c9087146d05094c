use Rattle.std.proofs.Common.{◌≡◌, arith}
use Rattle.http_responses.proofs.HeadLemmas.{listed_next-kept, empty_next-kept, capacity-room_for_next, length-after_next_le}
use Rattle.http_responses.proofs.head.append_methods.Goals as goal

pub append_method-is_first-requires : goal.append_method-is_first-requires
append_method-is_first-requires c =
    let before = c.loop-method.invariant in
    record {
      fits = capacity-room_for_next c.loop-method.method-index c.method-item.result c.loop-method-test.true _ _ _ _ c.requires.fits before.len before.capacity;
    }

pub loop-method-preserved : goal.loop-method-preserved
loop-method-preserved c =
    let i = c.loop-method.method-index in
    let other = c.method-item.result in
    let before = c.loop-method.invariant in
    let added = c.append_method-is_first.ensures in
    record {
      items = listed_next-kept c.args.resource i other c.loop-method-test.true _ _ _ c.loop-method.is_first before.items before.first added.items;
      first = empty_next-kept c.args.resource i other c.loop-method-test.true c.loop-method.is_first _ before.first added.first;
      len = length-after_next_le i other c.loop-method-test.true _ _ _ before.len added.len;
      capacity = omega (arith, before.capacity, added.capacity);
    }

pub returns-clause-items : goal.returns-clause-items
returns-clause-items c =
    let last : c.loop-method.method-index ≡ 4 = omega (arith, c.loop-method-test.false, c.loop-method.auto.method-index-end) in
    rw last at c.loop-method.invariant.items
