use Rattle.std.proofs.Common.{map, take, Ok}
use Rattle.sqlite.specs.Held.{state}
use Rattle.table_access.specs.Calls.{CallsStoreBetween}
use Rattle.broker_tables.specs.Making.{MakesTexts}
use Rattle.broker_tables.proofs.making.make_each.Given as goal

abbrev pub invariant-loop-text : goal.invariant-loop-text
invariant-loop-text g l =
    let old = state g.S.Store l.fn.conn in
    let now = state g.S.Store l.conn in
    CallsStoreBetween old now (Ok (tt {0})) (λ _. MakesTexts (map (λ text. text.now) (take l.text-index l.texts)) old.now now.now)
