use Rattle.std.proofs.Common.{Ok}
use Rattle.sqlite.specs.Held.{state}
use Rattle.table_access.specs.Calls.{CallsStoreBetween}
use Rattle.broker_database.proofs.renewal.put_rows.Given as goal

abbrev pub invariant-loop-row : goal.invariant-loop-row
invariant-loop-row g l = CallsStoreBetween (state g.S.Store l.fn.conn) (state g.S.Store l.conn) (Ok (tt {0})) (λ _. Unit {0})
