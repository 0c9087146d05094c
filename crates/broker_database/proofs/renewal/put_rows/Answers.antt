use Rattle.std.proofs.Common.{Ok}
use Rattle.table_access.proofs.CallLemmas.{CallsBetween-no_call, CallsBetween-then_call}
use Rattle.broker_database.proofs.renewal.put_rows.Goals as goal

pub loop-row-init : goal.loop-row-init
loop-row-init g c = CallsBetween-no_call _ _ _ tt

pub loop-row-preserved : goal.loop-row-preserved
loop-row-preserved g c = CallsBetween-then_call _ _ _ (tt {0}) (Ok (tt {0})) _ _ _ (λ _ _ _. tt) c.loop-row.invariant c.in-Ok.ensures
