use Rattle.std.proofs.Common.{Ok}
use Rattle.table_access.proofs.CallLemmas.{CallsBetween-no_call, CallsBetween-then_call}
use Rattle.broker_database.proofs.renewal.drop_each.Goals as goal

pub loop-text-init : goal.loop-text-init
loop-text-init g c = CallsBetween-no_call _ _ _ tt

pub loop-text-preserved : goal.loop-text-preserved
loop-text-preserved g c = CallsBetween-then_call _ _ _ (tt {0}) (Ok (tt {0})) _ _ _ (λ _ _ _. tt) c.loop-text.invariant c.in-Ok.ensures
