use Rattle.table_access.proofs.CallLemmas.{CallsBetween-weaken}
use Rattle.broker_database.proofs.renewal.put_values.Goals as goal

pub returns : goal.returns
returns g c = CallsBetween-weaken _ _ c.change.result _ _ (λ a it. tt) c.change.ensures.leaves
