use Rattle.table_access.proofs.CallLemmas.{CallsBetween-then_call}
use Rattle.broker_database.proofs.renewal.make_empty.Goals as goal

pub returns : goal.returns
returns g c = CallsBetween-then_call _ _ _ tt c.make_format_1.result _ _ _ (λ _ _ _. tt) c.in-Ok.ensures c.make_format_1.ensures
