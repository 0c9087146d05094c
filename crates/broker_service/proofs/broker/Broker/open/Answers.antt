use Rattle.std.proofs.Common.{refl}
use Rattle.broker_database.proofs.Transaction.{HoldsDurably-as_before}
use Rattle.broker_service.proofs.broker.Broker.open.Goals as goal

pub returns-in-Ok : goal.returns-in-Ok
returns-in-Ok g c = record {
  tables = c.in-Ok.ensures;
  holds = λ clean s holds. HoldsDurably-as_before _ _ _ (c.in-Ok.ensures.kept clean) holds;
  room = λ clean n holds. HoldsDurably-as_before _ _ _ (c.in-Ok.ensures.kept clean) holds;
  runs = refl;
}
