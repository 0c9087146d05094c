use Rattle.broker_service.proofs.broker.Broker.create.Goals as goal

pub returns-in-Err : goal.returns-in-Err
returns-in-Err g c = record { tables = c.in-Err.ensures; runs = tt }
