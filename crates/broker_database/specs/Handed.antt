-- what a call that makes or opens a broker hands back
use Rattle.std.specs.Prelude.{Result, Ok, Err}
use Rattle.sqlite.specs.Held.{Held}
use Rattle.broker_database.specs.BrokerView.{BrokerView}
use Rattle.broker_database.specs.declared.opening.OpenFault.{OpenFault}
use Rattle.broker_database.specs.declared.opening.Refused.{Refused}

-- the connection, the broker's or the one that is handed back
abbrev pub left_by : {S : Type 0} → Result (BrokerView S) (Refused S) → Held S
left_by (Ok broker) = broker.connection
left_by (Err refused) = refused.connection

-- whether there is a broker, or why not
abbrev pub verdict : {S : Type 0} → Result (BrokerView S) (Refused S) → Result (Unit {0}) OpenFault
verdict (Ok broker) = Ok tt
verdict (Err refused) = Err refused.fault
