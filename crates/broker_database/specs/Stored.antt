-- what a broker's database holds
use Rattle.sqlite.specs.Effect.{Database}
use Rattle.sqlite.specs.State.{State}
use Rattle.table_access.specs.Durability.{HoldsDurably}
use Rattle.broker_core.specs.Contents.{HasSoundContents}
use Rattle.broker_core.specs.State.{State as Broker}
use Rattle.broker_tables.specs.Holds.{Holds}
use Rattle.command_facts.specs.Primitives.{broker_primitives}

-- the tables hold the state, and each stored pact can be read again
pub record Stores (db : Database) (s : Broker) : Type 0 where
  pub tables : Holds db s
  pub contents : HasSoundContents broker_primitives s

-- the connection holds the state durably
abbrev pub HoldsState : Broker → State → Type 0
HoldsState s = HoldsDurably (λ db. Stores db s)
