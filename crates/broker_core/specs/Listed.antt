-- states whose tables are finite, as each state that a broker reaches
use Rattle.std.specs.Prelude.{◌≡◌, List, Option, Some, IsTrue, Contains}
use Rattle.broker_core.specs.declared.command.Version.{Version}
use Rattle.broker_core.specs.Text.{Text}
use Rattle.broker_core.specs.State.{State}

-- the list has each key at which the table has something
abbrev pub Covers : {A B : Type 0} → (A → Option B) → List A → Type 0
Covers {A} {B} table keys = (k : A) (x : B) → table k ≡ Some x → Contains keys k

-- the keys of the tables that the gate, the listings and the matrix read
pub record Keys (s : State) : Type 0 where
  pub contracts : List (Version × Text)
  pub deployed : List (Text × Text × Text)
  pub released : List (Text × Version)
  pub all_contracts : Covers s.contracts contracts
  pub all_deployed : Covers s.deployed deployed
  pub all_released : (k : Text × Version) → IsTrue (s.released k) → Contains released k

-- the tables are finite
pub record IsListed (s : State) : Type 0 where
  pub keys : Keys s
  pub teams : List Text
  pub all_teams : Covers s.teams teams
