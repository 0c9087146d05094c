-- What the laws of the machine say of the states that a database holds (this project's own).
use Rattle.std.specs.Prelude.{◌≡◌, ◌++◌, ℕ, List, ◌∷◌, Option, codes}
use Rattle.sqlite.specs.Order.{Row, column}
use Rattle.sqlite_rules.specs.Lists.{Has}
use Rattle.sqlite.specs.Effect.{Database}
use Rattle.broker_core.specs.declared.answer.Answer.{Answer}
use Rattle.broker_core.specs.declared.command.Command.{Command}
use Rattle.broker_core.specs.declared.command.Command.TheVariants.{Deploy, Release}
use Rattle.broker_core.specs.declared.command.Version.{Version}
use Rattle.broker_core.specs.Change.{Transition}
use Rattle.broker_core.specs.Headline.{IsDeployedExactly, IsReleasedExactly}
use Rattle.broker_core.specs.Laws.{TeamsDiffer, CanBeRead}
use Rattle.broker_core.specs.Machine.{Request, Run, Step}
use Rattle.broker_core.specs.RunHeadline.{IsTaken}
use Rattle.broker_core.specs.State.{State as Broker}
use Rattle.broker_core.specs.Text.{Text}
use Rattle.command_facts.specs.Primitives.{broker_primitives}
use Rattle.broker_tables.specs.Format1.{HoldsFormat1}
use Rattle.broker_tables.specs.Holds.{IsBroker}
use Rattle.broker_tables.specs.Rows.{rows_of}
use Rattle.broker_tables.specs.Schema.{in_versions, in_branches, in_contracts, in_results, in_latest, in_deployed, in_released}
use Rattle.broker_database.specs.Migration.{JudgesAsBefore}
use Rattle.broker_database.specs.Stored.{Stores}

-- in each run from a state that a database holds each deployment is recorded exactly when it may be
abbrev pub StoredRunsDeployExactly : Type 0
StoredRunsDeployExactly =
    (db : Database) (first last : Broker) (before after : List Request) (answers : List Answer)
    (token : Option Text) (e : Text) (v : Version) (instance : Option Text) → Stores db first
    → Run broker_primitives first (before ++ record { token = token; command = Deploy e v instance } ∷ after) answers last
    → IsTaken broker_primitives (λ s. IsDeployedExactly broker_primitives s token e v instance)
    first before after answers last

-- and each release
abbrev pub StoredRunsReleaseExactly : Type 0
StoredRunsReleaseExactly =
    (db : Database) (first last : Broker) (before after : List Request) (answers : List Answer)
    (token : Option Text) (e : Text) (v : Version) → Stores db first
    → Run broker_primitives first (before ++ record { token = token; command = Release e v } ∷ after) answers last
    → IsTaken broker_primitives (λ s. IsReleasedExactly broker_primitives s token e v) first before after answers last

-- in a state that a database holds no two teams have tokens with one digest
abbrev pub StoredTeamsDiffer : Type 0
StoredTeamsDiffer = (db : Database) (s : Broker) → Stores db s → TeamsDiffer s

-- of a state that a database of format 1 holds the gate says what it said in format 1
abbrev pub Format1GateStays : Type 0
Format1GateStays = (db : Database) (s : Broker) → HoldsFormat1 db s → JudgesAsBefore s

-- in a state that a database holds every command has a step that is read in some way and whose replies can be compared
abbrev pub StoredStepExists : Type 0
StoredStepExists =
    (db : Database) (s : Broker) (token : Option Text) (command : Command) → Stores db s
    → CanBeRead broker_primitives s command → (out : Transition) × Step broker_primitives s token command out

-- each row of this table names a version that is there, in the column at this place
abbrev pub NamesVersions : Database → Text → ℕ → Type 0
NamesVersions db name place = (r : Row) → Has (rows_of db name) r
    → (v : Row) × Has (rows_of db (codes "versions")) v × (column v in_versions.number ≡ column r place)

-- In a database that declares what a broker does and obeys it, whoever wrote its rows, no row names a version that isn't
-- there: of what is deployed or released, of contracts, branches, results and latest results.
abbrev pub RowsNameVersions : Type 0
RowsNameVersions = (db : Database) → IsBroker db
    → NamesVersions db (codes "deployed") in_deployed.version_number
    × NamesVersions db (codes "released") in_released.version_number
    × NamesVersions db (codes "contracts") in_contracts.version_number
    × NamesVersions db (codes "branches") in_branches.version_number
    × NamesVersions db (codes "results") in_results.provider_version
    × NamesVersions db (codes "latest") in_latest.provider_version
