-- what a public call of the broker promises, on any disk and any database: one record a call
use Rattle.std.specs.Prelude.{◌≡◌, ◌≢◌, ◌⊎◌, ◌↔◌, ℕ, List, false, IsTrue, Option, Some, None, Result, Err, OnOk, IfOk, IfErr}
use Rattle.sqlite.specs.Held.{Held}
use Rattle.sqlite.specs.State.{State, HasCleanDisk}
use Rattle.table_access.specs.Calls.{KeepsLastCommit, HasFailed}
use Rattle.table_access.specs.Durability.{HoldsDurably}
use Rattle.table_access.specs.declared.StoreFault.TheVariants as faults
use Rattle.broker_core.specs.Change.{instance_of}
use Rattle.broker_core.specs.Laws.{IsDone}
use Rattle.broker_core.specs.Machine.{is_step}
use Rattle.broker_core.specs.State.{State as Broker}
use Rattle.broker_core.specs.Text.{Text}
use Rattle.broker_core.specs.declared.answer.Answer.{Answer}
use Rattle.broker_core.specs.declared.answer.Answer.TheVariants as answers
use Rattle.broker_core.specs.declared.command.Command.{Command}
use Rattle.broker_core.specs.declared.command.Command.TheVariants.{Deploy, Release}
use Rattle.broker_core.specs.declared.command.Version.{Version}
use Rattle.broker_tables.specs.Format1.{format_1}
use Rattle.broker_tables.specs.Making.{IsBlank, IsMarked}
use Rattle.broker_tables.specs.Room.{HasRoomFor}
use Rattle.broker_database.specs.BrokerView.{BrokerView}
use Rattle.broker_database.specs.Causes.{HoldsReadable, IsNotKept, KeepsRoom, StaysReadable}
use Rattle.broker_database.specs.Ends.{Applies, IsAsBefore, AddsNoCrashState, CommitsAtMostOnce, LeavesNoTransaction}
use Rattle.broker_database.specs.Handed.{left_by, verdict}
use Rattle.broker_database.specs.Headline.{RecordsExactly}
use Rattle.broker_database.specs.Migration.{DeclaresToday, StoresFormat1, HoldsFormat1State, KeepsFormat1Room, MigratesOrRefuses}
use Rattle.broker_database.specs.Migration.{IsFormat1, OnlyIfNotMigrated}
use Rattle.broker_database.specs.Opening.{TablesMade, TablesFound, Refuses, IsUnchangedUnlessStore, Judged, IsFresh, ReportsNothing}
use Rattle.broker_database.specs.Stored.{Stores, HoldsState}
use Rattle.broker_database.specs.declared.opening.Refused.{Refused}
use Rattle.broker_database.specs.declared.opening.OpenFault.{OpenFault}
use Rattle.broker_database.specs.declared.opening.OpenFault.TheVariants as fault

-- shown is what a connection shows of its store
module _ {X : Type 0} (shown : Held X → State) where
  -- What a broker leaves of a command that came with this token, and what it answers.
  pub record Applied (old : BrokerView X) (token : Option Text) (command : Command) (answer : Answer)
      (new : BrokerView X) : Type 0 where
    -- the machine's answer and its next state; or Pattern, Memory or Store, and no step
    pub applies : HasCleanDisk (shown new.connection) → old.is_stopped ≡ false
        → (s : Broker) → HoldsState s (shown old.connection)
        → Applies s token command (shown new.connection) answer
    -- a deployment is recorded if and only if it may be
    pub deployments : HasCleanDisk (shown new.connection) → old.is_stopped ≡ false
        → IsTrue (is_step answer) → (s : Broker) → HoldsState s (shown old.connection)
        → (e : Text) (v : Version) (instance : Option Text) → command ≡ Deploy e v instance
        → RecordsExactly s token e v (λ t. t.deployed (e, v.pacticipant, instance_of instance) ≡ Some v.name)
        (shown new.connection) answer
    -- and so is a release
    pub releases : HasCleanDisk (shown new.connection) → old.is_stopped ≡ false
        → IsTrue (is_step answer) → (s : Broker) → HoldsState s (shown old.connection)
        → (e : Text) (v : Version) → command ≡ Release e v
        → RecordsExactly s token e v (λ t. IsTrue (t.released (e, v))) (shown new.connection) answer
    -- of any database: unless the answer is Done or Store, it is as it was
    pub unchanged : HasCleanDisk (shown new.connection) → old.is_stopped ≡ false
        → answer ≢ answers.Store → ¬ (IsDone answer) → IsAsBefore (shown old.connection) (shown new.connection)
    -- Store: the last commit is the old one, while its connection is open
    pub fails : HasCleanDisk (shown new.connection) → answer ≡ answers.Store
        → KeepsLastCommit (shown old.connection) (shown new.connection)
    -- Store, from a state that can be read back: the store failed, unless the command was to be done; so no refusal, no
    -- request without a token and none that only reads stops a broker whose disk works. And one that was to be done, if
    -- the tables have numbers for its rows, only if the store failed or COMMIT was refused since memory ran out.
    pub failure : HasCleanDisk (shown new.connection) → old.is_stopped ≡ false → answer ≡ answers.Store
        → (s : Broker) → HoldsReadable s (shown old.connection)
        → HasFailed (shown old.connection) (shown new.connection) faults.Store
        ⊎ IsNotKept shown s token command old.connection new.connection
    -- a step leads from a state that can be read back to one that can
    pub readable : StaysReadable token command
    -- the numbers of rows that the tables have left: a command takes some at most
    pub room : HasCleanDisk (shown new.connection) → old.is_stopped ≡ false
        → (s : Broker) → HoldsState s (shown old.connection) → KeepsRoom (shown old.connection) (shown new.connection)
    -- for any answer, no transaction is left open
    pub over : LeavesNoTransaction (shown old.connection) (shown new.connection)
    -- only Store stops the broker
    pub stops : old.is_stopped ≡ false → (IsTrue new.is_stopped ↔ (answer ≡ answers.Store))
    -- a stopped broker answers Stopped and is left as it is, and no other one answers so
    pub stopped : IsTrue old.is_stopped → (answer ≡ answers.Stopped) × (new ≡ old)
    pub runs : old.is_stopped ≡ false → answer ≢ answers.Stopped
    -- on a disk that fails, and when the program is stopped in the call: a crash leaves one more database at most
    pub survives : CommitsAtMostOnce (shown old.connection) (shown new.connection)

  -- What the making of a broker leaves of a connection, and what it hands back. Its office's token has this digest.
  pub record Created (old : Held X) (office : Text) (given : Result (BrokerView X) (Refused X)) : Type 0 where
    -- a new broker's tables are made, or the fault says why not; for any database and any disk
    pub tables : TablesMade shown old (left_by given) office (verdict given)
    -- a new broker isn't stopped
    pub runs : IfOk given (λ b. b.is_stopped ≡ false)

  -- What the opening of a broker leaves of a connection, and what it hands back.
  pub record Opened (old : Held X) (given : Result (BrokerView X) (Refused X)) : Type 0 where
    -- a broker's tables are found, or the fault says what is there instead; for any database and any disk
    pub tables : TablesFound shown old (left_by given) (verdict given)
    -- the database is as it was, so that the broker holds the state that was held
    pub holds : IfOk given (λ b. HasCleanDisk (shown b.connection) → (s : Broker) → HoldsState s (shown old)
        → HoldsState s (shown b.connection))
    -- and its tables have numbers for as many rows more as they had
    pub room : IfOk given (λ b. HasCleanDisk (shown b.connection) → (n : ℕ) → HoldsDurably (HasRoomFor n) (shown old)
        → HoldsDurably (HasRoomFor n) (shown b.connection))
    -- an opened broker isn't stopped
    pub runs : IfOk given (λ b. b.is_stopped ≡ false)

  -- What a migration leaves of a connection, and what it answers.
  pub record Migrated (old new : Held X) (given : Result (Unit {0}) OpenFault) : Type 0 where
    -- of a broker's database of format 1: it is one of today's with the same state, of which the gate says what it said
    -- (the law `format_1_gate`)
    pub migrates : HasCleanDisk (shown new) → (s : Broker) → HoldsFormat1State s (shown old)
        → OnOk given (HoldsState s (shown new))
    -- and its tables have numbers for as many rows more as those of format 1 had: none is taken
    pub room : HasCleanDisk (shown new) → (s : Broker) → HoldsFormat1State s (shown old)
        → OnOk given (KeepsFormat1Room (shown old) (shown new))
    -- or a failure: it is of format 1 with that state, and after Store a crash may leave today's
    pub refuses : HasCleanDisk (shown new) → (s : Broker) → HoldsFormat1State s (shown old)
        → IfErr given (Refuses (λ db. StoresFormat1 db s) (λ db. Stores db s) (shown new))
    -- of any database with the tables of format 1, however these are declared: it declares exactly what a new broker does
    pub today : HasCleanDisk (shown new) → OnOk given (HoldsDurably DeclaresToday (shown new))
    -- unless it failed: the database had the tables of format 1, or the fault says what it is instead
    pub judges : HasCleanDisk (shown new) → MigratesOrRefuses (shown old).now given
    -- Store: on a connection as it is opened, the store failed, or meta has no number as its format; or the database had
    -- the tables of format 1, and a change or the commit was refused
    pub failure : HasCleanDisk (shown new) → IsFresh (shown old) → given ≡ Err fault.Store
        → ReportsNothing (shown old) (shown new) ⊎ IsFormat1 (shown old).now
    -- and if it held a state in that format that can be read back: the store failed, or COMMIT was refused since memory
    -- ran out; no statement that makes a table or an index, or sets the format, is refused
    pub failure_format_1 : OnlyIfNotMigrated shown old new (given ≡ Err fault.Store)
    -- of a database without tables: NotABroker, or a failure
    pub blank : HasCleanDisk (shown new) → HoldsDurably IsBlank (shown old) → Judged format_1 None given
    -- of one that is marked with another format: which that is, or a failure
    pub marked : HasCleanDisk (shown new) → (n : ℕ) (office : List ℕ) → n ≢ format_1
        → HoldsDurably (IsMarked n office) (shown old) → Judged format_1 (Some n) given
    -- of any database: if it isn't migrated it is as it was, or after Store the last commit is the old one
    pub unchanged : HasCleanDisk (shown new) → IfErr given (IsUnchangedUnlessStore (shown old) (shown new))
    -- for any answer, no transaction is left open
    pub over : LeavesNoTransaction (shown old) (shown new)
    -- on a disk that fails, and when the program is stopped in the call: a crash leaves one more database at most
    pub survives : CommitsAtMostOnce (shown old) (shown new)
    -- and none on a database that isn't of format 1, for any answer: what a crash leaves, it left before
    pub spares : HasCleanDisk (shown new) → ¬ (IsFormat1 (shown old).now) → AddsNoCrashState (shown old) (shown new)
