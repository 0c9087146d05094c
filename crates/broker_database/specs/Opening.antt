-- how a broker is made on a database, or opened; and, for private clauses, the steps of its making
use Rattle.std.specs.Prelude.{◌≡◌, ◌≢◌, ◌⊎◌, ◌↔◌, ◌==◌, ◌++◌, ◌∷◌, ℕ, false, IsTrue, MatchOption, List, if◌then◌else◌, Option, Some, None, Result, Ok, Err, OnOk, IfErr}
use Rattle.sqlite.specs.Effect.{Database}
use Rattle.sqlite.specs.Table.{Table}
use Rattle.sqlite.specs.Held.{Held}
use Rattle.sqlite.specs.State.{State, HasCleanDisk, Survives}
use Rattle.table_access.specs.declared.StoreFault.{StoreFault}
use Rattle.table_access.specs.declared.StoreFault.TheVariants as fault
use Rattle.table_access.specs.Calls.{KeepsLastCommit, HasFailed}
use Rattle.table_access.specs.Durability.{HoldsDurably, HoldsEither}
use Rattle.table_access.specs.Unit.{RefusesCommit}
use Rattle.broker_core.specs.State.{State as Broker, opening}
use Rattle.broker_core.specs.Text.{Text}
use Rattle.broker_tables.specs.Holds.{Holds, format}
use Rattle.broker_tables.specs.Making.{IsBlank, IsMarked, HasTables}
use Rattle.broker_tables.specs.Room.{HasAllNumbers}
use Rattle.broker_tables.specs.Schema.{no_schema, broker_schema, registry_part, contents, contract_part, all_tables}
use Rattle.registry_tables.specs.Format.{IsOfFormat, IsForeign, HasNoFormat, SharesTree}
use Rattle.broker_database.specs.Ends.{IsAsBefore, CommitsAtMostOnce, LeavesNoTransaction}
use Rattle.broker_database.specs.Stored.{Stores, HoldsState}
use Rattle.broker_database.specs.Transaction.{EndsOrFails}
use Rattle.broker_database.specs.declared.ending.Failure.{Failure}
use Rattle.broker_database.specs.declared.ending.Failure.TheVariants.{Call, Commit}
use Rattle.broker_database.specs.declared.opening.OpenFault.{OpenFault}
use Rattle.broker_database.specs.declared.opening.OpenFault.TheVariants.{NotEmpty, NotABroker, Format, Memory, Store}

-- ---- for private clauses: the steps of making a broker, and its transaction

-- a failure of the database, as it is reported
abbrev pub open_fault : StoreFault → OpenFault
open_fault fault.Memory = Memory
open_fault fault.Store = Store

-- the tables that are made first: of the registry, of contents and of contracts
abbrev pub first_tables : List Table
first_tables = registry_part ++ contents ∷ contract_part

-- the rest of them is made, for any office
abbrev pub MakesRest : Database → Database → Type 0
MakesRest old new = (office : Text) → HasTables first_tables format office old → HasTables all_tables format office new

-- a transaction that makes the tables of a new broker on a database without any, or fails
abbrev pub MakesOrFails : Text → State → Result (Unit {0}) StoreFault → Type 0
MakesOrFails office new =
    EndsOrFails IsBlank (λ db. Stores db (opening office))
    (λ _. HoldsState (opening office) new × HoldsDurably HasAllNumbers new) new

-- ---- what making a broker leaves

-- the tables of a new broker weren't made: the connection keeps what it kept, or the database failed, and a crash
-- may leave that or the new broker's
abbrev pub Refuses : (Database → Type 0) → (Database → Type 0) → State → OpenFault → Type 0
Refuses P Q new Memory = HoldsDurably P new
Refuses P Q new Store = HoldsEither P Q new
Refuses P Q new _ = ⊥

-- of any database: if it is refused, it is as it was, or after a failure of the database the last commit is the old
-- one
abbrev pub IsUnchangedUnlessStore : State → State → OpenFault → Type 0
IsUnchangedUnlessStore old new Store = KeepsLastCommit old new
IsUnchangedUnlessStore old new _ = IsAsBefore old new

-- on a database without tables: a new broker's database, whose office's token has this digest, and all numbers of rows
abbrev pub MakesNew : Text → State → State → Type 0
MakesNew office old new = HasCleanDisk new → HoldsDurably IsBlank old
    → HoldsState (opening office) new × HoldsDurably HasAllNumbers new

-- or a failure: there are no tables, and after Store a crash may leave the new broker's
abbrev pub RefusesNew : Text → State → State → OpenFault → Type 0
RefusesNew office old new fault =
    HasCleanDisk new → HoldsDurably IsBlank old → old.now.schema ≡ no_schema
    → Refuses IsBlank (λ db. Stores db (opening office)) new fault

-- ---- what is answered about a database

-- Of today's format, with what a broker declares and nothing else: its tables, their CHECKs, keys and REFERENCES, and its
-- indexes, as SQLite reads the statements that make them. So it is in each database that holds a state.
abbrev pub IsOfToday : Database → Type 0
IsOfToday db = IsOfFormat format db × (db.schema ≡ broker_schema)

-- of today's format by its meta, but it declares something else than a broker does
abbrev pub DeclaresOther : Database → Type 0
DeclaresOther db = IsOfFormat format db × (db.schema ≢ broker_schema)

-- For private clauses: what is found in a database that is to be opened: a format, and if that is today's, what a
-- broker declares too; or neither.
abbrev pub FindsToday : Database → Option ℕ → Type 0
FindsToday db found = MatchOption found (IsForeign db ⊎ DeclaresOther db)
    (λ n. IsOfFormat n db × (n ≡ format → db.schema ≡ broker_schema))

-- what is answered about a database that is to be opened, unless the call fails
abbrev pub OpensOrRefuses : Database → Result (Unit {0}) OpenFault → Type 0
OpensOrRefuses db (Ok u) = IsOfToday db
OpensOrRefuses db (Err NotABroker) = IsForeign db ⊎ DeclaresOther db
OpensOrRefuses db (Err (Format n)) = IsOfFormat n db × (n ≢ format)
OpensOrRefuses db (Err NotEmpty) = ⊥
OpensOrRefuses db (Err Memory) = Unit {0}
OpensOrRefuses db (Err Store) = Unit {0}

-- it is marked with today's format, and declares what a broker does
abbrev pub IsMarkedToday : Text → Database → Type 0
IsMarkedToday office db = IsMarked format office db × (db.schema ≡ broker_schema)

-- of this format it is to be
module _ (wanted : ℕ) where
  -- what is answered about a database by the format that is found in it
  abbrev pub judgement : Option ℕ → Result (Unit {0}) OpenFault
  judgement None = Err NotABroker
  judgement (Some n) = if n == wanted then Ok tt else Err (Format n)

  -- the judgement, or a failure
  abbrev pub Judged : Option ℕ → Result (Unit {0}) OpenFault → Type 0
  Judged found r = (r ≡ judgement found) ⊎ ((r ≡ Err Memory) ⊎ (r ≡ Err Store))

-- ---- why nothing is answered about it

-- as a connection is opened: no transaction is open, and no query has a limit of steps
abbrev pub IsFresh : State → Type 0
IsFresh c = (c.in_transaction ≡ false) × (c.step_limit ≡ None)

-- the store failed, or the table meta is such that no format is found
abbrev pub ReportsNothing : State → State → Type 0
ReportsNothing old new = HasFailed old new fault.Store ⊎ (HasNoFormat old.now ⊎ SharesTree old.now)

-- so it is if this is answered for a connection as it is opened
abbrev pub OnlyIfSilent : State → State → Type 0 → Type 0
OnlyIfSilent old new Answered = HasCleanDisk new → IsFresh old → Answered → ReportsNothing old new

-- ---- why today's tables aren't made

-- They were made, all of them, and hold this state, in a transaction that was begun on this connection, in which nothing
-- was committed, and COMMIT was refused since memory ran out. Shown is what a connection shows.
pub record IsUncommitted {X : Type 0} (shown : Held X → State) (s : Broker) (old new : Held X) : Type 0 where
  pub worked : Held X
  pub inside : IsTrue (shown worked).in_transaction
  pub survives : Survives (shown old) (shown worked) (λ _. ⊥)
  pub made : Holds (shown worked).now s
  pub refused : RefusesCommit shown worked new fault.Memory

-- On a connection as it is opened that holds such a database, of which one that holds this state is to be made, this is
-- answered only if the store failed, or if COMMIT was refused since memory ran out.
abbrev pub OnlyIfStoreFailed : {X : Type 0} → (Held X → State) → (Database → Type 0) → Broker → Held X → Held X → Type 0
    → Type 0
OnlyIfStoreFailed shown Before s old new Answered =
    HasCleanDisk (shown new) → IsFresh (shown old) → HoldsDurably Before (shown old) → Answered
    → HasFailed (shown old) (shown new) fault.Store ⊎ IsUncommitted shown s old new

-- For private clauses: why such a transaction fails by Store. If it was a call, the store failed; if it was COMMIT, that
-- did, or it was refused since memory ran out.
pub record OnlyIfRefused {X A : Type 0} (shown : Held X → State) (Before : Database → Type 0) (s : Broker) (old new : Held X)
    (result : Result A Failure) : Type 0 where
  pub call : HasCleanDisk (shown new) → IsFresh (shown old) → HoldsDurably Before (shown old)
      → result ≡ Err (Call fault.Store) → HasFailed (shown old) (shown new) fault.Store
  pub commit : HasCleanDisk (shown new) → IsFresh (shown old) → HoldsDurably Before (shown old)
      → (why : StoreFault) → result ≡ Err (Commit why)
      → HasFailed (shown old) (shown new) fault.Store ⊎ ((why ≡ fault.Memory) × IsUncommitted shown s old new)

-- ---- what the two calls leave of a connection, and what they answer; shown is what a connection shows of its store

module _ {X : Type 0} (shown : Held X → State) (old new : Held X) where
  -- The making of a broker's tables, whose office's token has this digest.
  pub record TablesMade (office : Text) (given : Result (Unit {0}) OpenFault) : Type 0 where
    -- on a database without tables: a new broker's database
    pub made : OnOk given (MakesNew office (shown old) (shown new))
    -- or a failure: there are no tables, and after Store a crash may leave the new broker's
    pub refuses : IfErr given (RefusesNew office (shown old) (shown new))
    -- Store: on a connection as it is opened and a database without tables, the store failed, or COMMIT was refused
    -- since memory ran out; no statement that makes a table or an index is refused
    pub failure : OnlyIfStoreFailed shown IsBlank (opening office) old new (given ≡ Err Store)
    -- NotEmpty: there is a table, an index or a view
    pub not_empty : (given ≡ Err NotEmpty) ↔ (¬ ((shown old).now.schema ≡ no_schema))
    -- and the connection is as it was
    pub same : given ≡ Err NotEmpty → new ≡ old
    -- of any database: if no tables are made, it is as it was, or after Store the last commit is the old one
    pub unchanged : HasCleanDisk (shown new) → IfErr given (IsUnchangedUnlessStore (shown old) (shown new))
    -- for any answer, no transaction is left open
    pub over : LeavesNoTransaction (shown old) (shown new)
    -- on a disk that fails, and when the program is stopped in the call: a crash leaves one more database at most
    pub survives : CommitsAtMostOnce (shown old) (shown new)

  -- The look for a broker's tables.
  pub record TablesFound (given : Result (Unit {0}) OpenFault) : Type 0 where
    -- unless it failed: the database is of today's format and declares exactly what a broker does, no view and no
    -- trigger beside it; or the fault says what it is instead
    pub judges : HasCleanDisk (shown new) → OpensOrRefuses (shown old).now given
    -- Store: on a connection as it is opened, the store failed, or meta has no number as its format
    pub failure : OnlyIfSilent (shown old) (shown new) (given ≡ Err Store)
    -- of a database without tables: NotABroker, or a failure
    pub blank : HasCleanDisk (shown new) → HoldsDurably IsBlank (shown old) → Judged format None given
    -- of one that is marked with another format: which that is, or a failure
    pub marked : HasCleanDisk (shown new) → (n : ℕ) (office : List ℕ) → n ≢ format
        → HoldsDurably (IsMarked n office) (shown old) → Judged format (Some n) given
    -- of one that is marked with today's and declares what a broker does: it is one, or a failure
    pub today : HasCleanDisk (shown new) → (office : List ℕ)
        → HoldsDurably (IsMarkedToday office) (shown old) → Judged format (Some format) given
    -- the database is as it was
    pub kept : HasCleanDisk (shown new) → OnOk given (IsAsBefore (shown old) (shown new))
    -- if none are found, it is as it was too, or after Store the last commit is the old one
    pub unchanged : HasCleanDisk (shown new) → IfErr given (IsUnchangedUnlessStore (shown old) (shown new))
    -- for any answer, no transaction is left open
    pub over : LeavesNoTransaction (shown old) (shown new)
    -- on a disk that fails, and when the program is stopped in the call: what a crash leaves, it left before
    pub survives : Survives (shown old) (shown new) (λ _. ⊥)
