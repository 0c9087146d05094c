-- how a broker's database of format 1 becomes one of today's, and what was said of a version before
use Rattle.std.specs.Prelude.{◌≡◌, ◌≢◌, ◌⊎◌, ◌↔◌, ℕ, List, [], ◌∷◌, Bool, false, if◌then◌else◌, IsTrue, IsFalse, IsSome, IsSomeAnd, Option, Some, None, option_map, MatchOption, Result, Ok, Err, IfOk, codes, filter, length, not}
use Rattle.std.specs.List.{AllByRecursion}
use Rattle.sqlite.specs.Effect.{Database}
use Rattle.sqlite.specs.Schema.{Schema}
use Rattle.sqlite.specs.Held.{Held}
use Rattle.sqlite.specs.State.{State, HasCleanDisk}
use Rattle.table_access.specs.declared.StoreFault.{StoreFault}
use Rattle.table_access.specs.declared.StoreFault.TheVariants as faults
use Rattle.table_access.specs.Durability.{HoldsDurably}
use Rattle.broker_core.specs.declared.answer.Answer.TheVariants.{Shown}
use Rattle.broker_core.specs.declared.answer.Shown.TheVariants.{Gate}
use Rattle.broker_core.specs.declared.command.Command.TheVariants.{CanIDeploy}
use Rattle.broker_core.specs.declared.command.Marks.{Marks}
use Rattle.broker_core.specs.declared.command.Version.{Version}
use Rattle.broker_core.specs.declared.need.Kind.{Kind}
use Rattle.broker_core.specs.declared.need.Kind.TheVariants.{Absent, Missing, Failed}
use Rattle.broker_core.specs.declared.need.Latest.{Latest}
use Rattle.broker_core.specs.declared.need.Need.{Need}
use Rattle.broker_core.specs.declared.need.PairFault.{PairFault}
use Rattle.broker_core.specs.Change.{Transition, unchanged_with}
use Rattle.broker_core.specs.Contents.{HasSoundContents}
use Rattle.broker_core.specs.Faults.{fault_cmp}
use Rattle.broker_core.specs.Gate.{IsNeed, IsPermitted, IsFault}
use Rattle.broker_core.specs.Listing.{Lists}
use Rattle.broker_core.specs.Machine.{TakesEffect}
use Rattle.broker_core.specs.State.{State as Broker, is_gated}
use Rattle.broker_core.specs.Text.{Text, same_text}
use Rattle.broker_tables.specs.Holds.{Holds}
use Rattle.broker_tables.specs.Format1.{HoldsFormat1, IsUnmarked, format_1, format_1_tables}
use Rattle.broker_tables.specs.Schema.{broker_schema, schema_of}
use Rattle.broker_tables.specs.Readable.{IsReadable}
use Rattle.broker_tables.specs.ChangeRefusals.{AreShort}
use Rattle.broker_tables.specs.Room.{HasRoomFor, LeaveNumbers, counted_tables}
use Rattle.broker_tables.specs.Rows.{rows_of}
use Rattle.registry_tables.specs.Format.{IsOfFormat, IsForeign, HasFormat1Tables, FailsToFind}
use Rattle.command_facts.specs.Primitives.{broker_primitives}
use Rattle.broker_database.specs.Ends.{AddsNoCrashState, CommitsAtMostOnce, IsUnchangedUnless, LeavesNoTransaction}
use Rattle.broker_database.specs.Opening.{IsFresh, ReportsNothing, OnlyIfStoreFailed}
use Rattle.broker_database.specs.Stored.{Stores, HoldsState}
use Rattle.broker_database.specs.Transaction.{EndsOrFails}
use Rattle.broker_database.specs.declared.opening.OpenFault.{OpenFault}
use Rattle.broker_database.specs.declared.opening.OpenFault.TheVariants.{NotEmpty, NotABroker, Format, Memory, Store}

-- the tables are of format 1 and hold the state, and each stored pact can be read again
pub record StoresFormat1 (db : Database) (s : Broker) : Type 0 where
  pub tables : HoldsFormat1 db s
  pub contents : HasSoundContents broker_primitives s

-- the connection holds the state durably, in format 1
abbrev pub HoldsFormat1State : Broker → State → Type 0
HoldsFormat1State s = HoldsDurably (λ db. StoresFormat1 db s)

-- ---- the gate of format 1, which knew no evidence and no strict environment

-- the provider version is there and its latest result is a pass
abbrev pub WasGood : Need → Type 0
WasGood need = IsSome need.provider_version × IsSomeAnd need.latest (λ latest. IsTrue latest.pass)

-- every need was good, or e wasn't gated
abbrev pub WasPermitted : Broker → Version → Text → Type 0
WasPermitted s v e = ((need : Need) → IsNeed s v e need → WasGood need) ⊎ IsFalse (is_gated s e)

-- no provider version; no result; the latest result fails
abbrev pub format_1_kind : Option Text → Option Latest → Option Kind
format_1_kind None latest = Some Absent
format_1_kind (Some w) None = Some Missing
format_1_kind (Some w) (Some latest) = if latest.pass then None else Some Failed

-- the fault of a need that wasn't good
abbrev pub format_1_fault : Need → Option PairFault
format_1_fault need = option_map (λ kind. record {
  consumer = need.consumer;
  consumer_version = need.consumer_version;
  provider = need.provider;
  provider_version = need.provider_version;
  kind = kind;
}) (format_1_kind need.provider_version need.latest)

abbrev pub WasFault : Broker → Version → Text → PairFault → Type 0
WasFault s v e fault = (need : Need) × IsNeed s v e need × (format_1_fault need ≡ Some fault)

-- what the gate said of v in e
pub record WasJudged (s : Broker) (v : Version) (e : Text) (permitted : Bool) (faults : List PairFault) : Type 0 where
  pub verdict : IsTrue permitted ↔ WasPermitted s v e
  pub faults_are : Lists fault_cmp (WasFault s v e) faults

-- an environment's marks, if it has the one mark of format 1
abbrev pub format_1_marks : Bool → Marks
format_1_marks gated = record { gated = gated; strict = false }

-- what can-i-deploy showed of v in e, which is there
abbrev pub Showed : Broker → Version → Text → Transition → Type 0
Showed s v e out =
    (gated : Bool) × (option_map (λ (marks : Marks). marks.gated) (s.environments e) ≡ Some gated)
    × ((permitted : Bool) × (faults : List PairFault) × WasJudged s v e permitted faults
    × (out ≡ unchanged_with s (Shown (Gate e (format_1_marks gated) permitted faults))))

-- Every result is claimed and no environment is strict; what each version is permitted in each environment, its faults
-- and what can-i-deploy shows, of which its body is the text, are what they were in format 1.
pub record JudgesAsBefore (s : Broker) : Type 0 where
  pub unmarked : IsUnmarked s
  pub permits : (v : Version) (e : Text) → IsPermitted s v e ↔ WasPermitted s v e
  pub faults : (v : Version) (e : Text) (fault : PairFault) → IsFault s v e fault ↔ WasFault s v e fault
  pub shows : (v : Version) (e : Text) (out : Transition)
      → TakesEffect broker_primitives s (CanIDeploy v e) out ↔ Showed s v e out

-- ---- the numbers of rows

-- the tables of format 1 to whose rows SQLite gives numbers: today's, but for the one that a migration adds
abbrev pub format_1_counted : List (List ℕ)
format_1_counted = filter (λ name. not (same_text name (codes "strict_environments"))) counted_tables

-- each of them has numbers for so many rows more
abbrev pub HasFormat1RoomFor : ℕ → Database → Type 0
HasFormat1RoomFor n db = AllByRecursion (λ name. LeaveNumbers n (rows_of db name)) format_1_counted

-- no number is taken: for as many rows more as each of them had numbers each of today's tables has
abbrev pub TakesNoFormat1Room : Database → Database → Type 0
TakesNoFormat1Room old new = (n : ℕ) → HasFormat1RoomFor n old → HasRoomFor n new

-- and so it is durably
abbrev pub KeepsFormat1Room : State → State → Type 0
KeepsFormat1Room old new = (n : ℕ) → HasFormat1RoomFor n old.now → HoldsDurably (HasRoomFor n) new

-- for private clauses: a database of format 1 becomes one of today's with the same state, and no row number is taken
abbrev pub Migrates : Database → Database → Type 0
Migrates old new = (s : Broker) → HoldsFormat1 old s → Holds new s × TakesNoFormat1Room old new

-- The tables of format 1 are there, each with its columns and keys, wherever it is and however it is declared beside
-- these; and nothing else is: no other table, no index but those of keys, no view and no trigger.
abbrev pub HasFormat1Alone : Schema → Type 0
HasFormat1Alone schema = HasFormat1Tables schema × (length schema.tables ≡ length format_1_tables)
    × (length schema.indexes ≡ length (schema_of format_1_tables).indexes) × (schema.views ≡ [])

-- of format 1, with its tables and nothing else: what is migrated
abbrev pub IsFormat1 : Database → Type 0
IsFormat1 db = IsOfFormat format_1 db × HasFormat1Alone db.schema

-- For private clauses: what is found in a database that is to be migrated: a format, and if that is 1, its tables and
-- nothing else; or neither.
abbrev pub FindsFormat1Alone : Database → Option ℕ → Type 0
FindsFormat1Alone db found = MatchOption found
    (IsForeign db ⊎ (IsOfFormat format_1 db × (¬ (HasFormat1Alone db.schema))))
    (λ n. IsOfFormat n db × (n ≡ format_1 → HasFormat1Alone db.schema))

-- The state can be read back, so that its names are names, and the digest of its office's token has ten million bytes at
-- most; that of any token has 64.
abbrev pub CanBeStoredAgain : Broker → Type 0
CanBeStoredAgain s = IsReadable s × AreShort (s.office ∷ [])

-- On a connection as it is opened that holds such a state in format 1, this is answered only if the store failed, or if
-- today's database was made, whole, and COMMIT was refused since memory ran out.
abbrev pub OnlyIfNotMigrated : {X : Type 0} → (Held X → State) → Held X → Held X → Type 0 → Type 0
OnlyIfNotMigrated shown old new Answered =
    (s : Broker) → CanBeStoredAgain s → OnlyIfStoreFailed shown (λ db. StoresFormat1 db s) s old new Answered

-- for private clauses: the database is of format 1 and holds such a state
abbrev pub CanBeMigrated : Database → Type 0
CanBeMigrated db = (s : Broker) × HoldsFormat1 db s × CanBeStoredAgain s

-- For private clauses: no format is found, or the tables of format 1 are there, and nothing else.
abbrev pub FailsToUpgrade : State → State → StoreFault → Type 0
FailsToUpgrade old new fault = FailsToFind old new fault ⊎ IsFormat1 old.now

-- What is answered about a database that is to be migrated, unless the call fails: it is of format 1, with its tables
-- and nothing else; its format is another; or it is no broker's, or of format 1 by its meta, without its tables or with
-- more.
abbrev pub MigratesOrRefuses : Database → Result (Unit {0}) OpenFault → Type 0
MigratesOrRefuses db (Ok u) = IsFormat1 db
MigratesOrRefuses db (Err NotABroker) = IsForeign db ⊎ (IsOfFormat format_1 db × (¬ (HasFormat1Alone db.schema)))
MigratesOrRefuses db (Err (Format n)) = IsOfFormat n db × (n ≢ format_1)
MigratesOrRefuses db (Err NotEmpty) = ⊥
MigratesOrRefuses db (Err Memory) = Unit {0}
MigratesOrRefuses db (Err Store) = Unit {0}

-- it declares exactly what a new broker does
abbrev pub DeclaresToday : Database → Type 0
DeclaresToday db = db.schema ≡ broker_schema

-- ---- for private clauses: the transaction of a migration

-- What its transaction leaves: the format that was found is 1, and the database is today's; or it failed.
abbrev pub MigratesOrFails : Broker → State → State → Result (Option ℕ) StoreFault → Type 0
MigratesOrFails s old new =
    EndsOrFails (λ db. StoresFormat1 db s) (λ db. Stores db s)
    (λ found. (found ≡ Some format_1) × HoldsState s new × KeepsFormat1Room old new) new

-- and what that is on any database; shown is what a connection shows
pub record MigratesOrNot {X : Type 0} (shown : Held X → State) (old new : Held X)
    (result : Result (Option ℕ) StoreFault) : Type 0 where
  pub found : HasCleanDisk (shown new)
      → IfOk result (λ found. IsTrue (shown old).is_open × FindsFormat1Alone (shown old).now found)
  pub ends : HasCleanDisk (shown new) → (s : Broker) → HoldsFormat1State s (shown old)
      → MigratesOrFails s (shown old) (shown new) result
  pub today : HasCleanDisk (shown new)
      → IfOk result (λ found. found ≡ Some format_1 → HoldsDurably DeclaresToday (shown new))
  pub unchanged : HasCleanDisk (shown new)
      → IsUnchangedUnless (λ found. found ≡ Some format_1) (shown old) (shown new) result
  pub over : LeavesNoTransaction (shown old) (shown new)
  pub survives : CommitsAtMostOnce (shown old) (shown new)
  pub spares : HasCleanDisk (shown new) → ¬ (IsFormat1 (shown old).now) → AddsNoCrashState (shown old) (shown new)
  pub failure : HasCleanDisk (shown new) → IsFresh (shown old) → result ≡ Err faults.Store
      → ReportsNothing (shown old) (shown new) ⊎ IsFormat1 (shown old).now
  pub failure_format_1 : OnlyIfNotMigrated shown old new (result ≡ Err faults.Store)
