-- Why a query fails: in a transaction that shows a state of the broker, only as the store fails.
use Rattle.std.specs.Prelude.{◌≡◌, ◌⊎◌, ℕ, Bool, true, false, IsTrue, Some, None, Result, IfOk, IfErr}
use Rattle.sqlite.specs.Held.{Held, state}
use Rattle.sqlite.specs.State.{State, HasCleanDisk}
use Rattle.sqlite_trees.specs.declared.store.Store.{Ghosts}
use Rattle.table_access.specs.declared.StoreFault.{StoreFault}
use Rattle.table_access.specs.declared.StoreFault.TheVariants.{Memory}
use Rattle.table_access.specs.Calls.{EndsBy, HasFailed}
use Rattle.broker_core.specs.declared.command.Version.{Version}
use Rattle.broker_core.specs.State.{State as Broker}
use Rattle.broker_tables.specs.Numbers.{number_of}
use Rattle.broker_tables.specs.Holds.{Holds, QueriesBetween}
use Rattle.broker_tables.specs.Readable.{IsReadable}
use Rattle.broker_tables.specs.Room.{HasRoomFor, enough}

-- the transaction is open and shows this state, which can be read back, and no query has a limit of steps
pub record ShowsState (c : State) (s : Broker) : Type 0 where
  pub inside : IsTrue c.in_transaction
  pub unlimited : c.step_limit ≡ None
  pub held : Holds c.now s
  pub readable : IsReadable s

-- if such a state is shown, the call fails only for this cause
abbrev pub FailsOnlyBy : {A : Type 0} → State → State → Result A StoreFault → (StoreFault → Type 0) → Type 0
FailsOnlyBy old new r Cause = HasCleanDisk new → (s : Broker) → ShowsState old s → IfErr r Cause

-- the store failed, which ended the transaction, or the fault is Memory, for any cause
abbrev pub HasFailedOrMemory : State → State → StoreFault → Type 0
HasFailedOrMemory old new fault = HasFailed old new fault ⊎ (fault ≡ Memory)

-- if such a state is shown, and allows the call, it fails only for that
abbrev pub FailsByStoreFromBetween : {A : Type 0} → State → State → Result A StoreFault → (Broker → Type 0) → Type 0
FailsByStoreFromBetween old new r Allows =
    HasCleanDisk new → (s : Broker) → ShowsState old s → Allows s → IfErr r (HasFailedOrMemory old new)

-- Or since a change of its own was refused, which it makes only from these states: if the tables have numbers for its
-- rows, the store failed, or a row was too big for it. TooBig is what is so then.
abbrev pub FailsFromBetween : {A : Type 0} → State → State → Result A StoreFault → Type 0 → (Broker → Type 0)
    → (Broker → Type 0) → Type 0
FailsFromBetween old new r TooBig Allows Changes = HasCleanDisk new → (s : Broker) → ShowsState old s → Allows s
    → IfErr r (λ fault. HasFailedOrMemory old new fault
    ⊎ (Changes s × (HasRoomFor enough old.now → EndsBy TooBig old new fault)))

-- if it has nothing to answer, it takes no room for that: only the store failed
abbrev pub TakesNoMemoryBetween : {A : Type 0} → State → State → Result A StoreFault → (Broker → Type 0) → Type 0
TakesNoMemoryBetween old new r Nothing =
    HasCleanDisk new → (s : Broker) → ShowsState old s → Nothing s → IfErr r (HasFailed old new)

-- as a query fails whose answer may take memory, or takes none
abbrev pub HasFailedTaking : Bool → State → State → StoreFault → Type 0
HasFailedTaking true = HasFailedOrMemory
HasFailedTaking false = HasFailed

-- a query; `takes` is true if its answer may take memory
pub record LooksUpBetween {A : Type 0} (takes : Bool) (old new : State) (r : Result A StoreFault)
    (P : A → Broker → Type 0) : Type 0 where
  -- what it answers, and that only the store is ever out of memory if the answer takes none
  pub call : QueriesBetween takes old new r P
  -- why it fails
  pub failure : FailsOnlyBy old new r (HasFailedTaking takes old new)

-- ---- of a version's number

-- if no version of the state that the database holds has this number, the answer says so
abbrev pub IfNoVersionBetween : {A : Type 0} → State → State → Result A StoreFault → ℕ → (A → Type 0) → Type 0
IfNoVersionBetween old new r number Nothing = HasCleanDisk new → (s : Broker) → Holds old.now s
    → ((v : Version) → ¬ (number_of s.versions v ≡ Some number)) → IfOk r Nothing

-- ---- the same of a connection over this store

module _ {X : Type 0} (store : Ghosts X) (old new : Held X) where
  -- a query for whose answer there may be no room
  abbrev pub LooksUp : {A : Type 0} → Result A StoreFault → (A → Broker → Type 0) → Type 0
  LooksUp r P = LooksUpBetween true (state store old) (state store new) r P

  -- a query whose answer takes no memory
  abbrev pub LooksUpInPlace : {A : Type 0} → Result A StoreFault → (A → Broker → Type 0) → Type 0
  LooksUpInPlace r P = LooksUpBetween false (state store old) (state store new) r P

  abbrev pub IfNoVersion : {A : Type 0} → Result A StoreFault → ℕ → (A → Type 0) → Type 0
  IfNoVersion r number Nothing = IfNoVersionBetween (state store old) (state store new) r number Nothing

  abbrev pub TakesNoMemoryIf : {A : Type 0} → Result A StoreFault → (Broker → Type 0) → Type 0
  TakesNoMemoryIf r Nothing = TakesNoMemoryBetween (state store old) (state store new) r Nothing

  -- why a call fails whose answer is stated otherwise, if there may be no room for it, or if it takes no memory
  abbrev pub FailsByStore : {A : Type 0} → Result A StoreFault → Type 0
  FailsByStore r = FailsOnlyBy (state store old) (state store new) r (HasFailedOrMemory (state store old) (state store new))

  abbrev pub FailsByStoreInPlace : {A : Type 0} → Result A StoreFault → Type 0
  FailsByStoreInPlace r = FailsOnlyBy (state store old) (state store new) r (HasFailed (state store old) (state store new))

  -- the same from states that allow the call
  abbrev pub FailsByStoreFrom : {A : Type 0} → Result A StoreFault → (Broker → Type 0) → Type 0
  FailsByStoreFrom r Allows = FailsByStoreFromBetween (state store old) (state store new) r Allows

  abbrev pub FailsFrom : {A : Type 0} → Result A StoreFault → Type 0 → (Broker → Type 0) → (Broker → Type 0) → Type 0
  FailsFrom r TooBig Allows Changes = FailsFromBetween (state store old) (state store new) r TooBig Allows Changes
