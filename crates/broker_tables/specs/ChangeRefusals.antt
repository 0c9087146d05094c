-- Why a change fails that may be asked for.
use Rattle.std.specs.Prelude.{◌≡◌, ◌≤◌, ◌^◌, ℕ, List, length, IsTrue, None, Result, IfErr}
use Rattle.std.specs.List.{AllByRecursion}
use Rattle.sqlite.specs.Effect.{Database}
use Rattle.sqlite.specs.Held.{Held, state}
use Rattle.sqlite.specs.State.{State, HasCleanDisk}
use Rattle.sqlite_trees.specs.declared.store.Store.{Ghosts}
use Rattle.table_access.specs.declared.StoreFault.{StoreFault}
use Rattle.table_access.specs.Calls.{EndsBy}
use Rattle.broker_core.specs.State.{State as Broker}
use Rattle.broker_core.specs.Text.{Text}
use Rattle.broker_tables.specs.Rows.{rows_of}
use Rattle.broker_tables.specs.Holds.{Holds}
use Rattle.broker_tables.specs.Room.{LeaveNumbers, HasRoomFor}

-- the transaction is open and shows this state, and no statement has a limit of steps
pub record HoldsOpen (c : State) (s : Broker) : Type 0 where
  pub inside : IsTrue c.in_transaction
  pub unlimited : c.step_limit ≡ None
  pub held : Holds c.now s

-- each of the tables with these names has a number for one more row
abbrev pub HaveNumbers : List (List ℕ) → Database → Type 0
HaveNumbers tables db = AllByRecursion (λ name. LeaveNumbers 1 (rows_of db name)) tables

-- If such a state is shown, which allows the change, and these tables have a number for its rows, only the store
-- failed, or a row was too big for it: TooBig is what is so then.
abbrev pub FailsByStoreUnlessBetween : {A : Type 0} → State → State → Result A StoreFault → List (List ℕ) → Type 0
    → (Broker → Type 0) → Type 0
FailsByStoreUnlessBetween old new r tables TooBig Allows = HasCleanDisk new → (s : Broker) → HoldsOpen old s → Allows s
    → HaveNumbers tables old.now → IfErr r (EndsBy TooBig old new)

-- each of these texts has ten million bytes at most, so that a row with a few of them can be stored
abbrev pub AreShort : List Text → Type 0
AreShort = AllByRecursion (λ text. length text ≤ 10 ^ 7)

-- of a change that stores these texts: the store failed, or one of them is longer
abbrev pub FailsByStoreStoringBetween : {A : Type 0} → State → State → Result A StoreFault → List (List ℕ) → List Text
    → (Broker → Type 0) → Type 0
FailsByStoreStoringBetween old new r tables texts Allows = FailsByStoreUnlessBetween old new r tables (¬ AreShort texts) Allows

-- of several changes, which take so many numbers of a table at most
abbrev pub FailsByStoreTakingBetween : {A : Type 0} → ℕ → State → State → Result A StoreFault → Type 0
    → (Broker → Type 0) → Type 0
FailsByStoreTakingBetween taken old new r TooBig Allows = HasCleanDisk new → (s : Broker) → HoldsOpen old s → Allows s
    → HasRoomFor taken old.now → IfErr r (EndsBy TooBig old new)

-- the same of a connection over this store; a change is allowed if it leads to another state
module _ {X : Type 0} (store : Ghosts X) (old new : Held X) where
  abbrev pub FailsByStoreStoring : {A : Type 0} → Result A StoreFault → List (List ℕ) → List Text → (Broker → Type 0) → Type 0
  FailsByStoreStoring r tables texts Allows =
      FailsByStoreStoringBetween (state store old) (state store new) r tables texts Allows

  abbrev pub FailsByStoreChange : {A : Type 0} → Result A StoreFault → List (List ℕ) → List Text
      → (Broker → Broker → Type 0) → Type 0
  FailsByStoreChange r tables texts Next = FailsByStoreStoring r tables texts (λ s. (t : Broker) × Next s t)

  abbrev pub FailsByStoreTaking : {A : Type 0} → ℕ → Result A StoreFault → List Text → (Broker → Type 0) → Type 0
  FailsByStoreTaking taken r texts Allows =
      FailsByStoreTakingBetween taken (state store old) (state store new) r (¬ AreShort texts) Allows
