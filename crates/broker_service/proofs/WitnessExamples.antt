-- What a wrong body leaves: a clause that ends in an existential excludes it, for each witness.
use Rattle.std.{specs.Prelude.{IsTrue}, proofs.Common.{◌≡◌, ◌≢◌, inl, inr, Option, Result, Err, true, false, sym, ◌∙◌}}
use Rattle.sqlite.specs.{Held.{Held}, State.{State, HasCleanDisk, HasCause}}
use Rattle.sqlite_trees.specs.declared.error.StoreError.TheVariants.{Io}
use Rattle.table_access.specs.Calls.{HasFailed}
use Rattle.broker_core.specs.{SoundNames.{AreNames}, State.{State as Broker}, Text.{Text}, declared.answer.Answer.{Answer}, declared.command.Command.{Command}}
use Rattle.broker_tables.specs.Room.{HasRoomFor, enough}
use Rattle.broker_database.specs.{Causes.{HoldsReadable}, declared.ending.Failure.{Failure}, declared.ending.Failure.TheVariants.{Call}}
use Rattle.broker_database.proofs.StoreFailures.{HasFailed-disk_at_fault}
use Rattle.broker_service.specs.Transacted.{Transacted}
use Rattle.table_access.specs.declared.StoreFault.TheVariants as faults

-- no call on the disk failed in between
abbrev DiskWorks : State → State → Type 0
DiskWorks old new = ¬ (HasCause old new ⊥ Io)

-- a store that was open, over a disk that works, hasn't failed by Store
HasFailed-not_if_disk_works : (old new : State) → IsTrue old.is_open → DiskWorks old new → ¬ (HasFailed old new faults.Store)
HasFailed-not_if_disk_works old new was_open works failed = elim (HasFailed-disk_at_fault old new failed) [
  | inl more ↦ works more
  | inr shut ↦ let clash : true ≡ false = sym was_open ∙ shut in absurd cc
]

-- `done_command_given_up`: over a disk that works, and tables that have numbers for its rows, no command is given up by
-- Store
module _ {X : Type 0} (shown : Held X → State) (token : Option Text) (command : Command) (old new : Held X) (result : Result Answer Failure) where
  pub Transacted-no_done_given_up : Transacted shown token command old new result → HasCleanDisk (shown new) → AreNames command
      → (s : Broker) → HoldsReadable s (shown old) → IsTrue (shown old).is_open → DiskWorks (shown old) (shown new) → HasRoomFor enough (shown old).now
      → result ≢ Err (Call faults.Store)
  Transacted-no_done_given_up it clean names s holds was_open works room is = elim (it.failure clean names s holds is) [
    | inl failed ↦ HasFailed-not_if_disk_works (shown old) (shown new) was_open works failed
    | inr inside ↦ HasFailed-not_if_disk_works (shown old) (shown new) was_open works (inside.1 room)
  ]
