-- how a transaction ends
use Rattle.std.specs.Prelude.{◌≡◌, ◌⊎◌, Bool, false, IsTrue, IsOk, Result, Ok, Err, OnOk, IfErr, is_ok}
use Rattle.sqlite.specs.Tree.{Trees}
use Rattle.sqlite.specs.Effect.{Database}
use Rattle.sqlite.specs.Held.{Held}
use Rattle.sqlite.specs.State.{State, HasCleanDisk, Survives, Commits, IsLive}
use Rattle.table_access.specs.declared.StoreFault.{StoreFault}
use Rattle.table_access.specs.declared.StoreFault.TheVariants as faults
use Rattle.table_access.specs.Calls.{KeepsLastCommit}
use Rattle.table_access.specs.Durability.{HoldsDurably, HoldsEither}
use Rattle.table_access.specs.Unit.{IsOver, ReportsRollback, RefusesCommit}
use Rattle.broker_database.specs.declared.ending.Failure.{Failure}
use Rattle.broker_database.specs.declared.ending.Failure.TheVariants.{Call, Commit}

-- It is committed if something is to be kept, and else rolled back; or the database refused that.
pub record Finishes (old new : State) (keeps : Bool) (ended : Result (Unit {0}) StoreFault) : Type 0 where
  pub committed : HasCleanDisk new → IsTrue keeps → OnOk ended (Commits old new)
  -- else nothing is committed, and no transaction is open any more
  pub over : HasCleanDisk new → (keeps ≡ false) ⊎ (is_ok ended ≡ false) → KeepsLastCommit old new × IsOver new
  -- if nothing is to be kept: why the database refused ROLLBACK, which leaves what a done one leaves
  pub returned : HasCleanDisk new → keeps ≡ false → ReportsRollback old new ended
  -- a refused commit is a failure of the database
  pub unsure : IsTrue keeps → IfErr ended (λ fault. fault ≡ faults.Store)
  -- what is committed is a database
  pub live : IsTrue keeps → IsLive old
  -- what a crash leaves while the connection is open was committed last
  pub settled : (trees : Trees) → IsTrue new.is_open → new.may_leave trees → trees ≡ new.committed.trees
  -- a crash leaves what it left before, or what was to be committed
  pub survives : Survives old new (λ trees. IsTrue keeps × (trees ≡ old.now.trees))

-- the fault that is reported if the end was refused: that of the end, but Store if the work had failed by Store
abbrev pub worst : {A : Type 0} → Result A StoreFault → StoreFault → StoreFault
worst (Err faults.Store) refusal = faults.Store
worst _ refusal = refusal

-- the result of the work, or the fault of the end
abbrev pub conclusion : {A : Type 0} → Result A StoreFault → Result (Unit {0}) StoreFault → Result A StoreFault
conclusion worked (Ok done) = worked
conclusion worked (Err refusal) = Err (worst worked refusal)

-- ---- its failure, as it is reported

-- the fault that is reported: a refused COMMIT is Store, for any fault that it was refused by
abbrev pub fault_of : Failure → StoreFault
fault_of (Call fault) = fault
fault_of (Commit fault) = faults.Store

abbrev pub returned : {A : Type 0} → Result A Failure → Result A StoreFault
returned (Ok a) = Ok a
returned (Err failure) = Err (fault_of failure)

-- the result of a work, its fault as that of a call
abbrev pub called : {A : Type 0} → Result A StoreFault → Result A Failure
called (Ok a) = Ok a
called (Err fault) = Err (Call fault)

-- What it isn't done for: something was to be kept, and COMMIT was refused, by this fault; or a call failed, and then
-- nothing was to be kept, or the work had failed. Shown is what a connection shows.
abbrev pub EndsFor : {X A : Type 0} → (Held X → State) → Bool → Result A StoreFault → Held X → Held X → Failure → Type 0
EndsFor shown keeps worked old new (Call fault) = IsTrue keeps → ¬ (IsOk worked)
EndsFor shown keeps worked old new (Commit fault) = IsTrue keeps × RefusesCommit shown old new fault

-- ---- the transaction of a work

-- How a transaction ends whose work had the result worked: it is committed if something is to be kept, else rolled
-- back, and the answer is the result of the work, or the fault of a refused end.
pub record Concludes {A : Type 0} (old new : State) (keeps : Bool) (worked result : Result A StoreFault) : Type 0 where
  pub ended : Result (Unit {0}) StoreFault
  pub ends : Finishes old new keeps ended
  pub answer : result ≡ conclusion worked ended

-- For private clauses: what a transaction leaves of a connection that held a database of the kind P: what its answer
-- says; or, without memory, the same; or the database failed, and a crash may leave one of P or of Q.
abbrev pub EndsOrFails : {A : Type 0} → (Database → Type 0) → (Database → Type 0) → (A → Type 0)
    → State → Result A StoreFault → Type 0
EndsOrFails P Q Answers new (Ok a) = Answers a
EndsOrFails P Q Answers new (Err faults.Memory) = HoldsDurably P new
EndsOrFails P Q Answers new (Err faults.Store) = HoldsEither P Q new
