-- what a call on the database of a file that failed leaves of it
use Rattle.std.proofs.Common.{◌≡◌, ◌≤◌, refl, sym, subst, arith}
use Rattle.sqlite_disk.specs.declared.Disk.{Ghosts}
use Rattle.sqlite_trees.specs.View.{doubt}
use Rattle.sqlite.specs.{Files.{file_state}, FileStore.{view}, Held.{Held}, Recovery.{Image}, State.{HasCleanDisk}, View.{IsClean}}
use Rattle.sqlite.specs.declared.FileStore.{FileStore}
use Rattle.broker_database.specs.declared.opening.OpenFault.{OpenFault}
use Rattle.broker_program.specs.Files.{GivesUpAs, LeavesCut, LeavesStore, OpensOn, StartsFrom}
use Rattle.broker_program.specs.FileRefusals.{EndsUnclosed, FailsThere, GivesUpUnopened, IsNotClosed, IsOfDatabase, OpensNone}
use Rattle.broker_program.specs.{declared.run_end.CutService.{CutService}, declared.run_end.FileAfter.{FileAfter}}
use Rattle.broker_program.specs.declared.run_end.FileAfter.TheVariants.{Cut, GivenUp}
use Rattle.program_io.specs.{Reported.{IsFromOutside}, declared.fault.RunFault.{RunFault}}
use Rattle.program_io.specs.declared.fault.RunFault.TheVariants as run_fault

module _ {D : Type 0} {g : Ghosts D} where
  LeavesStore-weaker : (P Q : FileStore D g → Type 0) (rest : FileAfter D g) → ((store : FileStore D g) → P store → Q store) → LeavesStore P rest → LeavesStore Q rest
  LeavesStore-weaker P Q (GivenUp store) f p = f store p
  LeavesStore-weaker P Q _ f p = absurd p

  pub IsOfDatabase-of_failure : (held : Image) (Fails : Held (FileStore D g) → Held (FileStore D g) → OpenFault → Type 0) (old new : Held (FileStore D g)) (fault : OpenFault) (returned : RunFault) (rest : FileAfter D g)
      → OpensOn held old → doubt (file_state old).is_clean ≤ doubt (file_state new).is_clean → Fails old new fault
      → returned ≡ run_fault.Open fault → LeavesStore (GivesUpAs new) rest → IsOfDatabase held Fails returned rest
  IsOfDatabase-of_failure held Fails old new fault returned rest opens later fails is gives =
      let there : LeavesStore (λ (store : FileStore D g). IsClean (view store) → FailsThere held Fails fault store) rest =
      LeavesStore-weaker (GivesUpAs new) (λ store. IsClean (view store) → FailsThere held Fails fault store) rest (λ store given clean.
      let kept = given.ends clean in
      let early : HasCleanDisk (file_state old) = omega (arith, kept.0, later) in
      record { connection = old; end = new; starts = opens early; fails = fails; clean = kept.0; left = kept.1 }) gives in
      subst (λ (f : RunFault). IsOfDatabase held Fails f rest) (sym is) there

  -- no broker was opened
  pub IsOfDatabase-opens_none : (held : Image) (old : Held (FileStore D g)) (fault : OpenFault) (store : FileStore D g) → OpensOn held old → GivesUpUnopened old fault store
      → IsOfDatabase held OpensNone (run_fault.Open fault) (GivenUp store)
  IsOfDatabase-opens_none held old fault store opens it = IsOfDatabase-of_failure held OpensNone old it.0 fault (run_fault.Open fault) (GivenUp store) opens it.1.tables.survives.clean it.1 refl it.2

  -- what was done in the database of a file that couldn't be closed
  pub EndsUnclosed-of_not_closed : (held : Image) (Does : Held (FileStore D g) → Held (FileStore D g) → Type 0) (end : Held (FileStore D g)) (fault : RunFault) (store : FileStore D g)
      → (HasCleanDisk (file_state end) → (conn : Held (FileStore D g)) × StartsFrom held conn × Does conn end) → IsFromOutside fault → IsNotClosed end fault store → EndsUnclosed held Does fault (GivenUp store)
  EndsUnclosed-of_not_closed held Does end fault store there outside it = (
    outside,
    λ clean.
        let early : HasCleanDisk (file_state end) = omega (arith, clean, it.closed.quiet.clean) in
        let from = there early in
        record {
          connection = from.0;
          end = end;
          starts = from.1;
          does = from.2;
          clean = early;
          closed = it.closed;
          error = it.error;
          returned = it.returned;
          cause = it.cause clean;
        },
  )

  -- a service that was cut, of which more is known
  pub LeavesCut-weaker : (P Q : CutService D g → Type 0) (rest : FileAfter D g) → ((service : CutService D g) → P service → Q service) → LeavesCut P rest → LeavesCut Q rest
  LeavesCut-weaker P Q (Cut service) f p = f service p
  LeavesCut-weaker P Q _ f p = absurd p
