-- A connection on the files of a store that was given up is one on files after it.
use Rattle.std.proofs.Common.{◌≡◌, ◌∙◌, false, inl, IsTrue, Some, refl, ap, subst, arith}
use Rattle.sqlite_disk.specs.{declared.Disk.{Ghosts}, declared.Files.{Files}}
use Rattle.sqlite_pool.proofs.StateLemmas.{clean_is, may_leave_is}
use Rattle.sqlite_trees.{specs.View.{View}, proofs.Doubt.{no_doubt}}
use Rattle.sqlite.specs.{FileStore.{files as store_files, state as store_state, view}, Files.{Finds, IsOpened, file_state, image_of}, Held.{Held, IsNew}}
use Rattle.sqlite.specs.{Recovery.{Image}, View.{IsClean}, WalFiles.{outcomes}, WalReads.{AreClean}, declared.FileStore.{FileStore}}
use Rattle.sqlite_store.specs.Calls.{IsQuietCall}
use Rattle.broker_database.specs.{BrokerView.{BrokerView}, Life.{IsOpenedAfter}, declared.opening.OpenFault.{OpenFault}}
use Rattle.broker_program.specs.{Files.{GivesUpAs}, FileRefusals.{GivesUpUnopened}, Serving.{OpensAfter, ReopensOn}}
use Rattle.broker_program.specs.Reopening.{EmptiesLog, FindsNoneAgain, IsStillGiven, OpensFilesAgain}
use Rattle.program_io.specs.declared.fault.RunFault.TheVariants as run_fault
use Rattle.sqlite.specs.declared.file.Leftover.TheVariants as left

-- a store on which nothing was called
pub IsQuietCall-refl : {D : Type 0} {g : Ghosts D} (store : FileStore D g) → IsQuietCall store store
IsQuietCall-refl store = record { shield = λ s. s; clean = omega arith; counts = omega arith; closes = λ _ still. inl still; outcomes = λ _ r. r }

pub IsOpenedAfter-emptied_log : {D : Type 0} (g : Ghosts D) (stays : (file : D) → g.may_leave file (g.seen file)) (old store : FileStore D g) (files : Files D) (conn : Held (FileStore D g))
    → EmptiesLog old (store, false) → (files.log, files.db) ≡ store_files store → IsOpened conn → Finds files conn → IsNew conn → (file_state conn).IsShielded
    → (now : FileStore D g) × IsStillGiven old now × IsOpenedAfter g (left.Store now) conn × IsNew conn × (file_state conn).IsShielded
IsOpenedAfter-emptied_log {D} g stays old store files conn empties same opened finds fresh shielded =
    let honest = subst (λ (p : D × D). AreClean g p.0 p.1) same finds.honest in
    let may : (image : Image) → outcomes g files.log files.db image → (store_state store).may_leave image = λ image it.
    may_leave_is store.pool image honest (subst (λ (p : D × D). outcomes g p.0 p.1 image) same it) in
    let clean : IsClean (view store) = no_doubt _ (clean_is store.pool ∙ honest) in (
      store,
      record { clean = clean; quiet = empties.quiet; same = empties.same refl clean },
      (files, record { seen = may (image_of g files) (stays files.log, stays files.db); left = may }, opened, finds),
      fresh,
      shielded,
    )

-- So a stopped broker's files are opened again.
pub OpensAfter-stopped : {D : Type 0} {g : Ghosts D} (stopped : BrokerView (FileStore D g)) (store now : FileStore D g) (conn : Held (FileStore D g)) → IsTrue stopped.is_stopped
    → GivesUpAs stopped.connection store → IsStillGiven store now → IsOpenedAfter g (left.Store now) conn → IsNew conn → (file_state conn).IsShielded → OpensAfter stopped conn
OpensAfter-stopped stopped store now conn stops gives still after fresh shielded =
    let early : IsClean (view store) = omega (arith, still.clean, still.quiet.clean) in
    let given = gives.ends early in
    record {
      store = now;
      stops = stops;
      clean = given.0;
      given = record {
        numbered = ap (λ (v : View). v.is_numbered) still.same ∙ given.1.numbered;
        sound = λ trees found. given.1.sound trees (still.quiet.outcomes trees found);
        outcomes = λ trees found. given.1.outcomes trees (still.quiet.outcomes trees found);
      };
      after = after;
      fresh = fresh;
      shielded = shielded;
    }

pub ReopensOn-stopped : {D : Type 0} {g : Ghosts D} (stopped : BrokerView (FileStore D g)) (store : FileStore D g) (conn : Held (FileStore D g)) → IsTrue stopped.is_stopped → GivesUpAs stopped.connection store
    → OpensFilesAgain store (Some conn) → ReopensOn stopped conn
ReopensOn-stopped stopped store conn stops gives again early = let it = again early in OpensAfter-stopped stopped store it.0 conn stops gives it.1 it.2 it.3 it.4

-- the connection that was opened again, if no broker is found
pub FindsNoneAgain-stopped : {D : Type 0} {g : Ghosts D} (stopped : BrokerView (FileStore D g)) (store : FileStore D g) (conn : Held (FileStore D g)) (fault : OpenFault) (rest : FileStore D g) → IsTrue stopped.is_stopped
    → GivesUpAs stopped.connection store → OpensFilesAgain store (Some conn) → GivesUpUnopened conn fault rest → FindsNoneAgain stopped (run_fault.Open fault) (left.Store rest)
FindsNoneAgain-stopped stopped store conn fault rest stops gives again none =
    (conn, none.0, ReopensOn-stopped stopped store conn stops gives again, none.1, none.2)
