-- What files keep that were closed, and what is left of them if they can't be opened.
use Rattle.std.proofs.{Common.{◌≡◌, ◌⊎◌, ◌∙◌, inl, inr, false, Some, Result, Ok, Err, IfOk, IfErr, ap, arith}, Math.Logic.{∥∥₁_elim, ∥∥₁_map}}
use Rattle.sqlite_disk.specs.{declared.Disk.{Ghosts}, declared.Files.{Files}}
use Rattle.sqlite.specs.{Closing.{IsCopied, HoldsAlone}, Files.{HoldsDatabase, Finds, IsCleanLeft, IsNothing, IsOpened, LeavesFiles, file_state, image_of}}
use Rattle.sqlite.specs.{Held.{Held}, Recovery.{Image}, Effect.{Database}, State.{State, HasCleanDisk}, Tree.{Trees}, WalReads.{AreClean}}
use Rattle.sqlite.{specs.{declared.FileStore.{FileStore}, declared.file.Leftover.{Leftover}}, proofs.Callers.{finds_again}}
use Rattle.table_access.specs.Durability.{HoldsDurably}
use Rattle.broker_core.specs.State.{State as Broker}
use Rattle.broker_tables.specs.Holds.{format}
use Rattle.broker_database.specs.{BrokerView.{BrokerView}, Calls.{Opened}, Life.{AreTreesOf, IsKeptIn, HoldsAsBefore, OpenedFilesHold, OpeningSpares}}
use Rattle.broker_database.specs.{Life.Kept.{Blank, OfToday}, Opening.{IsMarkedToday, Judged}, Stored.{Stores, HoldsState}, declared.opening.Refused.{Refused}}
use Rattle.broker_database.specs.declared.opening.OpenFault.{OpenFault}
use Rattle.worked_examples.specs.Reopening.{KeepState, KeepsOverCrash, KeepsAsFiles, AreClosed, IsLeftOf, IsOpenedOver, IsOpenedAgain, IsOfDatabase, LosesNothing}
use Rattle.worked_examples.specs.declared.reopening.NotReopened.{NotReopened}

-- a database that holds a state has the mark of today's format, and declares what a broker does
today : (s : Broker) (c : State) → HoldsState s c → HoldsDurably (IsMarkedToday s.office) c
today s c holds =
    let has = λ (db : Database) (it : Stores db s). let r : IsMarkedToday s.office db = (record { tables = _; indexes = _; schema = it.tables.broker.schema; row = it.tables.meta }, it.tables.broker.schema) in r in
    record {
      held = λ now. let it = holds.held now in record { autocommit = it.autocommit; same = it.same; sound = it.sound; has = has c.committed it.has };
      left = λ t may. let d = holds.left t may in record { schema = d.schema; sound = d.sound; has = has _ d.has };
    }

-- so no broker is found in it only if the database Judged-only_database_fault
Judged-only_database_fault : (why : OpenFault) → Judged format (Some format) (Err why) → IsOfDatabase why
Judged-only_database_fault why (inl is) = absurd (cc)
Judged-only_database_fault why (inr (inl memory)) = inl (cc)
Judged-only_database_fault why (inr (inr store)) = inr (cc)

module _ {D : Type 0} (g : Ghosts D) where
  -- the trees that two files hold, or nothing
  abbrev Holds : Broker → Image → Type 0
  Holds s image = ((trees : Trees) × HoldsDatabase image trees × AreTreesOf (OfToday s) trees) ⊎ ((OfToday s ≡ Blank) × IsNothing image)

  KeepState-of_copied : (s : Broker) (old : BrokerView (FileStore D g)) (files : Files D) → OpenedFilesHold g → HoldsState s (file_state {D = D} {g = g} old.connection) → IsCopied old.connection files → KeepState g s files
  KeepState-of_copied s old files law held copied =
      let was = held.held copied.was_open in
      let trees = (file_state {D = D} {g = g} old.connection).committed.trees in
      let kept : AreTreesOf (OfToday s) trees = record { schema = (file_state {D = D} {g = g} old.connection).committed.schema; sound = was.sound; has = was.has } in
      let found = λ (image : Image) (alone : HoldsAlone image trees). ∥∥₁_map alone.both (λ holds. let r : Holds s image = inl (trees, holds, kept) in r) in
      record {
        seen = found (image_of g files) copied.seen;
        left = λ image may. found image (copied.left image may);
        found = λ conn opened finds. law s files trees conn copied.seen.both kept opened finds;
      }

  pub closed : (old : BrokerView (FileStore D g)) (files : Files D) → OpenedFilesHold g → IsCopied old.connection files → AreClosed old files
  closed old files law copied = record { copied = copied; keep = λ s held. KeepState-of_copied s old files law held copied }

  -- what holds the database that was there keeps the state that was there
  IsKeptIn-as_before : (s : Broker) (old new : Image) → IsKeptIn (OfToday s) old → HoldsAsBefore old new → IsKeptIn (OfToday s) new
  IsKeptIn-as_before s old new keeps same =
      ∥∥₁_elim keeps squash₁ (λ (it : Holds s old). elim it [
        | inl found ↦ ∥∥₁_map (same.same found.0 found.1) (λ holds. let r : Holds s new = inl (found.0, holds, found.2) in r)
        | inr blank ↦ absurd (let none : OfToday s ≡ Blank = blank.0 in cc)
      ])

  pub IsLeftOf-of_leftover : (s : Broker) (files : Files D) (left : Leftover D g) → OpeningSpares g → (AreClean g files.log files.db → KeepState g s files) → (IsCleanLeft left → LeavesFiles files left) → IsLeftOf s left
  IsLeftOf-of_leftover s files left law keep leaves = record {
    files = files;
    kept = keep;
    leaves = leaves;
    still = λ clean clean_left unharmed image may. elim (law files left (leaves clean_left) unharmed image may) [
      | inl old ↦ (keep clean).left image old
      | inr same ↦ IsKeptIn-as_before s (image_of g files) image (keep clean).seen same
    ];
  }

  module _ (files : Files D) (conn : Held (FileStore D g)) (found : HasCleanDisk (file_state {D = D} {g = g} conn) → IsOpened conn × Finds files conn) where
    pub over : (b : BrokerView (FileStore D g)) → Opened (file_state {D = D} {g = g}) conn (Ok b) → HasCleanDisk (file_state {D = D} {g = g} b.connection) → IsOpenedOver files b
    over b opened clean =
        let was : HasCleanDisk (file_state {D = D} {g = g} conn) = omega (arith, opened.tables.survives.clean, clean) in
        let it = found was in
        record { conn = conn; opened = it.0; finds = it.1; same = opened.tables.kept clean; holds = opened.holds clean }

    pub refused : (s : Broker) (r : Refused (FileStore D g)) → Opened (file_state {D = D} {g = g}) conn (Err r) → (AreClean g files.log files.db → KeepState g s files)
        → HasCleanDisk (file_state {D = D} {g = g} r.connection) → KeepsOverCrash s (file_state {D = D} {g = g} r.connection).may_leave × IsOfDatabase r.fault
    refused s r opened keep clean =
        let was : HasCleanDisk (file_state {D = D} {g = g} conn) = omega (arith, opened.tables.survives.clean, clean) in
        let it = found was in
        let held = (keep it.1.honest).found conn it.0 it.1 in (
          λ trees may. held.left trees (elim (opened.tables.survives.crash clean trees may) [ inl old ↦ old | inr none ↦ absurd none ]),
          Judged-only_database_fault r.fault (opened.tables.today clean s.office (today s (file_state {D = D} {g = g} conn) held)),
        )

  module _ (old : BrokerView (FileStore D g)) (files : Files D) (closed : AreClean g files.log files.db → AreClosed old files) where
    pub opened_again : (r : Result (BrokerView (FileStore D g)) (NotReopened D g)) → IfOk r (λ b. b.is_stopped ≡ false)
        → IfOk r (λ b. HasCleanDisk (file_state {D = D} {g = g} b.connection) → IsOpenedOver files b) → IfOk r (IsOpenedAgain old)
    opened_again (Ok b) runs over = record {
      runs = runs;
      holds = λ clean s held. let it = over clean in it.holds s (((closed it.finds.honest).keep s held).found it.conn it.opened it.finds);
      commit = λ clean is_open. let it = over clean in ap (λ db. db.trees) (it.same.commit.committed is_open) ∙ finds_again old.connection it.conn files (λ clean. (closed clean).copied) it.finds;
    }
    opened_again (Err lost) runs over = tt

    pub nothing_lost : (r : Result (BrokerView (FileStore D g)) (NotReopened D g)) → IfErr r (KeepsAsFiles files) → IfErr r (LosesNothing old)
    nothing_lost (Ok b) kept = tt
    nothing_lost (Err lost) kept = λ s held. kept s (λ clean. (closed clean).keep s held)
