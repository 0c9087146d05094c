use Rattle.std.proofs.Common.{◌≡◌, Bool, ℕ, List, [], ◌∷◌, ap₂, cond, true, false, inl, inr, subst, sym}
use Rattle.sqlite_disk.specs.{Events.{Event, replay, settled}, History.{MayLeave}}
use Rattle.sqlite.specs.{Files.{file_state, IsBlankAs}, Recovery.{Image}, Start.{FindsIn}}
use Rattle.broker_program.proofs.files.connect.Goals as goal

abbrev image : List ℕ → List ℕ → Image
image log db = record { log = log; db = db }

-- what a file shows after these events since it was taken, and what a crash leaves of it
abbrev seen : List ℕ → List ℕ → Bool → List Event → List ℕ
seen log db is_log history = (replay (cond is_log log db) history).seen

abbrev Leaves : List ℕ → List ℕ → Bool → List ℕ → Bool → List Event → Type 0
Leaves log db mixes bytes is_log history =
    let m = replay (cond is_log log db) history in MayLeave mixes m.seen m.synced m.steps bytes

only : (log db : List ℕ) (mixes : Bool) (bytes : List ℕ) (is_log b : Bool) (history : List Event) (key : ℕ) → is_log ≡ b → history ≡ settled key ∷ [] → Leaves log db mixes bytes is_log history → bytes ≡ cond b log db
only log db mixes bytes is_log b history key which events may =
    let left = subst (λ (p : Bool × List Event). Leaves log db mixes bytes p.0 p.1) (ap₂ (λ x y. (x, y)) which events) may in
    elim left [ inl same ↦ same | inr same ↦ same ]

pub returns-in-Ok-open_files_with-clause-ok : goal.returns-in-Ok-open_files_with-clause-ok
returns-in-Ok-open_files_with-clause-ok g c = rw c.set_clock.ensures λ clean.
    let (log, db) = c.in-Ok-take_files.ensures.fresh in
    let opened = c.in-Ok-open_files_with.ensures in
    let found = opened.found clean in
    let same = ap₂ image (ap₂ (seen g.S.Start.log g.S.Start.db) log.0 log.1) (ap₂ (seen g.S.Start.log g.S.Start.db) db.0 db.1) in
    record {
      opened = opened.opened clean;
      found = subst (λ i. FindsIn i (file_state c.in-Ok-open_files_with.connection)) same (record { holds = found.holds; reads = found.reads });
      sums = λ blank. opened.sums clean (subst (IsBlankAs true) (sym same) blank);
      fresh = opened.fresh;
      shielded = opened.guarded clean;
    }

pub returns-in-Err-open_files_with-clause-cause : goal.returns-in-Err-open_files_with-clause-cause
returns-in-Err-open_files_with-clause-cause g c =
    let (log, db) = c.in-Ok-take_files.ensures.fresh in
    let failed = c.in-Err-open_files_with.ensures in
    record {
      files = c.in-Ok-take_files.files;
      seen = ap₂ image (ap₂ (seen g.S.Start.log g.S.Start.db) log.0 log.1) (ap₂ (seen g.S.Start.log g.S.Start.db) db.0 db.1);
      settled = λ i out. ap₂ image (only g.S.Start.log g.S.Start.db g.S.Start.is_mixing i.log _ true _ _ log.0 log.1 out.0)
          (only g.S.Start.log g.S.Start.db g.S.Start.is_mixing i.db _ false _ _ db.0 db.1 out.1);
      error = c.in-Err-open_files_with.error;
      returned = c.returned_of.ensures.same;
      cause = λ clean. failed.cause clean;
      left = λ clean. failed.unharmed clean;
    }
