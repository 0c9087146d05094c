-- The files of a broker from the first byte to the last: what is found in them after a program has opened them any
-- number of times, made a broker or migrated one, served and ended, or was stopped anywhere on the way (this project's
-- own).
use Rattle.std.specs.Prelude.{◌≡◌, ◌⊎◌, ◌++◌, Bool, true, false, List, [], ◌∷◌, map, IsTrue, Result, codes}
use Rattle.sqlite_disk.specs.declared.Disk.{Ghosts}
use Rattle.sqlite_disk.specs.declared.Files.{Files}
use Rattle.sqlite.specs.Closing.{IsCopied}
use Rattle.sqlite.specs.Tree.{Trees}
use Rattle.sqlite.specs.Recovery.{Image}
use Rattle.sqlite.specs.declared.FileStore.{FileStore}
use Rattle.sqlite.specs.declared.file.Leftover.{Leftover}
use Rattle.sqlite.specs.declared.file.Leftover.TheVariants as left
use Rattle.sqlite_store.specs.FileStore.{state as store_state, view, recovers}
use Rattle.sqlite_store.specs.Unopened.{state_of}
use Rattle.sqlite.specs.WalFiles.{outcomes}
use Rattle.sqlite.specs.Held.{Held, AreDatabases}
use Rattle.sqlite.specs.Start.{FindsIn}
use Rattle.sqlite.specs.State.{State, HasCleanDisk}
use Rattle.sqlite.specs.Files.{HoldsDatabase, Finds, IsOpened, IsEmpty, IsNothing, LeavesFiles, file_state, image_of}
use Rattle.table_access.specs.Durability.{IsOnDisk}
use Rattle.broker_core.specs.Text.{Text}
use Rattle.broker_core.specs.State.{State as Broker, opening}
use Rattle.broker_core.specs.Machine.{Request, Run}
use Rattle.broker_core.specs.Laws.{Exit, IsSession, LeavesAll, Session, Sessions, sessions_of, ComeAgain, all_answered}
use Rattle.broker_core.specs.Sessions.{RunsDone}
use Rattle.broker_core.specs.declared.answer.Answer.{Answer}
use Rattle.broker_tables.specs.Holds.{AreLatest}
use Rattle.broker_tables.specs.Making.{IsBlank}
use Rattle.broker_tables.specs.Rows.{rows_of}
use Rattle.command_facts.specs.Primitives.{broker_primitives}
use Rattle.broker_database.specs.BrokerView.{BrokerView}
use Rattle.broker_database.specs.Calls.{Created, Opened, Migrated}
use Rattle.broker_database.specs.Migration.{StoresFormat1}
use Rattle.broker_database.specs.Sessions.{IsOpenedOn, GivenRuns}
use Rattle.broker_database.specs.Stored.{Stores, HoldsState}
use Rattle.broker_database.specs.declared.opening.Refused.{Refused}
use Rattle.broker_database.specs.declared.opening.OpenFault.{OpenFault}

-- ---- what is kept, and what changes it

-- what files keep: no tables; a broker's state in format 1; a broker's state in today's
pub data Kept : Type 0 where
  Blank : Kept
  OfFormat1 : Broker → Kept
  OfToday : Broker → Kept

-- what a program does from the opening of the files to their end
pub data Period : Type 0 where
  -- it opens the broker, which runs these commands
  Serving : List (Request × Exit) → Period
  -- it makes a broker, whose office has a token with this digest and which runs these commands
  Making : Text → List (Request × Exit) → Period
  -- it makes today's database of one of format 1
  Migrating : Period
  -- it can't open the files, or is stopped before they are open
  NotOpened : Period

-- the commands that are run in it
abbrev pub calls_of : Period → List (Request × Exit)
calls_of (Serving calls) = calls
calls_of (Making office calls) = calls
calls_of _ = []

-- These commands were run from this state, one after another. One that was answered by a step took it, one that was
-- answered by no step didn't; and one that was cut, after which none is a step, took its step or didn't.
abbrev pub RunsFrom : Broker → List (Request × Exit) → Kept → Type 0
RunsFrom s calls new = (t : Broker) × IsSession calls × LeavesAll broker_primitives s calls t × (new ≡ OfToday t)

-- nothing is run, and what was kept is
abbrev pub LeavesAsWas : Kept → List (Request × Exit) → Kept → Type 0
LeavesAsWas old calls new = (calls ≡ []) × (new ≡ old)

-- what is kept after a period: a broker's commands are run, if there is one; on files without tables a broker is
-- made, or not; one of format 1 is migrated, or not; and nothing else runs or changes anything
abbrev pub PeriodLeads : Kept → Period → Kept → Type 0
PeriodLeads (OfToday s) (Serving calls) new = RunsFrom s calls new
PeriodLeads Blank (Making office calls) new = LeavesAsWas Blank calls new ⊎ RunsFrom (opening office) calls new
PeriodLeads (OfFormat1 s) Migrating new = (new ≡ OfFormat1 s) ⊎ (new ≡ OfToday s)
PeriodLeads old period new = LeavesAsWas old (calls_of period) new

-- one period after another
abbrev pub LifeLeads : Kept → List Period → Kept → Type 0
LifeLeads old [] new = new ≡ old
LifeLeads old (period ∷ life) new = (mid : Kept) × PeriodLeads old period mid × LifeLeads mid life new

-- the state from which the commands of a life are run: the one that was kept, or that of a broker which was made
abbrev pub BeginsFrom : Kept → List Period → Broker → Type 0
BeginsFrom (OfToday s) life first = first ≡ s
BeginsFrom (OfFormat1 s) life first = first ≡ s
BeginsFrom Blank life first =
    (before : List Period) × (office : Text) × (calls : List (Request × Exit)) × (after : List Period)
    × (life ≡ before ++ Making office calls ∷ after) × (first ≡ opening office)

abbrev pub sessions_in : List Period → List Session
sessions_in life = sessions_of (map calls_of life)

-- The commands of a life have led to this state of a broker.
pub record HasRun (old : Kept) (life : List Period) (last : Broker) : Type 0 where
  pub first : Broker
  pub begins : BeginsFrom old life first
  -- it is one of the states after the sessions of the periods
  pub sessions : Sessions broker_primitives first (sessions_in life) last
  -- so it is that of a run over what is done of them: of each a prefix, which has every command answered by a step
  pub done : RunsDone broker_primitives first (sessions_in life) last
  -- if each cut command comes first in the next session and is answered by a step there, it is that of a run over
  -- all commands, each once
  pub again : ComeAgain (sessions_in life)
      → (answers : List Answer) × Run broker_primitives first (all_answered (sessions_in life)) answers last

abbrev pub LivesRun : Type 0
LivesRun = (old : Kept) (life : List Period) (last : Broker) → LifeLeads old life (OfToday last) → HasRun old life last

-- ---- the calls of a period

-- these trees keep it
abbrev pub AreTreesOf : Kept → Trees → Type 0
AreTreesOf Blank = IsOnDisk IsBlank
AreTreesOf (OfFormat1 s) = IsOnDisk (λ db. StoresFormat1 db s)
AreTreesOf (OfToday s) = IsOnDisk (λ db. Stores db s)

-- the latest results that are kept are right: for each content and each version of its provider the result with the
-- greatest number
abbrev pub KeepsLatest : Type 0
KeepsLatest =
    (s : Broker) (trees : Trees) → AreTreesOf (OfToday s) trees
    → IsOnDisk (λ db. AreLatest s (rows_of db (codes "latest"))) trees

-- shown is what a connection shows of its store
module _ {X : Type 0} (shown : Held X → State) where
  -- from the connection that was opened to what is left of it
  abbrev pub PeriodRuns : Period → Held X → Held X → Type 0
  PeriodRuns (Serving calls) old new =
      (given : Result (BrokerView X) (Refused X)) × Opened shown old given × GivenRuns shown given calls new
  PeriodRuns (Making office calls) old new =
      (given : Result (BrokerView X) (Refused X)) × Created shown old office given × GivenRuns shown given calls new
  PeriodRuns Migrating old new = (given : Result (Unit {0}) OpenFault) × Migrated shown old new given
  PeriodRuns NotOpened old new = ⊥

  -- Over any store: all that a crash may leave of that connection keeps what the period leads to.
  abbrev pub PeriodsLead : Type 0
  PeriodsLead =
      (old : Kept) (period : Period) (first last : Held X) (trees end : Trees)
      → AreTreesOf old trees → IsOpenedOn trees (shown first) → PeriodRuns period first last
      → HasCleanDisk (shown last) → (shown last).may_leave end
      → (new : Kept) × PeriodLeads old period new × AreTreesOf new end

-- ---- the files

-- The two files hold trees that keep it. If there are no tables, there may be nothing yet: the database file is
-- empty, or has what an opening that was stopped wrote of a first page.
abbrev pub IsKeptIn : Kept → Image → Type 0
IsKeptIn kept image =
    ∥ (((trees : Trees) × HoldsDatabase image trees × AreTreesOf kept trees) ⊎ ((kept ≡ Blank) × IsNothing image)) ∥₁

-- the database that was there is still there; if there was nothing, there is nothing, or a database without tables
pub record HoldsAsBefore (old new : Image) : Type 0 where
  pub same : (trees : Trees) → HoldsDatabase old trees → ∥ HoldsDatabase new trees ∥₁
  pub none : IsNothing old → ∥ (IsNothing new ⊎ ((trees : Trees) × HoldsDatabase new trees × IsEmpty trees)) ∥₁

module _ {D : Type 0} (g : Ghosts D) where
  -- what a crash may leave: of files; of files whose opening failed; of a store
  abbrev pub MayLeave : Leftover D g → Image → Type 0
  MayLeave (left.Files files) = outcomes g files.log files.db
  MayLeave (left.Unopened it) = (state_of it).may_leave
  MayLeave (left.Store store) = (store_state store).may_leave

  -- Files that are opened after this was left. They read as a crash may have left them, and a crash may leave of them
  -- only what it might have left before: so it is after a program's end, whether it was stopped or the machine was.
  pub record AreAfter (rest : Leftover D g) (files : Files D) : Type 0 where
    pub seen : MayLeave rest (image_of g files)
    pub left : (image : Image) → outcomes g files.log files.db image → MayLeave rest image

  -- a connection is opened on such files
  abbrev pub IsOpenedAfter : Leftover D g → Held (FileStore D g) → Type 0
  IsOpenedAfter rest conn = (files : Files D) × AreAfter rest files × IsOpened conn × Finds files conn

  -- the store of a connection that is over, as the connection gave it back
  pub record IsGivenBack (conn : Held (FileStore D g)) (store : FileStore D g) : Type 0 where
    pub numbered : IsTrue (view store).is_numbered
    pub sound : AreDatabases (recovers store)
    pub outcomes : (trees : Trees) → recovers store trees → (file_state conn).may_leave trees

  -- A connection is over: its files were closed, or it gave its store back, as after a stop or a failure.
  abbrev pub EndsAs : Held (FileStore D g) → Leftover D g → Type 0
  EndsAs conn (left.Files files) = IsCopied conn files
  EndsAs conn (left.Unopened it) = ⊥
  EndsAs conn (left.Store store) = IsGivenBack conn store

  -- The files weren't opened: a crash leaves what it might have left before, or what holds the same.
  abbrev pub LeavesUnopened : Files D → Leftover D g → Type 0
  LeavesUnopened files rest =
      (image : Image) → MayLeave rest image
      → outcomes g files.log files.db image ⊎ HoldsAsBefore (image_of g files) image

  -- a connection that was opened on files with trees that keep a broker's state holds it
  abbrev pub OpenedFilesHold : Type 0
  OpenedFilesHold =
      (s : Broker) (files : Files D) (trees : Trees) (conn : Held (FileStore D g))
      → ∥ HoldsDatabase (image_of g files) trees ∥₁ → AreTreesOf (OfToday s) trees
      → IsOpened conn → Finds files conn → HoldsState s (file_state conn)

  -- What an opening that failed promises of the files (`unharmed` of the kit's `open_files`) doesn't say this: that the
  -- size of a page that it took is the database's, sums included; that the trees of a store that it hands back are
  -- numbered.
  abbrev pub IsUnharmed : Image → Leftover D g → Type 0
  IsUnharmed first (left.Files files) = Unit {0}
  IsUnharmed first (left.Unopened it) =
      (trees : Trees) (held : HoldsDatabase first trees) → held.0 ≡ (state_of it).page_size
  IsUnharmed first (left.Store store) = IsTrue (view store).is_numbered

  -- With it, an opening that failed leaves what a life asks of it.
  abbrev pub OpeningSpares : Type 0
  OpeningSpares =
      (files : Files D) (rest : Leftover D g) → LeavesFiles files rest → IsUnharmed (image_of g files) rest
      → LeavesUnopened files rest

-- ---- the law over programs

-- Programs that use the two files, one after another. Each has a disk of its own: what the files held as it was opened,
-- and what was answered since. So one that was killed and the next one need not agree on anything but what the files
-- held in between.
pub record Programs : Type 1 where
  pub Program : Type 0
  pub File : Program → Type 0
  pub disk : (p : Program) → Ghosts (File p)

module _ (all : Programs) where
  -- A connection of this program was opened on files that held this, ran the period to its end, over a disk that was
  -- clean up to there, and a crash may leave this of what it left.
  pub record RunsOver (p : all.Program) (found : Image) (period : Period) (end : Image) : Type 0 where
    -- a crash may leave what a file holds, as of each `Disk`
    pub stays : (file : all.File p) → (all.disk p).may_leave file ((all.disk p).seen file)
    pub first : Held (FileStore (all.File p) (all.disk p))
    pub last : Held (FileStore (all.File p) (all.disk p))
    pub rest : Leftover (all.File p) (all.disk p)
    pub opened : IsOpened first
    pub finds : FindsIn found (file_state first)
    pub runs : PeriodRuns file_state period first last
    pub clean : HasCleanDisk (file_state last)
    pub ends : EndsAs (all.disk p) last rest
    pub may : MayLeave (all.disk p) rest end

  -- What a period may leave of files that held this: what one of the programs does. Of files that weren't opened: what
  -- they held, or what holds the same.
  abbrev pub PeriodLeaves : Image → Period → Image → Type 0
  PeriodLeaves found NotOpened end = (end ≡ found) ⊎ HoldsAsBefore found end
  PeriodLeaves found period end = (p : all.Program) × RunsOver p found period end

  -- one period after another, each of files that hold what a crash may leave of the one before it
  abbrev pub LifeLeaves : Image → List Period → Image → Type 0
  LifeLeaves found [] end = end ≡ found
  LifeLeaves found (period ∷ life) end = (mid : Image) × PeriodLeaves found period mid × LifeLeaves mid life end

  -- What is left keeps what the periods lead to.
  abbrev pub ProgramsLead : Type 0
  ProgramsLead =
      (old : Kept) (found end : Image) (life : List Period) → IsKeptIn old found → LifeLeaves found life end
      → ∥ ((new : Kept) × LifeLeads old life new × IsKeptIn new end) ∥₁

-- two of them: one that was killed, say, and the next one
abbrev pub either_file : Type 0 → Type 0 → Bool → Type 0
either_file D E true = D
either_file D E false = E

abbrev pub either_disk : {D E : Type 0} → Ghosts D → Ghosts E → (first : Bool) → Ghosts (either_file D E first)
either_disk g h true = g
either_disk g h false = h

abbrev pub two : {D E : Type 0} → Ghosts D → Ghosts E → Programs
two {D} {E} g h = record { Program = Bool; File = either_file D E; disk = either_disk g h }
