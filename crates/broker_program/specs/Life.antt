-- what a file keeps once a command over it has ended, in the words of the life of a broker's files (this project's own)
use Rattle.std.specs.Prelude.{List, [], ◌∷◌, ◌++◌, IsTrue, Option, None, Some, Result}
use Rattle.std.proofs.Common.{inl, inr}
use Rattle.sqlite_disk.specs.declared.Disk.{Ghosts}
use Rattle.sqlite_disk.specs.declared.Files.{Files}
use Rattle.sqlite.specs.FileStore.{state as store_state, view}
use Rattle.sqlite.specs.Files.{IsCleanLeft, image_of}
use Rattle.sqlite.specs.Held.{Held}
use Rattle.sqlite.specs.Recovery.{Image}
use Rattle.sqlite.specs.View.{IsClean}
use Rattle.sqlite.specs.WalFiles.{outcomes}
use Rattle.sqlite.specs.WalReads.{AreClean}
use Rattle.sqlite.specs.declared.FileStore.{FileStore}
use Rattle.sqlite.specs.declared.file.Leftover.{Leftover}
use Rattle.table_access.specs.declared.StoreFault.{StoreFault}
use Rattle.table_audit.specs.declared.auditing.Finding.{Finding}
use Rattle.broker_core.specs.Text.{Text}
use Rattle.broker_core.specs.declared.answer.Answer.{Answer}
use Rattle.broker_core.specs.declared.command.Command.{Command}
use Rattle.command_facts.specs.Primitives.{broker_primitives}
use Rattle.broker_database.specs.Life.{Kept, Period, IsUnharmed, LifeLeads, IsKeptIn, MayLeave}
use Rattle.broker_database.specs.Life.Period.{Making, Migrating, NotOpened, Serving}
use Rattle.broker_database.specs.Sessions.{exit_of}
use Rattle.broker_database.specs.declared.opening.OpenFault.{OpenFault}
use Rattle.program_io.specs.Entrance.{Visit}
use Rattle.program_io.specs.declared.fault.RunFault.{RunFault}
use Rattle.broker_program.specs.Audits.{TablesAudited}
use Rattle.broker_program.specs.Cuts.{FindsNoBroker, IsNotReopened, StaysShut, StaysUnclosed}
use Rattle.broker_program.specs.Files.{EndsClean}
use Rattle.broker_program.specs.Making.{MakesBroker, MigratesFile}
use Rattle.broker_program.specs.Serving.{ServesOver, ServesTo, Work}
use Rattle.broker_program.specs.Returned.{BrokerAnswers}
use Rattle.broker_program.specs.declared.seed.NoSeed.{NoSeed}

-- the periods in which this was done, from the first to the last: the last is given first
abbrev pub periods_of : List Work → List Period
periods_of [] = []
periods_of (work ∷ works) = periods_of works ++ (Serving work.calls ∷ [])

module _ {D : Type 0} (g : Ghosts D) where
  -- all that a crash may leave keeps something to which these periods lead from what the files held
  abbrev pub KeepsAfter : Image → List Period → (Image → Type 0) → Type 0
  KeepsAfter held life may_leave =
      (old : Kept) → IsKeptIn old held → (image : Image) → may_leave image
      → ∥ ((new : Kept) × LifeLeads old life new × IsKeptIn new image) ∥₁

  -- of the files that `init` closed
  abbrev pub MakingLeads : Type 0
  MakingLeads =
      (held : Image) (office : Text) (files : Files D) → MakesBroker g held office files
      → KeepsAfter held (Making (broker_primitives.digest_of office) [] ∷ []) (outcomes g files.log files.db)

  -- of those that `migrate` closed
  abbrev pub MigratingLeads : Type 0
  MigratingLeads =
      (held : Image) (files : Files D) → MigratesFile g held files
      → KeepsAfter held (Migrating ∷ []) (outcomes g files.log files.db)

  -- of those that `can-i-deploy` gave up
  abbrev pub AskingLeads : Type 0
  AskingLeads =
      (held : Image) (token : Text) (command : Command) (answer : Answer) (store : FileStore D g)
      → BrokerAnswers held token command answer store
      → KeepsAfter held (Serving ((record { token = Some token; command = command }, exit_of answer) ∷ []) ∷ [])
      (store_state store).may_leave

  -- of those whose tables `audit` read, and that it gave up: a period without commands
  abbrev pub AuditingLeads : Type 0
  AuditingLeads =
      (held : Image) (given : Result (Option Finding) StoreFault) (store : FileStore D g)
      → TablesAudited held given store → KeepsAfter held (Serving [] ∷ []) (store_state store).may_leave

  -- a period for each opening, of the commands that its broker ran for its peers
  abbrev pub periods_over : {held : Image} {visits : List Visit} {Ends : Held (FileStore D g) → Type 0}
      → ServesTo g held visits Ends → List Period
  periods_over it = periods_of (it.last ∷ it.before)

  -- of those that `serve` closed or gave up, or of which a sync failed
  abbrev pub ServingLeads : Type 0
  ServingLeads =
      (held : Image) (visits : List Visit) (rest : Leftover D g) (it : ServesOver g held visits rest)
      → EndsClean rest → KeepsAfter held (periods_over it) (MayLeave g rest)

  -- ---- of those of a `serve` that failed once it served

  -- Of those in which no broker was found as they were opened again: that opening is a period without commands.
  abbrev pub FindingNoneLeads : Type 0
  FindingNoneLeads =
      (held : Image) (visits : List Visit) (fault : OpenFault) (store : FileStore D g)
      (it : FindsNoBroker held visits fault store) → IsClean (view store)
      → KeepsAfter held (periods_of it.works ++ (Serving [] ∷ [])) (store_state store).may_leave

  -- What the clauses of files that aren't opened again don't say: that the disk is clean, the trees of a store that
  -- broke are numbered, and files whose opening was refused are unharmed.
  abbrev pub IsUnharmedShut : (store : FileStore D g) (fault : RunFault) (rest : Leftover D g) (seed : Option NoSeed)
      → StaysShut store fault rest seed → Type 0
  IsUnharmedShut store fault rest (Some seed) shut = Unit {0}
  IsUnharmedShut store fault rest None (last, quiet, files, same, inl broke) =
      AreClean g files.log files.db × IsTrue (view last).is_numbered
  IsUnharmedShut store fault rest None (last, quiet, files, same, inr refused) =
      AreClean g files.log files.db × IsCleanLeft rest × IsUnharmed g (image_of g files) rest

  -- of those that weren't opened again once the last broker was stopped: it is as if the next opening had failed
  abbrev pub ShutLeads : Type 0
  ShutLeads =
      (held : Image) (visits : List Visit) (fault : RunFault) (rest : Leftover D g) (seed : Option NoSeed)
      (it : IsNotReopened held visits fault rest seed) → IsClean (view it.store)
      → IsUnharmedShut it.store fault rest seed it.shut
      → KeepsAfter held (periods_over it.served.0 ++ (NotOpened ∷ [])) (MayLeave g rest)

  -- of those that couldn't be closed, if the disk is clean and the trees of the store are numbered
  abbrev pub UnclosedLeads : Type 0
  UnclosedLeads =
      (held : Image) (visits : List Visit) (fault : RunFault) (store : FileStore D g)
      (it : StaysUnclosed held visits fault store) → IsClean (view store) → IsTrue (view store).is_numbered
      → KeepsAfter held (periods_over it) (store_state store).may_leave
