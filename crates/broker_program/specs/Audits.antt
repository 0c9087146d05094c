-- what `audit` writes, and what it leaves of the file (this project's own choice)
use Rattle.std.specs.Prelude.{◌≡◌, ℕ, List, [], ◌++◌, Bool, Option, None, Some, Result, Ok, is_none}
use Rattle.std.specs.Io.KnownBytes.{Appends}
use Rattle.sqlite_disk.specs.declared.Disk.{Ghosts}
use Rattle.sqlite.specs.FileStore.{view}
use Rattle.sqlite.specs.Files.{file_state}
use Rattle.sqlite.specs.Held.{Held}
use Rattle.sqlite.specs.Recovery.{Image}
use Rattle.sqlite.specs.State.{HasCleanDisk}
use Rattle.sqlite.specs.View.{IsClean}
use Rattle.sqlite.specs.declared.FileStore.{FileStore}
use Rattle.table_access.specs.declared.StoreFault.{StoreFault}
use Rattle.table_access.specs.declared.StoreFault.TheVariants as store_fault
use Rattle.table_audit.specs.Audit.{Audited}
use Rattle.table_audit.specs.Line.{line_of}
use Rattle.table_audit.specs.declared.auditing.Finding.{Finding}
use Rattle.broker_database.specs.BrokerView.{BrokerView}
use Rattle.broker_database.specs.Calls.{Opened}
use Rattle.broker_database.specs.Ends.{IsAsBefore}
use Rattle.broker_database.specs.Life.{IsGivenBack}
use Rattle.broker_database.specs.declared.opening.OpenFault.TheVariants as opening
use Rattle.program_io.specs.Written.{IsBegun, newline}
use Rattle.program_io.specs.declared.fault.RunFault.{RunFault}
use Rattle.program_io.specs.declared.fault.RunFault.TheVariants as run_fault
use Rattle.broker_program.specs.Files.{LeavesStore, StartsFrom}
use Rattle.broker_program.specs.declared.run_end.FileAfter.{FileAfter}

-- nothing if the tables hold a state, and else the line of the row that breaks a rule
abbrev pub output_of : Option Finding → List ℕ
output_of None = []
output_of (Some finding) = line_of finding ++ newline

-- how a failure of the store is reported
abbrev pub audit_fault : StoreFault → RunFault
audit_fault store_fault.Memory = run_fault.Memory
audit_fault store_fault.Store = run_fault.Open opening.Store

-- Held is what the log and the database file held at first.
module _ {D : Type 0} {g : Ghosts D} (held : Image) where
  -- The tables of the broker there were audited, with this result, and the store is what is left of its file.
  pub record TablesAudited (given : Result (Option Finding) StoreFault) (store : FileStore D g) : Type 0 where
    pub connection : Held (FileStore D g)
    pub broker : BrokerView (FileStore D g)
    pub end : Held (FileStore D g)
    pub starts : StartsFrom held connection
    pub opened : Opened file_state connection (Ok broker)
    pub audited : Audited file_state broker.connection end given
    -- the database is as it was when it was opened
    pub unchanged : IsAsBefore (file_state connection) (file_state end)
    -- the file was given up as it was
    pub clean : HasCleanDisk (file_state end)
    pub left : IsGivenBack g end store

  -- the same, if the disk is clean to the end
  abbrev pub IsAuditedTo : Result (Option Finding) StoreFault → FileStore D g → Type 0
  IsAuditedTo given store = IsClean (view store) → TablesAudited given store

  module _ (rest : FileAfter D g) where
    abbrev pub LeavesAudited : Result (Option Finding) StoreFault → Type 0
    LeavesAudited given = LeavesStore (IsAuditedTo given) rest

    module _ (old new : Option (List ℕ)) where
      -- `passes` is true if the tables hold a state
      abbrev pub Audits : Bool → Type 0
      Audits passes = (found : Option Finding) × LeavesAudited (Ok found) × (passes ≡ is_none found)
          × Appends old new (output_of found)

      -- the line of what was found isn't wholly written
      abbrev pub AuditsUntil : Type 0
      AuditsUntil = (finding : Finding) × LeavesAudited (Ok (Some finding))
          × IsBegun (line_of finding ++ newline) old new
