-- What is left of a broker's file whose tables were audited.
use Rattle.std.proofs.Common.{Option, Result, arith}
use Rattle.sqlite.specs.{Files.{file_state}, Held.{Held}, Recovery.{Image}, State.{HasCleanDisk}, declared.FileStore.{FileStore}}
use Rattle.sqlite_disk.specs.declared.Disk.{Ghosts}
use Rattle.table_access.specs.declared.StoreFault.{StoreFault}
use Rattle.table_audit.specs.{Audit.{Audited}, declared.auditing.Finding.{Finding}}
use Rattle.broker_database.specs.BrokerView.{BrokerView}
use Rattle.broker_program.{specs.{Audits.{IsAuditedTo}, Files.{GivesUpAs, OpensBroker}}, proofs.UnchangedLemmas.{IsAsBefore-trans}}

-- it was opened, its tables were audited, and it was given up
pub IsAuditedTo-given_up : {D : Type 0} {g : Ghosts D} (held : Image) (broker : BrokerView (FileStore D g)) (end : Held (FileStore D g)) (given : Result (Option Finding) StoreFault) (store : FileStore D g)
    → OpensBroker held broker → Audited file_state broker.connection end given → GivesUpAs end store → IsAuditedTo held given store
IsAuditedTo-given_up held broker end given store from audited leaves clean =
    let left = leaves.ends clean in
    let early : HasCleanDisk (file_state broker.connection) = omega (arith, left.0, audited.survives.clean) in
    let first : HasCleanDisk (file_state from.0) = omega (arith, early, from.2.tables.survives.clean) in
    record {
      connection = from.0;
      broker = broker;
      end = end;
      starts = from.1 first;
      opened = from.2;
      audited = audited;
      unchanged = IsAsBefore-trans _ _ _ (from.2.tables.kept early) (audited.unchanged left.0);
      clean = left.0;
      left = left.1;
    }
