use Rattle.std.proofs.Common.{inr, Ok, Err, subst}
use Rattle.sqlite.specs.{Files.{file_state}, WalFiles.{image_at}}
use Rattle.table_audit.specs.Audit.{Audited}
use Rattle.broker_program.proofs.AuditLemmas.{IsAuditedTo-given_up}
use Rattle.broker_program.proofs.audit.findings_in.Goals as goal

pub returns-in-Ok-found-clause-ok : goal.returns-in-Ok-found-clause-ok
returns-in-Ok-found-clause-ok g c =
    IsAuditedTo-given_up (image_at g.S.Start) c.in-Ok.broker c.audit-found.new.conn (Ok c.in-Ok-found.found) c.leave.result c.in-Ok.ensures.opened
    (subst (λ conn. Audited file_state conn c.audit-found.new.conn (Ok c.in-Ok-found.found)) c.connection_of-connection.ensures c.in-Ok-found.ensures) c.leave.ensures

pub returns-in-Err-found-clause-cause : goal.returns-in-Err-found-clause-cause
returns-in-Err-found-clause-cause g c = inr (
  c.in-Err-found.fault,
  IsAuditedTo-given_up (image_at g.S.Start) c.in-Ok.broker c.audit-found.new.conn (Err c.in-Err-found.fault) c.leave.result c.in-Ok.ensures.opened
      (subst (λ conn. Audited file_state conn c.audit-found.new.conn (Err c.in-Err-found.fault)) c.connection_of-connection.ensures c.in-Err-found.ensures) c.leave.ensures,
  c.reported.ensures,
)
