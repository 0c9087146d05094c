use Rattle.std.proofs.{Common.{inl, inr, Ok, subst}, lemmas.Result.{IfErr-weaker, IfOk-weaker, on_err_weaker}}
use Rattle.sqlite.specs.WalFiles.{image_at}
use Rattle.broker_program.specs.Audits.{LeavesAudited}
use Rattle.broker_program.proofs.audit.audit.Goals as goal

pub returns-in-Ok-clause-ok : goal.returns-in-Ok-clause-ok
returns-in-Ok-clause-ok g c =
    IfOk-weaker c.print_finding.result _ _ (λ passes reports. (c.in-Ok.found, rw c.in-Ok.is at c.findings_in-found.ensures.ok, reports.0, reports.1)) c.print_finding.ensures.ok

pub returns-in-Ok-clause-err : goal.returns-in-Ok-clause-err
returns-in-Ok-clause-err g c =
    on_err_weaker c.print_finding.result (λ fails. elim fails [
      | inl same ↦ inl same
      | inr begun ↦ inr (begun.0, subst (λ found. LeavesAudited (image_at g.S.Start) c.findings_in-found.result.1 (Ok found)) begun.1 (rw c.in-Ok.is at c.findings_in-found.ensures.ok), begun.2)
    ]) c.print_finding.ensures.err

pub returns-in-Ok-clause-cause : goal.returns-in-Ok-clause-cause
returns-in-Ok-clause-cause g c =
    IfErr-weaker c.print_finding.result _ _
    (λ fault is. inr (is.0, subst (λ found. LeavesAudited (image_at g.S.Start) c.findings_in-found.result.1 (Ok found)) is.1 (rw c.in-Ok.is at c.findings_in-found.ensures.ok), is.2))
    c.print_finding.ensures.cause
