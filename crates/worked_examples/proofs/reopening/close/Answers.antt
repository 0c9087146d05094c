use Rattle.std.proofs.Common.{subst}
use Rattle.sqlite.specs.{Closing.{IsCopied}, FileStore.{recovers}, Held.{Held}, declared.FileStore.{FileStore}}
use Rattle.worked_examples.proofs.Reopened.{closed}
use Rattle.worked_examples.proofs.reopening.close.Goals as goal

pub returns-in-Ok-clause-closed : goal.returns-in-Ok-clause-closed
returns-in-Ok-clause-closed g c clean =
    closed g.D.Disk c.args.broker c.in-Ok.files c.kept_files.ensures.opened
    (subst (λ (h : Held (FileStore g.row.D.Denot g.D.Disk)). IsCopied h c.in-Ok.files) c.close.ensures (c.in-Ok.ensures.copied clean))

pub returns-in-Err-clause-kept : goal.returns-in-Err-clause-kept
returns-in-Err-clause-kept g c s held trees may =
    held.left trees (subst (λ (h : Held (FileStore g.row.D.Denot g.D.Disk)). recovers h.store trees) c.close.ensures (c.in-Err.ensures.err.0.quiet.outcomes trees may))
