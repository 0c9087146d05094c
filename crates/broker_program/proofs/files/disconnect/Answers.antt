use Rattle.broker_program.proofs.files.disconnect.Goals as goal

pub returns-in-Ok-clause-ok : goal.returns-in-Ok-clause-ok
returns-in-Ok-clause-ok g c =
    let closed = c.in-Ok.ensures.ok in
    record {
      ends = λ clean. let copied = c.in-Ok.ensures.copied clean in (copied.was_clean, copied);
      shield = λ tested. (closed.0, closed.1, closed.2.quiet.shield tested);
    }
