use Rattle.broker_program.proofs.ServingLemmas.{CutsQueue-first_file, CutsQueue-reopening_failed, ServesQueue-files_lost, ServesQueue-all}
use Rattle.broker_program.proofs.serve.serve_each.Goals as goal

pub returns-in-Ok-Some-clause-ok : goal.returns-in-Ok-Some-clause-ok
returns-in-Ok-Some-clause-ok g c = rw c.service_of.ensures.2 (ServesQueue-all _ _ _ _ _ _ c.in-Ok-Some.files c.in-Ok-Some.field-0-is c.in-Ok-Some.ensures.done c.in-Ok-Some.ensures.ok)

pub returns-in-Ok-clause-ok : goal.returns-in-Ok-clause-ok
returns-in-Ok-clause-ok g c = rw c.service_of-in-Ok.ensures.2 (ServesQueue-files_lost _ _ _ _ _ _ _ c.in-Ok-None.field-0-is c.in-Ok.ensures.done c.in-Ok-None.ensures.ok c.serve_reopened.ensures.served)

pub returns-in-Err-serve_reopened-clause-cut : goal.returns-in-Err-serve_reopened-clause-cut
returns-in-Err-serve_reopened-clause-cut g c =
    (c.cut_of.ensures.0, c.cut_of.ensures.1, rw c.cut_of.ensures.2 (rw c.cut_of.ensures.3 (CutsQueue-reopening_failed _ _ _ _ _ _ _ _ c.in-Ok-None.field-0-is c.in-Err-serve_reopened.ensures.cause c.in-Ok-None.ensures.ok c.serve_reopened.ensures.served)))

pub returns-in-Err-clause-cut : goal.returns-in-Err-clause-cut
returns-in-Err-clause-cut g c =
    (c.cut_of-in-Err.ensures.0, c.cut_of-in-Err.ensures.1, rw c.cut_of-in-Err.ensures.2 (rw c.cut_of-in-Err.ensures.3 (CutsQueue-first_file _ _ _ _ _ _ _ _ c.in-Err.ensures.cut)))
