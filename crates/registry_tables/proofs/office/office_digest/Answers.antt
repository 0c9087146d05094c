use Rattle.std.proofs.Common.{◌≡◌, Some, None, ◌∙◌, string_bytes}
use Rattle.broker_tables.proofs.QueryLemmas.{LooksUpBetween-read_Ok, LooksUpBetween-read_Err, LooksUpBetween-read_never}
use Rattle.broker_tables.proofs.TableQuery.{Shown-IsShown, Shown-now_same, FailsToTake-explained_text}
use Rattle.registry_tables.proofs.MetaRow.{office, IsShown-office, FirstReads-office, FailsToTake-no_office}
use Rattle.registry_tables.proofs.office.office_digest.Goals as goal

pub returns-in-Some-clause-reads : goal.returns-in-Some-clause-reads
returns-in-Some-clause-reads g c =
    LooksUpBetween-read_Ok _ _ (Some c.in-Some.digest) c.in-Some.digest _ _ (λ h s held.
    let is : Some (string_bytes c.in-Some.digest) ≡ Some s.office = h.2 ∙ IsShown-office _ h.0 s held (Shown-IsShown office _ _ held.broker h.0 h.1) in
    (cc, Shown-now_same office _ _ held.broker h.0 h.1)) (rw c.in-Some.is at c.in-Ok.ensures.leaves)

-- a state that is held has the row
pub returns-in-None-clause-reads : goal.returns-in-None-clause-reads
returns-in-None-clause-reads g c =
    LooksUpBetween-read_never _ _ None _ _ _ (λ s here h. let e = h.2 ∙ IsShown-office _ h.0 s here.held (Shown-IsShown office _ _ here.held.broker h.0 h.1) in cc) (rw c.in-None.is at c.in-Ok.ensures.leaves)

pub returns-in-Err-clause-reads : goal.returns-in-Err-clause-reads
returns-in-Err-clause-reads g c = LooksUpBetween-read_Err _ _ c.in-Err.fault _ _ _ (FailsToTake-explained_text office _ _ (FirstReads-office _)) c.in-Err.ensures.leaves c.in-Err.ensures.cause

pub returns-in-Err-clause-memory : goal.returns-in-Err-clause-memory
returns-in-Err-clause-memory g c broker none clean inside is =
    FailsToTake-no_office _ _ c.in-Err.fault broker none (c.in-Err.ensures.cause clean) inside cc
