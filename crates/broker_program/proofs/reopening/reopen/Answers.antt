use Rattle.std.proofs.Common.{inl, inr, refl, subst}
use Rattle.broker_program.{specs.Reopening.{OpensFilesAgain}, proofs.ReopeningLemmas.{FindsNoneAgain-stopped, ReopensOn-stopped}}
use Rattle.broker_program.proofs.reopening.reopen.Goals as goal

pub returns-in-Ok-broker_of-clause-again : goal.returns-in-Ok-broker_of-clause-again
returns-in-Ok-broker_of-clause-again g c =
    let conn = c.in-Ok-Some.connection in
    let again = subst (λ found. OpensFilesAgain c.release-store.result found) c.in-Ok-Some.field-0-is c.in-Ok-Some.ensures.ok in
    (conn, ReopensOn-stopped c.args.broker c.release-store.result conn c.requires c.release-store.ensures again, c.in-Ok-broker_of.ensures.opened)

pub returns-in-Err-broker_of-clause-shut : goal.returns-in-Err-broker_of-clause-shut
returns-in-Err-broker_of-clause-shut g c =
    inr (FindsNoneAgain-stopped c.args.broker c.release-store.result c.in-Ok-Some.connection _ _ c.requires c.release-store.ensures
    (subst (λ found. OpensFilesAgain c.release-store.result found) c.in-Ok-Some.field-0-is c.in-Ok-Some.ensures.ok) c.in-Err-broker_of.ensures.refused)

pub returns-in-Err-clause-shut : goal.returns-in-Err-clause-shut
returns-in-Err-clause-shut g c = inl (c.release-store.result, c.release-store.ensures, (refl, refl))

pub returns-in-Err-connect_again-clause-shut : goal.returns-in-Err-connect_again-clause-shut
returns-in-Err-connect_again-clause-shut g c = inl (c.release-store.result, c.release-store.ensures, c.in-Err-connect_again.ensures.shut)

pub returns-in-Ok-None-clause-again : goal.returns-in-Ok-None-clause-again
returns-in-Ok-None-clause-again g c =
    (c.release-store.result, subst (λ found. OpensFilesAgain c.release-store.result found) c.in-Ok-None.field-0-is c.in-Ok-None.ensures.ok, c.release-store.ensures)
