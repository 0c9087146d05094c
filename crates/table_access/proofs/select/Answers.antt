use Rattle.sqlite.proofs.StateLemmas.{survives_weaker}
use Rattle.table_access.proofs.CallLemmas.{CallsStoreBetween-ran, CallsStoreBetween-refused, Shown-inside, FailsToQuery-IsRefused, CommitsShowing-outside}
use Rattle.table_access.proofs.select.Goals as goal

pub returns-in-Ok-clause-leaves : goal.returns-in-Ok-clause-leaves
returns-in-Ok-clause-leaves g c =
    CallsStoreBetween-ran _ _ _ _ c.in-Ok.ensures.ok (λ clean inside. Shown-inside _ _ _ _ _ (c.in-Ok.ensures.ok clean) inside)
    (survives_weaker _ _ _ _ (λ _ db h. CommitsShowing-outside _ _ _ db h) c.query_all.ensures.survives)

pub returns-in-Err-clause-leaves : goal.returns-in-Err-clause-leaves
returns-in-Err-clause-leaves g c =
    CallsStoreBetween-refused _ _ _ _ _ c.fault_of.ensures (λ clean. FailsToQuery-IsRefused _ _ _ _ _ (c.in-Err.ensures.err clean))
    (survives_weaker _ _ _ _ (λ _ db h. CommitsShowing-outside _ _ _ db h) c.query_all.ensures.survives)
