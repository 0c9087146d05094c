use Rattle.sqlite.proofs.StateLemmas.{survives_weaker}
use Rattle.table_access.proofs.{Texts.{Executes-IsRefused}, WriteLemmas.{CommitsBy-write_outside, Executes-inside}}
use Rattle.table_access.proofs.CallLemmas.{CallsStoreBetween-ran, CallsStoreBetween-refused}
use Rattle.table_access.proofs.counted.change_counted.Goals as goal

pub returns-in-Ok-clause-leaves : goal.returns-in-Ok-clause-leaves
returns-in-Ok-clause-leaves g c =
    CallsStoreBetween-ran _ _ _ _ c.in-Ok.ensures.runs (λ clean inside. Executes-inside _ _ _ _ _ c.requires (c.in-Ok.ensures.runs clean) inside)
    (survives_weaker _ _ _ _ (λ _ db h. CommitsBy-write_outside _ _ _ db c.requires h) c.execute.ensures.survives)

pub returns-in-Err-clause-leaves : goal.returns-in-Err-clause-leaves
returns-in-Err-clause-leaves g c =
    CallsStoreBetween-refused _ _ _ _ _ c.fault_of.ensures (λ clean. Executes-IsRefused _ _ _ _ _ (c.in-Err.ensures.runs clean))
    (survives_weaker _ _ _ _ (λ _ db h. CommitsBy-write_outside _ _ _ db c.requires h) c.execute.ensures.survives)
