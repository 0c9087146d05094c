use Rattle.sqlite.proofs.StateLemmas.{survives_weaker}
use Rattle.table_access.proofs.{Texts.{Executes-IsRefused}, CallLemmas.{CallsStoreBetween-ran, CallsStoreBetween-refused}}
use Rattle.broker_database.proofs.DropLemmas.{CommitsBy-drop_outside, Executes-drop_inside}
use Rattle.broker_database.proofs.renewal.drop_table.Goals as goal

pub returns-in-Ok : goal.returns-in-Ok
returns-in-Ok g c =
    CallsStoreBetween-ran _ _ _ _ (λ clean. tt) (λ clean inside. Executes-drop_inside _ _ _ _ _ c.requires (c.in-Ok.ensures.runs clean) inside)
    (survives_weaker _ _ _ _ (λ _ db h. CommitsBy-drop_outside _ _ _ db c.requires h) c.execute.ensures.survives)

pub returns-in-Err : goal.returns-in-Err
returns-in-Err g c =
    CallsStoreBetween-refused _ _ _ _ _ c.from.ensures (λ clean. Executes-IsRefused _ _ _ _ _ (c.in-Err.ensures.runs clean))
    (survives_weaker _ _ _ _ (λ _ db h. CommitsBy-drop_outside _ _ _ db c.requires h) c.execute.ensures.survives)
