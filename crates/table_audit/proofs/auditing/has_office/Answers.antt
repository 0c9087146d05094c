use Rattle.std.proofs.{Common.{inl}, lemmas.Result.{IfErr-weaker}}
use Rattle.table_access.proofs.CallLemmas.{CallsBetween-may_take_memory}
use Rattle.table_audit.proofs.{RowRules.{HasOffice-shown}, RowTexts.{any_office}, Tried.{TriesBetween-of_query}}
use Rattle.table_audit.proofs.auditing.has_office.Goals as goal

pub returns : goal.returns
returns g c = TriesBetween-of_query any_office _ _ c.has_row.result _ _ (λ broker rows shown has. HasOffice-shown _ rows has shown) (CallsBetween-may_take_memory _ _ c.has_row.result _ c.has_row.ensures.leaves)
    (λ clean. IfErr-weaker c.has_row.result _ _ (λ fault refused. inl refused) (c.has_row.ensures.cause clean))
