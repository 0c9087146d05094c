use Rattle.std.proofs.Common.{refl, take, drop, inr}
use Rattle.table_access.proofs.CallLemmas.{CallsBetween-weaken}
use Rattle.broker_tables.specs.Making.{index_texts}
use Rattle.contract_tables.proofs.making.make_indexes.Goals as goal

pub returns-clause-makes : goal.returns-clause-makes
returns-clause-makes g c =
    CallsBetween-weaken _ _ c.make_each.result _ _ (λ _ made is. made.1 (take 1 index_texts) (take 2 (drop 1 index_texts)) (drop 3 index_texts) refl refl is) c.make_each.ensures.makes

pub returns-clause-failure : goal.returns-clause-failure
returns-clause-failure g c clean inside unlimited it =
    c.make_each.ensures.failure clean inside unlimited (inr ((take 1 index_texts, take 2 (drop 1 index_texts), drop 3 index_texts, refl, refl, it.0), it.1))
