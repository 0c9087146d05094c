use Rattle.std.proofs.Common.{refl, take, drop, inl}
use Rattle.table_access.proofs.CallLemmas.{CallsBetween-weaken}
use Rattle.broker_tables.specs.Making.{table_texts}
use Rattle.contract_tables.proofs.making.make_tables.Goals as goal

pub returns-clause-makes : goal.returns-clause-makes
returns-clause-makes g c =
    CallsBetween-weaken _ _ c.make_each.result _ _ (λ _ made is. made.0 (take 8 table_texts) (take 3 (drop 8 table_texts)) (drop 11 table_texts) refl refl is) c.make_each.ensures.makes

pub returns-clause-failure : goal.returns-clause-failure
returns-clause-failure g c clean inside unlimited is =
    c.make_each.ensures.failure clean inside unlimited (inl (take 8 table_texts, take 3 (drop 8 table_texts), drop 11 table_texts, refl, refl, is))
