use Rattle.std.proofs.Common.{refl, take, drop, inl}
use Rattle.table_access.proofs.CallLemmas.{CallsBetween-weaken}
use Rattle.broker_tables.specs.Making.{table_texts}
use Rattle.registry_tables.proofs.making.make_registry.Goals as goal

pub returns-clause-makes : goal.returns-clause-makes
returns-clause-makes g c =
    CallsBetween-weaken _ _ c.make_each.result _ _ (λ _ made is. made.0 (take 0 table_texts) (take 7 (drop 0 table_texts)) (drop 7 table_texts) refl refl is) c.make_each.ensures.makes

pub returns-clause-failure : goal.returns-clause-failure
returns-clause-failure g c clean inside unlimited is =
    c.make_each.ensures.failure clean inside unlimited (inl (take 0 table_texts, take 7 (drop 0 table_texts), drop 7 table_texts, refl, refl, is))
