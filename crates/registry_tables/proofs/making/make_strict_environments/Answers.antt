use Rattle.std.proofs.Common.{refl, take, drop, inl}
use Rattle.table_access.{specs.Statements.{Creates}, proofs.{CallLemmas.{CallsBetween-weaken}, Creation.{MakesEach-single}}}
use Rattle.broker_tables.specs.{Schema.{strict_environments}, Making.{table_texts}}
use Rattle.registry_tables.proofs.making.make_strict_environments.Goals as goal

pub returns-clause-makes : goal.returns-clause-makes
returns-clause-makes g c =
    CallsBetween-weaken _ _ c.make_each.result _ _ (λ _ made is. MakesEach-single Creates strict_environments _ _ (made.0 (take 14 table_texts) (take 1 (drop 14 table_texts)) (drop 15 table_texts) refl refl is)) c.make_each.ensures.makes

pub returns-clause-failure : goal.returns-clause-failure
returns-clause-failure g c clean inside unlimited is =
    c.make_each.ensures.failure clean inside unlimited (inl (take 14 table_texts, take 1 (drop 14 table_texts), drop 15 table_texts, refl, refl, is))
