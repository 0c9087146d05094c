use Rattle.std.proofs.Common.{refl, take, drop, inr}
use Rattle.table_access.{specs.Statements.{IndexesTable}, proofs.{CallLemmas.{CallsBetween-weaken}, Creation.{MakesEach-single}}}
use Rattle.broker_tables.specs.{Schema.{contents_by_digest}, Making.{index_texts}}
use Rattle.content_store.proofs.making.make_index.Goals as goal

pub returns-clause-makes : goal.returns-clause-makes
returns-clause-makes g c =
    CallsBetween-weaken _ _ c.make_each.result _ _ (λ _ made is. MakesEach-single IndexesTable contents_by_digest _ _ (made.1 (take 0 index_texts) (take 1 (drop 0 index_texts)) (drop 1 index_texts) refl refl is)) c.make_each.ensures.makes

pub returns-clause-failure : goal.returns-clause-failure
returns-clause-failure g c clean inside unlimited it =
    c.make_each.ensures.failure clean inside unlimited (inr ((take 0 index_texts, take 1 (drop 0 index_texts), drop 1 index_texts, refl, refl, it.0), it.1))
