use Rattle.std.{specs.Ordering.{eq_by_cmp, is_lt}, proofs.{Common.{refl, rules, subst, sym}, lemmas.Fn.{dedup_same}}}
use Rattle.std.proofs.lemmas.List.Sorted.{ranks_by, answers_always}
use Rattle.broker_core.specs.{Gate.{IsNeed}, Listing.{Lists}}
use Rattle.deploy_tables.{specs.Needs.{need_cmp}, proofs.{MatrixLemmas.{Lists-dedup}, NeedLemmas.{need_cmp-IsTotalOrder, IsNeed-one_need}}}
use Rattle.deploy_tables.proofs.all_needs.each_need_once.Goals as goal

-- the closures compare two needs
pub returns : goal.returns
returns c s v e are =
    subst (Lists need_cmp (IsNeed s v e))
    (sym (dedup_same _ (eq_by_cmp need_cmp) _ (λ x y b f' x' y' k. search rules) _ _ c.dedup_by.ensures.filtered))
    (Lists-dedup need_cmp-IsTotalOrder (λ x y. refl) (IsNeed s v e) (IsNeed-one_need s v e) c.args.needs.items _ are c.sort_unstable_by.ensures.permutation
    (c.sort_unstable_by.ensures.sorted (λ x y. is_lt (need_cmp x y)) (ranks_by need_cmp-IsTotalOrder (λ h. h)) (answers_always _ _ _ (λ f a r g called. search rules))))
