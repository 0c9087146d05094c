use Rattle.std.{specs.{Ordering.{eq_by_cmp, is_lt}, Prelude.{Contains}}, proofs.{Common.{refl, rules, subst, sym}, lemmas.Fn.{dedup_same}}}
use Rattle.std.proofs.lemmas.List.Sorted.{ranks_by, answers_always}
use Rattle.broker_core.{specs.{Listing.{Lists}, Machine.{version_cmp}}, proofs.Once.{version_cmp-total}}
use Rattle.deploy_tables.proofs.{MatrixLemmas.{Lists-dedup}, VersionsThere.{version_cmp-antisymmetric}}
use Rattle.deploy_tables.proofs.versions_there.each_version_once.Goals as goal

-- the closures compare two versions
pub returns : goal.returns
returns c =
    let versions = c.args.versions.items in
    subst (Lists version_cmp (Contains versions))
    (sym (dedup_same _ (eq_by_cmp version_cmp) _ (λ x y b f' x' y' k. search rules) _ _ c.dedup_by.ensures.filtered))
    (Lists-dedup version_cmp-total (λ x y. refl) (Contains versions) (λ x y one two. version_cmp-antisymmetric x y) versions _ (λ x. (λ there. there, λ there. there)) c.sort_unstable_by.ensures.permutation
    (c.sort_unstable_by.ensures.sorted (λ x y. is_lt (version_cmp x y)) (ranks_by version_cmp-total (λ h. h)) (answers_always _ _ _ (λ f a r g called. search rules))))
