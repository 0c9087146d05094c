use Rattle.std.{specs.Ordering.{eq_by_cmp, is_lt}, proofs.{Common.{refl, rules, subst, sym}, lemmas.Fn.{dedup_same}}}
use Rattle.std.proofs.lemmas.List.Sorted.{ranks_by, answers_always}
use Rattle.broker_core.{specs.{Listing.{Lists}, Machine.{matrix_cmp, IsMatrixRow}}, proofs.Once.{matrix_cmp-total}}
use Rattle.deploy_tables.proofs.MatrixLemmas.{Lists-dedup, IsMatrixRow-one_row}
use Rattle.deploy_tables.proofs.rows.each_row_once.Goals as goal

-- the closures compare two rows
pub returns : goal.returns
returns c s v are =
    subst (Lists matrix_cmp (IsMatrixRow s v))
    (sym (dedup_same _ (eq_by_cmp matrix_cmp) _ (λ x y b f' x' y' k. search rules) _ _ c.dedup_by.ensures.filtered))
    (Lists-dedup matrix_cmp-total (λ x y. refl) (IsMatrixRow s v) (IsMatrixRow-one_row s v) c.args.rows.items _ are c.sort_unstable_by.ensures.permutation
    (c.sort_unstable_by.ensures.sorted (λ x y. is_lt (matrix_cmp x y)) (ranks_by matrix_cmp-total (λ h. h)) (answers_always _ _ _ (λ f a r g called. search rules))))
