use Rattle.std.specs.{Prelude.{nat_eq, Contains}, Ordering.{nat_cmp, is_eq}, Cmp.{nat_cmp_total}, Cmp.Rules.{comparing}, FinMap.{nat_cmp-IsAntisymmetric}}
use Rattle.std.proofs.{Common.{◌≡◌, ℕ, rules, sym, subst}, lemmas.List.Filters.{dedup_is}}
use Rattle.broker_core.specs.Listing.{Lists}
use Rattle.deploy_tables.proofs.MatrixLemmas.{Lists-dedup}
use Rattle.deploy_tables.proofs.lists.each_number_once.Goals as goal

nats_tie : (x y : ℕ) → nat_eq x y ≡ is_eq (nat_cmp x y)
nats_tie = search (comparing, rules)

pub returns : goal.returns
returns c =
    subst (Lists nat_cmp (Contains c.args.numbers.items)) (sym (dedup_is _ _ _ c.dedup.ensures.filtered))
    (Lists-dedup {E = nat_eq} nat_cmp_total nats_tie (Contains c.args.numbers.items) (λ x y one two. nat_cmp-IsAntisymmetric x y) c.args.numbers.items _
    (λ x. (λ there. there, λ there. there)) c.sort_unstable.ensures.permutation c.sort_unstable.ensures.sorted)
