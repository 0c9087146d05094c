use Rattle.std.{specs.{Cmp.Lexicographic.{slice_cmp}, Ordering.{is_lt}}, proofs.Common.{rules as all_rules, map, length, nat_cmp}}
use Rattle.std.proofs.{lemmas.Cmp.{nat_list_cmp_total}, lemmas.Fn.{always_returns_same}, lemmas.List.Sorted.{ranks_by}}
use Rattle.pact_paths.specs.Asked.{asked_cmp, sort_key}
use Rattle.pact_rules.specs.{RuleViews.{rule_view}, Walks.{rule_asks}, Survivors.{survivor_view}, declared.walk.Survivor.{Survivor}}
use Rattle.pact_rules.proofs.WalkLemmas.{Contains-of_permutation, IsSortedBy-map}
use Rattle.pact_rules.proofs.walk.sort_by_asked.Goals as goal

pub returns-clause-same : goal.returns-clause-same
returns-clause-same c = λ e. Contains-of_permutation survivor_view _ _ c.sort_unstable_by.ensures.permutation e

pub returns-clause-order : goal.returns-clause-order
returns-clause-order c = λ at h.
    let asks = rule_asks (map rule_view c.args.rules.now) (length at) in
    let key = λ (x : Survivor). sort_key (asks (survivor_view x)) in
    IsSortedBy-map survivor_view (λ a b. is_lt (asked_cmp (asks a) (asks b))) (record { index = 0; exact = 0 }) _
    (c.sort_unstable_by.ensures.sorted (λ x y. is_lt (slice_cmp nat_cmp (key x) (key y))) (ranks_by nat_list_cmp_total key)
    (always_returns_same _ _ _ (λ a r g called. search (all_rules, h))))
