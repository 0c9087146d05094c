use Rattle.std.{specs.Ordering.{is_lt, is_le}, proofs.{Common.{rules as all_rules, map, length}, lemmas.List.Sorted.{IsPartitionPoint-from_clause}}}
use Rattle.pact_rules.specs.{RuleViews.{rule_view}, Walks.{rule_asks}, Survivors.{survivor_view}, declared.walk.Survivor.{Survivor}}
use Rattle.pact_rules.proofs.WalkLemmas.{IsPartitionedBy-is_lt, IsPartitionedBy-is_le, IsPartitionPoint-run}
use Rattle.pact_paths.specs.{Asked.{asked_cmp}, AskedView.{asked_view}}
use Rattle.pact_rules.proofs.walk.run_of.Goals as goal

pub returns-clause-run : goal.returns-clause-run
returns-clause-run c = λ at h k e there is.
    let asks = rule_asks (map rule_view c.args.rules.now) (length at) in
    let w = asked_view c.args.wanted in
    let xs = c.args.entries.now in
    IsPartitionPoint-run asks w xs c.partition_point.result c.partition_point-2.result k e
    (IsPartitionPoint-from_clause (λ (y : Survivor). is_lt (asked_cmp (asks (survivor_view y)) w)) xs c.partition_point.result c.partition_point.ensures.partitioned (IsPartitionedBy-is_lt asks w xs h.order) (λ a r f called. search (all_rules, h.steps)))
    (IsPartitionPoint-from_clause (λ (y : Survivor). is_le (asked_cmp (asks (survivor_view y)) w)) xs c.partition_point-2.result c.partition_point-2.ensures.partitioned (IsPartitionedBy-is_le asks w xs h.order) (λ a r f called. search (all_rules, h.steps)))
    there is
