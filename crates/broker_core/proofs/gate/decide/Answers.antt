use Rattle.std.{specs.Prelude.{Contains}, proofs.{Common.{sym, subst}, lemmas.List.Filters.{dedup_is}}}
use Rattle.broker_core.specs.{Listing.{Lists}, Faults.{fault_cmp, IsFaultAmong, fault_of}}
use Rattle.broker_core.proofs.Lists.{Contains-from_filter_map, Contains-filter_map, dedup-sorted}
use Rattle.broker_core.proofs.Order.{fault_cmp-total, fault_eq, fault_eq-equivalence, fault_eq-eq_by_cmp, fault_eq-equal}
use Rattle.broker_core.proofs.gate.decide.Goals as goal

pub returns-clause-faults : goal.returns-clause-faults
returns-clause-faults c =
    let all = c.in_ok-faults.ensures.faults in
    let kept = dedup_is _ _ _ c.dedup.ensures.filtered in
    let both = dedup-sorted {E = fault_eq} fault_cmp-total fault_eq-equivalence fault_eq-eq_by_cmp fault_eq-equal _ _ c.sort_unstable.ensures.permutation c.sort_unstable.ensures.sorted in
    subst (Lists fault_cmp (IsFaultAmong c.args.strict c.args.needs.now)) (sym kept) (record {
      sorted = both.0;
      exactly = λ fault. (
        λ in_list. Contains-from_filter_map (fault_of c.args.strict) _ fault (subst (λ xs. Contains xs fault) all ((both.1 fault).0 in_list)),
        λ is. (both.1 fault).1 (subst (λ xs. Contains xs fault) (sym all) (Contains-filter_map (fault_of c.args.strict) _ is.0 fault is.1 is.2)),
      );
    })
