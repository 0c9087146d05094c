use Rattle.pact_file.{specs.Pact.{name_cmp}, proofs.{HeaderSets.{name_cmp-total}, SortedSets.{IsSetInOrder-of_sorted, HasTwins-of_sorted}}}
use Rattle.pact_file.proofs.headers.in_name_order.Goals as goal

pub returns-then-names_rise : goal.returns-then-names_rise
returns-then-names_rise c =
    IsSetInOrder-of_sorted name_cmp name_cmp-total c.args.found.items c.sort_by_name.new.headers.items c.sort_by_name.ensures.moved (rw (c.if-names_rise.true, c.deref.ensures.value) at c.names_rise.ensures)

pub returns-else-names_rise : goal.returns-else-names_rise
returns-else-names_rise c =
    let h = rw (c.if-names_rise.false, c.deref.ensures.value) at c.names_rise.ensures in
    HasTwins-of_sorted name_cmp name_cmp-total c.args.found.items c.sort_by_name.new.headers.items c.sort_by_name.ensures.moved c.sort_by_name.ensures.sorted h.0 h.1 h.2
