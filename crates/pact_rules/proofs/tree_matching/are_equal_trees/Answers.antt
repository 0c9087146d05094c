use Rattle.pact_rules.proofs.TreeLemmas.{equal_lists}
use Rattle.pact_rules.proofs.tree_matching.are_equal_trees.Goals as goal

pub returns-in-List-List : goal.returns-in-List-List
returns-in-List-List c =
    let x = c.in-List-List in
    equal_lists c.args.a.now c.args.b.now x.a x.b c.len.result c.len-in-List-List.result x.is-0 x.is-1 c.len.ensures c.len-in-List-List.ensures
