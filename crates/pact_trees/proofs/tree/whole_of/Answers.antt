use Rattle.std.proofs.{Common.{sym, ◌∙◌, rules}, lemmas.Int.{to_z-of_z}}
use Rattle.pact_trees.proofs.Copies.{as_integer-is_some, of_integer-as_integer}
use mir.Syntax.{w128}
use Rattle.pact_trees.proofs.tree.whole_of.Goals as goal

pub unwrap-requires : goal.unwrap-requires
unwrap-requires c = rw c.as_i128.ensures (as_integer-is_some _ c.requires)

pub returns : goal.returns
returns c =
    rw (to_z-of_z w128 c.unwrap.result (search rules)) (of_integer-as_integer c.args.number.now.n _ c.args.number.now.valid (sym c.as_i128.ensures ∙ c.unwrap.ensures))
