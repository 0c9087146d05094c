-- Which JSON values are trees: those without fractions that nest not too deep; and the first fault of the others.
use Rattle.std.specs.Prelude.{ℕ, nat_le, Result, Ok, Err, if◌then◌else◌, ⊤}
use Rattle.serde_json.specs.Data.{Data, depth}
use Rattle.serde_json.specs.Written.{has_float}
use Rattle.pact_trees.specs.declared.check.NoTree.{NoTree}
use Rattle.pact_trees.specs.declared.check.NoTree.TheVariants.{NotWhole, TooDeep}

-- lists and objects nest so deep at most (this project's own choice)
abbrev pub most_depth : ℕ
most_depth = 100

-- depth is looked at first, for the whole value
abbrev pub checked_tree : Data → Result ⊤ NoTree
checked_tree d =
    if nat_le (depth d) most_depth then (if has_float d then Err NotWhole else Ok tt) else Err TooDeep
