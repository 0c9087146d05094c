use Rattle.std.proofs.{Common.{◌+◌, drop, get_or, sym, ◌∙◌, arith}, lemmas.List.{drop_more, drop_all}}
use Rattle.pact_rules.proofs.NameLemmas.{lower_cmp-longer, lower_cmp-shorter}
use Rattle.pact_rules.proofs.table.lower_order.Goals as goal

pub returns-then-index-right : goal.returns-then-index-right
returns-then-index-right c =
    let i = c.loop-index.index in
    let xs = c.args.left.now in
    let ys = c.args.right.now in
    sym (c.loop-index.invariant ∙ lower_cmp-longer (drop i xs) (drop i ys) (drop (i + 1) xs) (get_or xs i 0) (drop_more xs i 0 (omega arith)) (drop_all i ys (omega arith)))

pub returns-then-left-right : goal.returns-then-left-right
returns-then-left-right c =
    let i = c.loop-index.index in
    let xs = c.args.left.now in
    let ys = c.args.right.now in
    sym (c.loop-index.invariant ∙ lower_cmp-shorter (drop i xs) (drop i ys) (drop (i + 1) ys) (get_or ys i 0) (drop_all i xs (omega arith)) (drop_more ys i 0 (omega arith)))
