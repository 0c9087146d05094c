use Rattle.std.proofs.Common.{◌≤◌, ◌+◌, ◌*◌, ◌^◌, arith}
use Rattle.pact_paths.proofs.WeightLemmas.{pow-mul_le, pow-within_60}
use Rattle.pact_paths.proofs.path.product_of.Goals as goal

pub overflow_mul-product : goal.overflow_mul-product
overflow_mul-product c =
    let w = c.weight_at-product.result in
    let i = c.loop-index.index in
    let p = c.loop-index.product in
    let one : p * w ≤ 2 ^ (i + 1) = pow-mul_le p w i c.loop-index.invariant.bound c.weight_at-product.ensures.bounded in
    let two : 2 ^ (i + 1) ≤ 2 ^ 60 = pow-within_60 (i + 1) (omega arith) in
    omega arith

pub returns-clause-bounded : goal.returns-clause-bounded
returns-clause-bounded c =
    let two : 2 ^ c.loop-index.index ≤ 2 ^ 60 = pow-within_60 c.loop-index.index (omega arith) in
    let one : c.loop-index.product ≤ 2 ^ c.loop-index.index = c.loop-index.invariant.bound in
    omega arith
