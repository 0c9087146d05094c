use Rattle.pact_file.{specs.Pact.{interaction_data}, proofs.NormalTexts.{length-left_step, left-end, length-left_positive}}
use Rattle.std.proofs.Common.{◌+◌, drop, length, ap, arith}
use Rattle.pact_file.proofs.texts.room_after_all.Goals as goal

pub returns-in-None : goal.returns-in-None
returns-in-None c =
    let i = c.loop-index.index in
    let xs = c.args.interactions.now in
    let added = length-left_step xs i c.index-interactions-index.result c.text.result.now (omega arith) c.index-interactions-index.is c.text.ensures in
    omega (arith, c.loop-index.invariant, added, length-left_positive (i + 1) (drop (i + 1) xs), c.in-None.ensures)

pub loop-index-preserved : goal.loop-index-preserved
loop-index-preserved c =
    let added = length-left_step c.args.interactions.now c.loop-index.index c.index-interactions-index.result c.text.result.now (omega arith) c.index-interactions-index.is c.text.ensures in
    omega (arith, c.loop-index.invariant, added, c.in-Some.ensures)

pub returns : goal.returns
returns c = omega (arith, c.loop-index.invariant, ap length (left-end interaction_data c.args.interactions.now c.loop-index.index (omega arith)))
