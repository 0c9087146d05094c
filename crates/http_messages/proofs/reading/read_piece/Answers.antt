use Rattle.std.proofs.Common.{rules, ◌<◌, [], length, take, arith}
use Rattle.http_messages.proofs.reading.read_piece.Goals as goal

pub returns-in-Err-extend-clause-err : goal.returns-in-Err-extend-clause-err
returns-in-Err-extend-clause-err g c =
    let some : 0 < length (take c.in-Ok.count c.read_once.new.buf) = omega (arith, c.in-Ok.ensures.bound, c.if-count-eq0.false) in
    ([], _, c.in-Ok.ensures.bytes.0, some, search rules)
