use Rattle.std.proofs.Common.{add-one, arith}
use Rattle.http_messages.proofs.LinesLemmas.{lines_of-first_line, lines_of-no_line_feed}
use Rattle.http_messages.proofs.lines.line_len.Goals as goal

pub returns-then-b-eq-LINE_FEED-clause-found : goal.returns-then-b-eq-LINE_FEED-clause-found
returns-then-b-eq-LINE_FEED-clause-found c =
    rw add-one (lines_of-first_line c.args.bytes.now c.loop-i.i c.loop-i-test.true c.if-b-eq-LINE_FEED.true c.loop-i.invariant)

pub returns-clause-none : goal.returns-clause-none
returns-clause-none c = lines_of-no_line_feed c.args.bytes.now (λ k h. c.loop-i.invariant k (omega arith))
