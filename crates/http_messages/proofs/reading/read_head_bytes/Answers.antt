use Rattle.http_messages.proofs.ReadingLemmas.{Gains-none, IsHeadOf-of_slice, HasNoHead-of_slice, OnErr-of_fact}
use Rattle.http_messages.proofs.reading.read_head_bytes.Goals as goal

pub returns-in-Some-clause-found : goal.returns-in-Some-clause-found
returns-in-Some-clause-found g c =
    let found = IsHeadOf-of_slice _ c.loop-head_len.buffer.items c.in-Some.head_len c.as_slice.ensures c.in-Some.ensures.within c.in-Some.ensures.found in
    (found.0, c.in-Some.ensures.small, found.1)

pub returns-in_err-read_piece-clause-none : goal.returns-in_err-read_piece-clause-none
returns-in_err-read_piece-clause-none g c =
    OnErr-of_fact c.from_residual.result
    (HasNoHead-of_slice _ c.loop-head_len.buffer.items _ c.as_slice.ensures c.in_err-read_piece.ensures.kept c.in_default.ensures.none)

pub returns-then-branch-eq0-clause-found : goal.returns-then-branch-eq0-clause-found
returns-then-branch-eq0-clause-found g c =
    let same = Gains-none _ _ c.loop-head_len.buffer.items _ _ c.in_ok-read_piece.ensures.ok c.in_ok-read_piece.ensures.count.0 c.if-branch-eq0.true in
    HasNoHead-of_slice _ c.loop-head_len.buffer.items _ c.as_slice.ensures same c.in_default.ensures.none
