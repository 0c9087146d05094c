use Rattle.std.proofs.{Common.{◌≤◌, rules, length, take}, lemmas.Result.{err_from_is_err_and}}
use Rattle.http_messages.specs.{Messages.{IsHeadOf, HasNoHead}, Views.{IsHeadRead}, Limits.{head_limit}}
use Rattle.http_messages.proofs.ReadingLemmas.{Gains-trans, LeavesAtFault-after, HasNoMessage-of_no_head, AnnouncesBody-short, LeavesAtFault-grows, IsOutcome-whole, HasNoMessage-short_body}
use Rattle.http_messages.proofs.reading.read_message.Goals as goal

pub returns-in_err-head_len-clause-err : goal.returns-in_err-head_len-clause-err
returns-in_err-head_len-clause-err g c =
    let p = err_from_is_err_and c.from_residual.result c.from_residual.ensures.1 in
    rw (p.1, p.2) (record {
      leaves = c.in_err-head_len.ensures.err;
      none = HasNoMessage-of_no_head _ c.in_err-head_len.ensures.none;
      body = λ memory. absurd (c.in_err-head_len.ensures.memory memory);
    })

pub returns-in_default-clause-ok : goal.returns-in_default-clause-ok
returns-in_default-clause-ok g c =
    let none : HasNoHead c.read_head_bytes.new.buffer.items = rw c.in_default.is at c.in_ok-head_len.ensures.found in
    record {
      gains = c.in_ok-head_len.ensures.ok;
      outcome = HasNoMessage-of_no_head _ none;
      end = λ _. rw c.in_default.is at c.in_ok-head_len.ensures.end;
      wanted = search rules;
    }

pub returns-in_err-read_up_to-clause-err : goal.returns-in_err-read_up_to-clause-err
returns-in_err-read_up_to-clause-err g c =
    let bytes = c.read_head_bytes.new.buffer.items in
    let head_len = c.in-Some.head_len in
    let found : (head_len ≤ length bytes) × (head_len ≤ head_limit) × IsHeadOf bytes (take head_len bytes) = rw c.in-Some.is at c.in_ok-head_len.ensures.found in
    let read : IsHeadRead (take head_len bytes) c.read_head-head.result = rw c.as_slice.ensures at c.read_head-head.ensures.read in
    let short = c.in_err-read_up_to.ensures.lacks in
    let grown = LeavesAtFault-grows _ _ _ _ _ c.in_err-read_up_to.ensures.err in
    let p = err_from_is_err_and c.from_residual-in_err-read_up_to.result c.from_residual-in_err-read_up_to.ensures.1 in
    rw (p.1, p.2) (record {
      leaves = LeavesAtFault-after _ _ _ _ _ _ _ c.in_ok-head_len.ensures.ok c.in_err-read_up_to.ensures.err;
      none = HasNoMessage-short_body bytes grown.0 _ head_len c.read_head-head.result grown.1 found.0 found.2 read (rw c.announced-body_len.ensures at short);
      body = λ _. AnnouncesBody-short bytes grown.0 _ head_len c.read_head-head.result grown.1 found.0 found.2 read (rw c.announced-body_len.ensures at short);
    })

pub returns-then-branch-clause-ok : goal.returns-then-branch-clause-ok
returns-then-branch-clause-ok g c =
    let bytes = c.read_head_bytes.new.buffer.items in
    let head_len = c.in-Some.head_len in
    let found : (head_len ≤ length bytes) × (head_len ≤ head_limit) × IsHeadOf bytes (take head_len bytes) = rw c.in-Some.is at c.in_ok-head_len.ensures.found in
    let read : IsHeadRead (take head_len bytes) c.read_head-head.result = rw c.as_slice.ensures at c.read_head-head.ensures.read in
    let whole = c.in_ok-read_up_to.ensures.whole c.if-branch.true in
    let grown = c.in_ok-read_up_to.ensures.ok in
    record {
      gains = Gains-trans _ _ _ _ _ _ c.in_ok-head_len.ensures.ok grown;
      outcome = rw c.announced-body_len.ensures (IsOutcome-whole bytes grown.0 _ head_len c.read_head-head.result grown.2 found.0 found.2 read (rw c.announced-body_len.ensures at whole));
      end = λ over. cc;
      wanted = search rules;
    }

pub returns-else-branch-clause-ok : goal.returns-else-branch-clause-ok
returns-else-branch-clause-ok g c =
    let bytes = c.read_head_bytes.new.buffer.items in
    let head_len = c.in-Some.head_len in
    let found : (head_len ≤ length bytes) × (head_len ≤ head_limit) × IsHeadOf bytes (take head_len bytes) = rw c.in-Some.is at c.in_ok-head_len.ensures.found in
    let read : IsHeadRead (take head_len bytes) c.read_head-head.result = rw c.as_slice.ensures at c.read_head-head.ensures.read in
    let short = c.in_ok-read_up_to.ensures.short c.if-branch.false in
    let grown = c.in_ok-read_up_to.ensures.ok in
    record {
      gains = Gains-trans _ _ _ _ _ _ c.in_ok-head_len.ensures.ok grown;
      outcome = HasNoMessage-short_body bytes grown.0 _ head_len c.read_head-head.result grown.2 found.0 found.2 read (rw c.announced-body_len.ensures at short.0);
      end = λ _. short.1;
      wanted = search rules;
    }
