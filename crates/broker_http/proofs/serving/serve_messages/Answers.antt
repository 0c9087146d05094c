use Rattle.std.specs.Io.KnownBytes.{Appends}
use Rattle.std.proofs.Common.{◌≢◌, ◌+◌, ◌++◌, length, drop, [], ◌∷◌, refl, sym, inl, ◌∙◌, subst, arith, eqb-true, length-append}
use Rattle.std.proofs.{KnownBytes.{Consumes-kept, Consumes-nil, Consumes-trans, Appends-nil, Appends-trans}, lemmas.Result.{err_from_is_err_and}}
use Rattle.std.proofs.lemmas.Bool.{eqb-false}
use Rattle.http_messages.specs.Reading.{IsOutcome}
use Rattle.broker_http.specs.{Calls.{ByBroker}, Stream.{texts}}
use Rattle.broker_http.proofs.ResponsesLemmas.{Responses-came, Responses-answered, Responses-broken, Responses-unread, AllOpen-then, texts-then, StreamEnds-at_end, StreamEnds-rest, ReportsDevice-weaker}
use Rattle.broker_http.proofs.serving.serve_messages.Goals.{then-is_empty, else-is_empty}
use Rattle.broker_http.proofs.serving.serve_messages.Goals as goal

pub returns-in_default-clause-answers : goal.returns-in_default-clause-answers
returns-in_default-clause-answers g c = record {
  ok = tt;
  end = tt;
  fault = ([], [], [], [], Consumes-nil _, (refl, refl), (tt, refl), Appends-nil _, inl refl);
}

pub returns-in_default-with_capacity-clause-answers : goal.returns-in_default-with_capacity-clause-answers
returns-in_default-with_capacity-clause-answers g c = record {
  ok = tt;
  end = tt;
  fault = ([], [], [], [], Consumes-nil _, (refl, refl), (tt, refl), Appends-nil _, inl refl);
}

pub returns-in_err-head_len-clause-answers : goal.returns-in_err-head_len-clause-answers
returns-in_err-head_len-clause-answers g c =
    let so_far = c.loop-answered.invariant in
    let read = Consumes-kept _ _ _ so_far.0 so_far.2 c.is_over.ensures in
    let p = err_from_is_err_and c.from_residual.result c.from_residual.ensures.1 in
    rw (p.1, p.2) (record {
      ok = tt;
      end = tt;
      fault = Responses-unread (ByBroker g.B.Service.shown) _ so_far.0 so_far.1 _ c.loop-answered.buffer.items _ _ _ _ _ _ _
          read so_far.3 so_far.4 so_far.6 c.in_err-head_len.ensures.err.leaves c.in_err-head_len.ensures.err.none c.in_err-head_len.ensures.err.body;
    })

pub returns-in-End-clause-answers : goal.returns-in-End-clause-answers
returns-in-End-clause-answers g c =
    let so_far = c.loop-answered.invariant in
    let read = Consumes-kept _ _ _ so_far.0 so_far.2 c.is_over.ensures in
    let came = c.in_ok-head_len.ensures.ok.gains in
    let bytes = c.read_message.new.buffer.items in
    let none = subst (IsOutcome bytes) c.in-End.is c.in_ok-head_len.ensures.ok.outcome in
    record {
      ok = (
        so_far.0 ++ came.0,
        so_far.1,
        bytes,
        Consumes-trans _ _ _ so_far.0 came.0 read came.1,
        Responses-came (ByBroker g.B.Service.shown) _ so_far.0 so_far.1 _ c.loop-answered.buffer.items came.0 bytes so_far.3 came.2,
        elim c.if-is_empty.branch [
          | then-is_empty w ↦ StreamEnds-at_end _ so_far.1 bytes w.ended-is so_far.4 (eqb-true (length bytes) 0 (sym c.is_empty-in-End.ensures ∙ w.if-is_empty.true))
          | else-is_empty w ↦ StreamEnds-rest _ so_far.1 bytes w.ended-is so_far.4
              (let some : length bytes ≢ 0 = eqb-false (length bytes) 0 (sym c.is_empty-in-End.ensures ∙ w.if-is_empty.false) in omega arith) none
        ],
        so_far.5,
        so_far.6,
      );
      end = λ _. c.in_ok-head_len.ensures.ok.end c.in-End.is;
      fault = tt;
    }

pub returns-in_err-answer-clause-answers : goal.returns-in_err-answer-clause-answers
returns-in_err-answer-clause-answers g c =
    let exchange = ByBroker g.B.Service.shown in
    let so_far = c.loop-answered.invariant in
    let read = Consumes-kept _ _ _ so_far.0 so_far.2 c.is_over.ensures in
    let came = c.in_ok-head_len.ensures.ok.gains in
    let bytes = c.read_message.new.buffer.items in
    let begins = subst (IsOutcome bytes) c.in-Message.is c.in_ok-head_len.ensures.ok.outcome in
    let broken = Responses-broken exchange _ (so_far.0 ++ came.0) so_far.1 _ bytes _ _ _ _ _ _ _
    (Responses-came exchange _ so_far.0 so_far.1 _ c.loop-answered.buffer.items came.0 bytes so_far.3 came.2)
    so_far.4 so_far.6 begins.2
    (rw (c.message_parts.ensures.head, c.message_parts.ensures.body, c.as_slice.ensures) at c.in_err-answer.ensures.fault)
    (rw (c.message_parts.ensures.head, c.message_parts.ensures.body, c.as_slice.ensures) at c.in_err-answer.ensures.memory) in
    let p = err_from_is_err_and c.from_residual-in_err-answer.result c.from_residual-in_err-answer.ensures.1 in
    rw (p.1, p.2) (record {
      ok = tt;
      end = tt;
      fault = (
        so_far.0 ++ came.0,
        broken.0,
        broken.1,
        broken.2,
        Consumes-trans _ _ _ so_far.0 came.0 read came.1,
        broken.3,
        broken.4,
        broken.5,
        broken.6,
      );
    })

pub returns-then-branch-clause-answers : goal.returns-then-branch-clause-answers
returns-then-branch-clause-answers g c =
    let exchange = ByBroker g.B.Service.shown in
    let so_far = c.loop-answered.invariant in
    let read = Consumes-kept _ _ _ so_far.0 so_far.2 c.is_over.ensures in
    let came = c.in_ok-head_len.ensures.ok.gains in
    let bytes = c.read_message.new.buffer.items in
    let answered = c.in_ok-answer.ensures.ok in
    let response = answered.0 in record {
      ok = (
        so_far.0 ++ came.0,
        so_far.1 ++ response ∷ [],
        drop (c.in-Message.head_len + c.in-Message.body_len) bytes,
        Consumes-trans _ _ _ so_far.0 came.0 read came.1,
        Responses-answered exchange _ so_far.0 so_far.1 _ c.loop-answered.buffer.items came.0 bytes c.in_ok-head_len.field-0
            c.in-Message.head_len c.in-Message.body_len c.in-Message.head response _ so_far.3 came.2 c.in_ok-head_len.ensures.ok.outcome c.in-Message.is
            (rw (c.message_parts.ensures.head, c.message_parts.ensures.body, c.as_slice.ensures) at answered.1),
        (so_far.1, response, refl, so_far.4, answered.2 ∙ c.if-branch.true),
        omega (arith, so_far.5, length-append so_far.1 (response ∷ [])),
        subst (Appends _ _) (sym (texts-then so_far.1 response))
            (Appends-trans _ _ _ (texts so_far.1) response.text so_far.6 answered.3),
      );
      end = λ differs. absurd (differs refl);
      fault = tt;
    }

pub loop-answered-preserved : goal.loop-answered-preserved
loop-answered-preserved g c =
    let exchange = ByBroker g.B.Service.shown in
    let so_far = c.loop-answered.invariant in
    let read = Consumes-kept _ _ _ so_far.0 so_far.2 c.is_over.ensures in
    let came = c.in_ok-head_len.ensures.ok.gains in
    let bytes = c.read_message.new.buffer.items in
    let answered = c.in_ok-answer.ensures.ok in
    let response = answered.0 in (
      so_far.0 ++ came.0,
      so_far.1 ++ response ∷ [],
      Consumes-trans _ _ _ so_far.0 came.0 read came.1,
      rw c.drop_front.ensures
          (Responses-answered exchange _ so_far.0 so_far.1 _ c.loop-answered.buffer.items came.0 bytes c.in_ok-head_len.field-0
          c.in-Message.head_len c.in-Message.body_len c.in-Message.head response _ so_far.3 came.2 c.in_ok-head_len.ensures.ok.outcome c.in-Message.is
          (rw (c.message_parts.ensures.head, c.message_parts.ensures.body, c.as_slice.ensures) at answered.1)),
      AllOpen-then so_far.1 response so_far.4 (answered.2 ∙ c.if-branch.false),
      omega (arith, so_far.5, length-append so_far.1 (response ∷ [])),
      subst (Appends _ _) (sym (texts-then so_far.1 response))
          (Appends-trans _ _ _ (texts so_far.1) response.text so_far.6 answered.3),
      c.in_ok-answer.ensures.kept,
    )

pub returns-in_err-answer-clause-failed : goal.returns-in_err-answer-clause-failed
returns-in_err-answer-clause-failed g c =
    let p = err_from_is_err_and c.from_residual-in_err-answer.result c.from_residual-in_err-answer.ensures.1 in
    rw (p.1, p.2) (ReportsDevice-weaker c.in_err-answer.field-0.0 _ _ c.in_err-answer.ensures.failed)
