use Rattle.std.{specs.{Io.KnownBytes.{Appends, Consumes}, Prelude.{vec_capacity}}, proofs.Common.{◌≡◌, ◌≤◌, ℕ, List, length}}
use Rattle.http_responses.specs.{Responses.{Response}, declared.head.TheConstants.{HEAD_CAPACITY}}
use Rattle.broker_http.specs.{Calls.{ByBroker}, Stream.{texts, AllOpen, Responses}}
use Rattle.broker_http.proofs.serving.serve_messages.Given as goal

-- What was read is answered, and out, as far as the buffer; and there is room for the head of a response.
abbrev pub invariant-loop-answered : goal.invariant-loop-answered
invariant-loop-answered g l =
    (stream : List ℕ) × (responses : List Response)
    × Consumes (g.R.Read.remaining l.fn.reader) (g.R.Read.remaining l.reader) stream
    × Responses (ByBroker g.B.Service.shown) (g.B.Service.seen l.fn.broker) stream responses (g.B.Service.seen l.broker) l.buffer.items
    × AllOpen responses
    × (l.answered ≡ length responses)
    × Appends (g.W.Write.contents l.fn.writer) (g.W.Write.contents l.writer) (texts responses)
    × (HEAD_CAPACITY ≤ vec_capacity l.head_buffer)
