use Rattle.std.proofs.Common.{◌-◌, ◌≤◌, max, length}
use Rattle.http_messages.specs.{Reading.{Gains}, Limits.{head_limit}}
use Rattle.http_messages.proofs.reading.read_head_bytes.Given as goal

-- what was read is at the buffer's end, and is within the limit
abbrev pub invariant-loop-head_len : goal.invariant-loop-head_len
invariant-loop-head_len g l = record {
  gains : Gains (g.R.Read.remaining l.fn.reader) (g.R.Read.remaining l.reader) l.fn.buffer.items l.buffer.items;
  bound : length l.buffer.items ≤ max (length l.fn.buffer.items) head_limit;
}

abbrev pub decreases-loop-head_len : goal.decreases-loop-head_len
decreases-loop-head_len g l = head_limit - length l.buffer.items
