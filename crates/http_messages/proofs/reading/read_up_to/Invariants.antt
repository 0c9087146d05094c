use Rattle.std.proofs.Common.{◌-◌, ◌≤◌, max, length}
use Rattle.http_messages.specs.Reading.{Gains}
use Rattle.http_messages.proofs.reading.read_up_to.Given as goal

-- what was read is at the buffer's end, and is no more than is wanted
abbrev pub invariant-loop-reader : goal.invariant-loop-reader
invariant-loop-reader g l = record {
  gains : Gains (g.R.Read.remaining l.fn.reader) (g.R.Read.remaining l.reader) l.fn.buffer.items l.buffer.items;
  bound : length l.buffer.items ≤ max (length l.fn.buffer.items) l.len;
}

abbrev pub decreases-loop-reader : goal.decreases-loop-reader
decreases-loop-reader g l = l.len - length l.buffer.items
