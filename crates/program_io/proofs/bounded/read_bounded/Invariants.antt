use Rattle.std.proofs.Common.{◌≤◌, [], length}
use Rattle.http_messages.specs.Reading.{Gains}
use Rattle.program_io.proofs.bounded.read_bounded.Given as goal

-- the bytes are what was read, and no more than may be read
abbrev pub invariant-loop : goal.invariant-loop
invariant-loop g l =
    Gains (g.R.Read.remaining l.fn.input) (g.R.Read.remaining l.input) [] l.bytes.items × (length l.bytes.items ≤ 1048577)
