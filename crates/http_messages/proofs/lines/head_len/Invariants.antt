use Rattle.std.proofs.Common.{◌≡◌, ◌-◌, ◌≤◌, length, take, drop}
use Rattle.http_messages.{specs.Lines.{head_text}, proofs.LinesLemmas.{following, rest_text}}
use Rattle.http_messages.proofs.lines.head_len.Given as goal

-- the head text is the lines so far and what the other lines make of it
abbrev pub invariant-loop-len : goal.invariant-loop-len
invariant-loop-len l = record {
  within : l.end ≤ length l.bytes;
  rest : head_text l.bytes ≡ following (take l.end l.bytes) (rest_text l.started (drop l.end l.bytes));
}

abbrev pub decreases-loop-len : goal.decreases-loop-len
decreases-loop-len l = length l.bytes - l.end
