use Rattle.std.proofs.Common.{◌≡◌, ◌+◌, ◌-◌, ◌≤◌, ◌<◌, length, drop}
use Rattle.http_messages.specs.Lines.{lines_of, from_first}
use Rattle.http_messages.proofs.lines.line_count.Given as goal

-- the lines so far and those that are left
abbrev pub invariant-loop-len : goal.invariant-loop-len
invariant-loop-len l = record {
  within : l.end ≤ length l.bytes;
  few : l.count ≤ l.end;
  blank : l.count ≡ 0 → from_first (lines_of l.bytes) ≡ from_first (lines_of (drop l.end l.bytes));
  full : 0 < l.count → length (from_first (lines_of l.bytes)) ≡ l.count + length (lines_of (drop l.end l.bytes));
}

abbrev pub decreases-loop-len : goal.decreases-loop-len
decreases-loop-len l = length l.bytes - l.end
