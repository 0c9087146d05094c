use Rattle.std.proofs.Common.{◌≡◌, ◌++◌}
use Rattle.percent_encoding.specs.{Iter.{decoded_bytes}, Percent.{percent_decode}}
use Rattle.http_requests.proofs.names.decoded.Given as goal

-- the bytes so far, and those that are left
abbrev pub invariant-loop-byte : goal.invariant-loop-byte
invariant-loop-byte l = l.bytes.items ++ decoded_bytes l.byte-iterator ≡ percent_decode l.segment
