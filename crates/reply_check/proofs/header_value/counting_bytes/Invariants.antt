use Rattle.std.proofs.Common.{◌≡◌, ◌++◌, true, drop}
use Rattle.reply_check.proofs.ValueLemmas.{kept}
use Rattle.reply_check.proofs.header_value.counting_bytes.Given as goal

abbrev pub invariant-loop-byte : goal.invariant-loop-byte
invariant-loop-byte l = l.kept.items ++ kept l.begins (drop l.byte-index l.byte-items) ≡ kept true l.byte-items
