use Rattle.std.proofs.Common.{◌≡◌, drop}
use Rattle.broker_names.specs.Name.{are_name_bytes}
use Rattle.broker_names.proofs.name.are_name_bytes.Given as goal

-- what is left answers for all
abbrev pub invariant-loop-byte : goal.invariant-loop-byte
invariant-loop-byte l = are_name_bytes l.text ≡ are_name_bytes (drop l.byte-index l.text)
