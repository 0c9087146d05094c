use Rattle.std.proofs.Common.{◌≡◌, drop, map}
use Rattle.command_line.specs.Lines.{command_among, command_named}
use Rattle.command_line.proofs.names.named_by.Given as goal

-- it is one of those that are left, if any
abbrev pub invariant-loop-name : goal.invariant-loop-name
invariant-loop-name l = command_among l.word (map command_named (drop l.name-index l.commands)) ≡ command_among l.word (map command_named l.commands)
