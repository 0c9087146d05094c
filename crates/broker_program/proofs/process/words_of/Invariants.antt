use Rattle.std.proofs.Common.{◌≡◌, ◌++◌, drop, map, string_bytes}
use Rattle.command_line.specs.Lines.{texts_of}
use Rattle.broker_program.proofs.process.words_of.Given as goal

abbrev pub invariant-loop-text : goal.invariant-loop-text
invariant-loop-text l = texts_of l.words.items ++ map string_bytes (drop l.text-index l.texts) ≡ map string_bytes l.texts
