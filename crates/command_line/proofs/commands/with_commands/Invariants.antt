use Rattle.std.{specs.Prelude.{fold}, proofs.Common.{◌≡◌, drop, map}}
use Rattle.clap.specs.Words.{app_of}
use Rattle.command_line.specs.Lines.{command_named, with_command}
use Rattle.command_line.proofs.commands.with_commands.Given as goal

-- with the commands that are left it has them all
abbrev pub invariant-loop-name : goal.invariant-loop-name
invariant-loop-name l =
    fold with_command (app_of l.program) (map command_named (drop l.name-index l.commands)) ≡ fold with_command (app_of l.fn.plain) (map command_named l.commands)
