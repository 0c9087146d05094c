use Rattle.std.{specs.Prelude.{fold}, proofs.Common.{◌≡◌, drop}}
use Rattle.clap.specs.Words.{app_of}
use Rattle.command_line.specs.Lines.{with_option}
use Rattle.command_line.proofs.commands.with_options.Given as goal

-- with the options that are left it has them all
abbrev pub invariant-loop-option : goal.invariant-loop-option
invariant-loop-option l = fold with_option (app_of l.command) (drop l.option-index l.options) ≡ fold with_option (app_of l.fn.plain) l.options
