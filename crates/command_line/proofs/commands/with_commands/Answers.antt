use Rattle.std.{specs.Prelude.{fold}, proofs.{Common.{◌+◌, ◌∙◌, ap, sym, drop, map}, lemmas.List.{at_drop_more, drop_all}}}
use Rattle.clap.specs.Words.{App, app_of, with_subcommand}
use Rattle.command_line.{specs.Lines.{command_named, with_command}, proofs.LineLemmas.{is_plain-command_named, is_simple-no_globals}}
use Rattle.command_line.proofs.commands.with_commands.Goals as goal

pub loop-name-preserved : goal.loop-name-preserved
loop-name-preserved c =
    let commands = c.args.commands.now in
    let i = c.loop-name.name-index in
    let command = c.in_ok-command_named.ensures in
    let local = is_simple-no_globals _ _ _ _ (ap (λ (a : App). a.top.is_plain) command ∙ is_plain-command_named _) in
    let added = c.in_ok-program.ensures.shape local ∙ ap (λ (a : App). with_subcommand (app_of c.loop-name.program) a.top) command in
    ap (λ app. fold with_command app (map command_named (drop (i + 1) commands))) added
    ∙ sym (at_drop_more (λ names. fold with_command (app_of c.loop-name.program) (map command_named names)) commands i _ c.loop-name-test.true)
    ∙ c.loop-name.invariant

pub returns : goal.returns
returns c = rw (drop_all c.loop-name.name-index c.args.commands.now c.loop-name-test.false) at c.loop-name.invariant
