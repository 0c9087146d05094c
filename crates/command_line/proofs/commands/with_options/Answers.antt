use Rattle.std.{specs.Prelude.{fold}, proofs.{Common.{◌+◌, ◌∙◌, ap, sym, drop}, lemmas.List.{at_drop_more, drop_all}}}
use Rattle.clap.specs.Words.{app_of, with_rule}
use Rattle.command_line.specs.Lines.{with_option}
use Rattle.command_line.proofs.commands.with_options.Goals as goal

pub loop-option-preserved : goal.loop-option-preserved
loop-option-preserved c =
    let options = c.args.options.now in
    let i = c.loop-option.option-index in
    let added = c.in_ok-command.ensures.shape c.option_arg.ensures.local ∙ ap (with_rule (app_of c.loop-option.command)) c.option_arg.ensures.rule in
    ap (λ app. fold with_option app (drop (i + 1) options)) added
    ∙ sym (at_drop_more (fold with_option (app_of c.loop-option.command)) options i _ c.loop-option-test.true)
    ∙ c.loop-option.invariant

pub returns : goal.returns
returns c =
    rw (drop_all c.loop-option.option-index c.args.options.now c.loop-option-test.false) at c.loop-option.invariant
