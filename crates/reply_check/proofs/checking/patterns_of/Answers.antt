use Rattle.std.proofs.Common.{rules, ◌≡◌, arith}
use Rattle.pact_rules.specs.declared.matching.MatchFault.TheVariants.{Pattern}
use Rattle.reply_check.{specs.Verdicts.{UsesPattern}, proofs.VerdictLemmas.{UsesPattern-of_get_or}}
use Rattle.reply_check.proofs.checking.patterns_of.Goals as goal

pub returns-in_err-build_patterns : goal.returns-in_err-build_patterns
returns-in_err-build_patterns c =
    let xs = c.args.interactions.now in
    let rs = c.args.replies.now in
    let found : c.in_err-build_patterns.field-0.0 ≡ Pattern → UsesPattern xs rs
    = λ e. UsesPattern-of_get_or xs rs c.loop-interaction.interaction-index c.interaction-item.result (omega arith) c.interaction-item.is (c.in_err-build_patterns.ensures e) in
    search (rules, found)
