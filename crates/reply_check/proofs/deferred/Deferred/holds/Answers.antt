use Rattle.std.proofs.Common.{rules}
use Rattle.pact_rules.specs.RuleViews.{entry_view}
use Rattle.reply_check.{specs.Deferred.{IsOf}, proofs.WalkLemmas.{has_regex-body_entry}}
use Rattle.reply_check.proofs.deferred.Deferred.holds.Goals as goal

pub returns-in_err-deferred_hold-clause-pattern : goal.returns-in_err-deferred_hold-clause-pattern
returns-in_err-deferred_hold-clause-pattern c =
    let r = c.args.rules.now in
    let of : IsOf r c.in-Some.group = search rules in
    let found = has_regex-body_entry r c.in-Some.group.index (entry_view c.in-Some.group.entry.now) of in
    search (rules, found)
