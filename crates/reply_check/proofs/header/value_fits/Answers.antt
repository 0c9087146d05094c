use Rattle.std.{specs.List.{list_any}, proofs.Common.{rules, ◌≡◌, true}}
use Rattle.reply_check.proofs.MeetLemmas.{has_regex-header_entry}
use Rattle.pact_rules.specs.{Rules.{is_regex, has_regex}, RuleViews.{entry_view}}
use Rattle.reply_check.proofs.header.value_fits.Goals as goal

pub returns-in_ok-from_str-in-Some-2-clause-pattern :
    goal.returns-in_ok-from_str-in-Some-2-clause-pattern
returns-in_ok-from_str-in-Some-2-clause-pattern c =
    let found : list_any is_regex (entry_view c.in-Some.entry.now).matchers ≡ true → has_regex c.args.rules.now ≡ true =
    has_regex-header_entry c.args.rules.now c.name.result.now (entry_view c.in-Some.entry.now) c.in-Some.ensures in
    search (rules, found)
