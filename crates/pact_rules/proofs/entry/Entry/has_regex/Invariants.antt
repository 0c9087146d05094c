use Rattle.std.{specs.List.{list_any}, proofs.Common.{◌≡◌, drop, map}}
use Rattle.pact_rules.specs.{Rules.{is_regex}, RuleViews.{matcher_view}}
use Rattle.pact_rules.proofs.entry.Entry.has_regex.Given as goal

-- there is a pattern if and only if there is one among the matchers that are left
abbrev pub invariant-loop-matcher : goal.invariant-loop-matcher
invariant-loop-matcher l =
    list_any is_regex (map matcher_view l.self.matchers.items) ≡ list_any is_regex (map matcher_view (drop l.matcher-index l.matcher-items))
