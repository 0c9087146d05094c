use Rattle.std.proofs.Common.{◌≡◌, drop, map}
use Rattle.pact_rules.specs.{Matching.{entry_holds}, RuleViews.{matcher_view}}
use Rattle.serde_json.specs.View.{view}
use Rattle.pact_rules.proofs.entry.Entry.each_holds.Given as goal

-- the entry holds if and only if the entry of the matchers that are left holds
abbrev pub invariant-loop-matcher : goal.invariant-loop-matcher
invariant-loop-matcher l =
    let ms = l.self.matchers.items in
    entry_holds (record { any = l.self.any; matchers = map matcher_view ms }) (view l.expected) (view l.actual) l.own_place
    ≡ entry_holds (record { any = l.self.any; matchers = map matcher_view (drop l.matcher-index ms) }) (view l.expected) (view l.actual) l.own_place
