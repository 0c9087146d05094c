use Rattle.std.{specs.List.{list_any}, proofs.Common.{◌≡◌, ◌||◌, Bool, map, drop}}
use Rattle.serde_json.specs.Data.{Data}
use Rattle.pact_rules.specs.{Gathered.{joined, judged, gathered_hold, has_pattern}, Matching.{holds}, MatcherView.{matcher_view}, Rules.{is_regex}}
use Rattle.pact_rules.proofs.gathered.all_of.Given as goal

-- what was gathered, with what is left, says the whole
abbrev pub invariant-loop-matcher : goal.invariant-loop-matcher
invariant-loop-matcher l =
    let left = map matcher_view (drop l.matcher-index l.matcher-items) in
    let all = map matcher_view l.matchers.items in record {
      says : (any : Bool) (x y : Data) (own : Bool)
          → joined any (gathered_hold any l.all x y own) (judged any (λ m. holds m x y own) left) ≡ judged any (λ m. holds m x y own) all;
      patterns : (has_pattern l.all || list_any is_regex left) ≡ list_any is_regex all;
    }
