use Rattle.std.proofs.Common.{true}
use Rattle.pact_rules.specs.{Gathered.{joined, plain_hold}, Matching.{holds}, Rules.{regex}}
use Rattle.pact_rules.proofs.gathered.Gathered.without_repetition.Goals as goal

pub returns-clause-says : goal.returns-clause-says
returns-clause-says c = λ x y own i.
    joined c.args.any (plain_hold c.args.any c.args.self x y own)
    (joined c.args.any (c.in_ok-distinct_parts.ensures x y own i) (c.in_ok-distinct.ensures c.args.any (λ t. holds (regex t) x y own) i))

pub returns-clause-patterns : goal.returns-clause-patterns
returns-clause-patterns c = c.in_ok-distinct.ensures true (λ t. true)
