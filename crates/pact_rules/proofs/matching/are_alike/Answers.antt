use Rattle.pact_rules.proofs.MatchingLemmas.{are_alike-arrays}
use Rattle.pact_rules.proofs.matching.are_alike.Goals as goal

pub returns-in-Array-Array : goal.returns-in-Array-Array
returns-in-Array-Array c =
    let x = c.in-Array-Array in
    are_alike-arrays c.args.a.now c.args.b.now x.a x.b c.len.result c.len-in-Array-Array.result x.is-0 x.is-1 c.len.ensures c.len-in-Array-Array.ensures
