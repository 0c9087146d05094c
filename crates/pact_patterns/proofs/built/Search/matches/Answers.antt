use Rattle.std.proofs.Common.{◌∙◌, is_some, ap, arith}
use Rattle.regex.specs.Patterns.{find_str}
use Rattle.pact_patterns.proofs.GrammarLemmas.{find_str-pattern_of}
use Rattle.pact_patterns.proofs.built.Search.matches.Goals as goal

pub returns : goal.returns
returns c =
    let regex = c.self.inside.regex.now in
    c.is_match.ensures.found ∙ ap (λ re. is_some (find_str re c.args.text.now 0)) c.self.invariant.1.1.0
    ∙ find_str-pattern_of regex c.args.self.now c.args.text.now c.self.view_is c.self.invariant.0 c.self.invariant.1.0 (λ k. omega (arith, c.type_inv.text k))
