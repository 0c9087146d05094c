use Rattle.std.proofs.Common.{◌∙◌, string_bytes, sym}
use Rattle.pact_rules.proofs.GatheredLemmas.{judged-permutation}
use Rattle.pact_rules.proofs.gathered.distinct.Goals as goal

pub returns : goal.returns
returns c = λ any test.
    c.in_ok-without_neighbours.ensures any test ∙ sym (judged-permutation any (λ s. test (string_bytes s)) c.args.texts.items c.sort_unstable.new.self.items c.sort_unstable.ensures.permutation)
