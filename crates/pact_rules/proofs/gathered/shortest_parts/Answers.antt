use Rattle.std.{specs.List.{list_any}, proofs.{Common.{◌∙◌, string_bytes, sym, ap}, lemmas.List.Sorted.{list_any-IsPermutation}}}
use Rattle.pact_rules.specs.Matching.{contains}
use Rattle.pact_rules.proofs.gathered.shortest_parts.Goals as goal

pub returns : goal.returns
returns c = λ t.
    c.in_ok-without_longer.ensures t ∙ ap (list_any (λ s. contains (string_bytes s) t)) c.deref.ensures.value
    ∙ sym (list_any-IsPermutation (λ s. contains (string_bytes s) t) c.args.texts.items c.sort_unstable.new.self.items c.sort_unstable.ensures.permutation)
