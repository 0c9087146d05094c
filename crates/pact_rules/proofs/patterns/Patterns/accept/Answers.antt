use Rattle.std.proofs.Common.{sym, ap, ◌∙◌, subst}
use Rattle.pact_rules.{specs.Matching.{is_pattern}, proofs.AcceptedPatterns.{AreAccepted, is_pattern-of_accepted, AreAccepted-insert_key}}
use Rattle.pact_rules.proofs.patterns.Patterns.accept.Goals as goal

pub returns-then-contains-clause-read : goal.returns-then-contains-clause-read
returns-then-contains-clause-read c = is_pattern-of_accepted c.args.source.now c.self.inside.sources.keys c.self.invariant (sym c.contains.ensures ∙ c.if-contains.true)

pub invariant_of-self-2 : goal.invariant_of-self-2
invariant_of-self-2 c =
    subst AreAccepted (sym c.in_ok-insert.ensures.keys)
    (AreAccepted-insert_key c.in_ok-from_str.field-0 c.self.inside.sources.keys (ap is_pattern c.in_ok-from_str.ensures.ok ∙ c.in_ok-parts.ensures.read) c.self.invariant)
