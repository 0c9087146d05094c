use Rattle.command_facts.proofs.PatternRefusals.{AreKnown-not_if_unknown, IsPatternAsked-of_used}
use Rattle.command_facts.proofs.checking.compare_pact.Goals as goal

pub returns-in-Err-UnknownInteraction : goal.returns-in-Err-UnknownInteraction
returns-in-Err-UnknownInteraction c = λ text normal. (
  c.args.pact.now,
  normal,
  AreKnown-not_if_unknown c.args.pact.now.interactions c.args.replies.now c.in-Err-UnknownInteraction.field-0-0
      (c.in-Err-UnknownInteraction.ensures.unknown c.in-Err-UnknownInteraction.field-0-0 c.in-Err-UnknownInteraction.field-0-is),
)

pub returns-in-Err-Pattern : goal.returns-in-Err-Pattern
returns-in-Err-Pattern c = λ text normal. IsPatternAsked-of_used text c.args.pact.now c.args.replies.now normal (c.in-Err-Pattern.ensures.pattern c.in-Err-Pattern.field-0-is)
