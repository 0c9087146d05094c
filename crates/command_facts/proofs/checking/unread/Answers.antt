use Rattle.command_facts.proofs.PatternRefusals.{IsPatternAsked-of_refusal}
use Rattle.command_facts.proofs.checking.unread.Goals as goal

pub returns-then-is_refusal-clause-returned : goal.returns-then-is_refusal-clause-returned
returns-then-is_refusal-clause-returned c = λ text replies reads. IsPatternAsked-of_refusal text replies c.args.fault.now (c.is_refusal.ensures.refusal c.if-is_refusal.true) reads
