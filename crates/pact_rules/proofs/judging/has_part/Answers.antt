use Rattle.std.proofs.lemmas.Str.Pattern.{contains_text}
use Rattle.pact_rules.proofs.MatchingLemmas.{contains-unique}
use Rattle.pact_rules.proofs.judging.has_part.Goals as goal

pub returns : goal.returns
returns c = contains-unique c.contains.result c.args.part.now c.args.text.now (contains_text c.contains.result c.args.part.now c.args.text.now c.contains.ensures.cases)
