use Rattle.std.proofs.Common.{length, ap, ◌∙◌}
use Rattle.http_responses.proofs.HeadLemmas.{code_digits-decimal}
use Rattle.http_responses.proofs.head.digits.Goals as goal

pub returns-clause-text : goal.returns-clause-text
returns-clause-text c = c.as_str.ensures ∙ code_digits-decimal c.args.status c.requires

pub returns-clause-len : goal.returns-clause-len
returns-clause-len c = ap length c.as_str.ensures
