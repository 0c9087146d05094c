use Rattle.std.proofs.Common.{ap, sym}
use Rattle.json.specs.Print.{escape_byte}
use Rattle.answer_texts.{specs.AnswerText.{answer_text}, proofs.Steps.{is_step-only_stopped}}
use Rattle.answer_texts.proofs.constants.fixed_text.Goals as goal

pub returns-in-Pattern : goal.returns-in-Pattern
unfolding escape_byte
returns-in-Pattern c = sym (ap answer_text c.in-Pattern.is)

pub returns-in-Memory : goal.returns-in-Memory
unfolding escape_byte
returns-in-Memory c = sym (ap answer_text c.in-Memory.is)

pub returns-in-Store : goal.returns-in-Store
unfolding escape_byte
returns-in-Store c = sym (ap answer_text c.in-Store.is)

pub returns-in_default : goal.returns-in_default
unfolding escape_byte
returns-in_default c = sym (ap answer_text (is_step-only_stopped c.args.answer.now c.requires c.in_default.not-Pattern c.in_default.not-Memory c.in_default.not-Store))
