use Rattle.std.proofs.Common.{◌∙◌}
use Rattle.answer_texts.{specs.Data.{object_of}, proofs.TokenLemmas.{print-tokens_of}}
use Rattle.answer_texts.proofs.writing.object_text.Goals as goal

pub returns : goal.returns
returns g c = c.finished.ensures ∙ print-tokens_of (object_of g.T.ToJson.as_json c.args.members.now) _ _ c.new-out.ensures.tokens c.in_ok-write_object.ensures
