use Rattle.std.{specs.List.{flat_map}, proofs.Common.{◌∷◌, take}}
use Rattle.json.specs.Token.{begin_object}
use Rattle.answer_texts.{specs.Tokens.{Adds}, proofs.TokenLemmas.{member_tokens}}
use Rattle.answer_texts.proofs.writing.write_object.Given as goal

-- the members so far
abbrev pub invariant-loop-key : goal.invariant-loop-key
invariant-loop-key g l = Adds (begin_object ∷ flat_map (member_tokens g.T.ToJson.as_json) (take l.key-index l.members)) l.fn.out l.out
