use Rattle.std.{specs.List.{flat_map}, proofs.Common.{◌∷◌, take}}
use Rattle.json.specs.Token.{begin_array}
use Rattle.answer_texts.specs.Tokens.{tokens_of, Adds}
use Rattle.answer_texts.proofs.writing.write_items.Given as goal

-- the items so far
abbrev pub invariant-loop-item : goal.invariant-loop-item
invariant-loop-item g l = Adds (begin_array ∷ flat_map (λ x. tokens_of (g.T.ToJson.as_json x)) (take l.item-index l.list)) l.fn.out l.out
