use Rattle.std.{specs.List.{flat_map}, proofs.Common.{◌+◌, ◌∷◌, [], take, arith}}
use Rattle.json.specs.Token.{begin_array, end_array}
use Rattle.answer_texts.{specs.{Data.{items}, Tokens.{tokens_of}}, proofs.TokenLemmas.{Adds-token, Adds-more, Adds-last, flat_map-take_next, tokens_of-items}}
use Rattle.answer_texts.proofs.writing.write_items.Goals as goal

pub loop-item-init : goal.loop-item-init
loop-item-init g c = Adds-token _ _ _ begin_array c.in_ok-begin_array.ensures

pub loop-item-preserved : goal.loop-item-preserved
loop-item-preserved g c =
    let each = g.T.ToJson.as_json in
    let list = c.args.list.now in
    let i = c.loop-item.item-index in
    let x = c.item-item.result in
    Adds-more (begin_array ∷ flat_map (λ y. tokens_of (each y)) (take i list)) (tokens_of (each x)) (begin_array ∷ flat_map (λ y. tokens_of (each y)) (take (i + 1) list)) _ _ _
    (flat_map-take_next (λ y. tokens_of (each y)) (begin_array ∷ []) list i x c.loop-item-test.true c.item-item.is) c.loop-item.invariant c.in_ok-write.ensures

pub returns : goal.returns
returns g c =
    let each = g.T.ToJson.as_json in
    let list = c.args.list.now in
    let i = c.loop-item.item-index in
    Adds-last c.end_array.result (begin_array ∷ flat_map (λ x. tokens_of (each x)) (take i list)) (end_array ∷ []) (tokens_of (items each list)) _ _ _
    (tokens_of-items each list i (omega arith)) c.loop-item.invariant (Adds-token _ _ _ end_array c.end_array.ensures)
