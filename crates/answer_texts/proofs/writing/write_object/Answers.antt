use Rattle.std.{specs.List.{flat_map}, proofs.Common.{◌+◌, ◌∷◌, [], take, arith}}
use Rattle.json.specs.Token.{begin_object, end_object, key}
use Rattle.answer_texts.specs.{Data.{object_of}, Tokens.{tokens_of}}
use Rattle.answer_texts.proofs.TokenLemmas.{Adds-token, Adds-trans, Adds-more, Adds-last, member_tokens, flat_map-take_next, tokens_of-object_of}
use Rattle.answer_texts.proofs.writing.write_object.Goals as goal

pub loop-key-init : goal.loop-key-init
loop-key-init g c = Adds-token _ _ _ begin_object c.in_ok-begin_object.ensures

pub loop-key-preserved : goal.loop-key-preserved
loop-key-preserved g c =
    let each = g.T.ToJson.as_json in
    let members = c.args.members.now in
    let i = c.loop-key.key-index in
    let m = c.loop-key-item.result in
    Adds-more (begin_object ∷ flat_map (member_tokens each) (take i members)) (member_tokens each m) (begin_object ∷ flat_map (member_tokens each) (take (i + 1) members)) _ _ _
    (flat_map-take_next (member_tokens each) (begin_object ∷ []) members i m c.loop-key-test.true c.loop-key-item.is) c.loop-key.invariant
    (Adds-trans (key m.0.now ∷ []) (tokens_of (each m.1)) _ _ _ (Adds-token _ _ _ (key m.0.now) c.in_ok-key.ensures) c.in_ok-write.ensures)

pub returns : goal.returns
returns g c =
    let each = g.T.ToJson.as_json in
    let members = c.args.members.now in
    let i = c.loop-key.key-index in
    Adds-last c.end_object.result (begin_object ∷ flat_map (member_tokens each) (take i members)) (end_object ∷ []) (tokens_of (object_of each members)) _ _ _
    (tokens_of-object_of each members i (omega arith)) c.loop-key.invariant (Adds-token _ _ _ end_object c.end_object.ensures)
