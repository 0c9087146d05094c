use Rattle.pact_file.{specs.Pact.{interaction_data}, proofs.NormalTexts.{left-joins, left-end, OnOk-pushed}}
use Rattle.std.proofs.Common.{◌++◌, string_bytes, sym, ap, ◌∙◌, arith}
use Rattle.pact_file.proofs.texts.push_interactions.Goals as goal

pub loop-index-preserved : goal.loop-index-preserved
loop-index-preserved c =
    let l = c.loop-index in
    left-joins interaction_data c.args.interactions.now l.index c.index-interactions-index.result (string_bytes l.text) (string_bytes c.push_separated.new.text) c.text.result.now _ (omega arith)
    c.index-interactions-index.is c.text.ensures c.in_ok-push_separated.ensures.first c.in_ok-push_separated.ensures.later l.invariant

pub returns : goal.returns
returns c =
    let l = c.loop-index in
    OnOk-pushed c.push_str.result _ _ _ _ c.push_str.ensures.bytes (ap (λ end. string_bytes l.text ++ end) (sym (left-end interaction_data c.args.interactions.now l.index (omega arith))) ∙ l.invariant)
