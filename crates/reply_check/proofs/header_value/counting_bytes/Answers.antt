use Rattle.reply_check.{specs.HeaderValues.{parts_between}, proofs.ValueLemmas.{kept, parts_between-counting_parts}}
use Rattle.std.proofs.{Common.{◌≡◌, ◌++◌, [], true, drop, sym, ap, ◌∙◌, arith, append-nil}, lemmas.List.{drop_all}}
use Rattle.reply_check.proofs.header_value.counting_bytes.Goals as goal

pub returns : goal.returns
returns c =
    let l = c.loop-byte in
    let xs = c.without_end-byte-items.result.now in
    let none : drop l.byte-index xs ≡ [] = drop_all l.byte-index xs (omega arith) in
    let all : l.kept.items ≡ kept true xs = sym (append-nil l.kept.items) ∙ sym (ap (λ r. l.kept.items ++ kept l.begins r) none) ∙ l.invariant in
    ap parts_between all ∙ ap (λ v. parts_between (kept true v)) c.without_end-byte-items.ensures ∙ parts_between-counting_parts c.args.value.now
