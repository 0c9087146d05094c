use Rattle.std.{specs.List.{list_any}, proofs.Common.{◌≡◌, ◌∙◌, ◌||◌, ◌+◌, true, false, length, drop, string_bytes, sym, ap, arith}}
use Rattle.std.proofs.lemmas.List.{drop_all, take_rest}
use Rattle.pact_rules.{specs.Matching.{begins, contains}, proofs.PartLemmas.{contains-list_any_drop}}
use Rattle.pact_rules.proofs.parts.has_one.Goals as goal

pub returns-then-begins_one : goal.returns-then-begins_one
returns-then-begins_one c =
    let xs = c.args.parts.now in
    let t = c.args.text.now in
    let at = c.loop-at.at in
    let size : length c.as_bytes-bytes.result.now ≡ length t = ap length c.as_bytes-bytes.ensures.value in
    let here : list_any (λ s. begins (string_bytes s) (drop at t)) xs ≡ true
    = sym (ap (λ bs. list_any (λ s. begins (string_bytes s) (drop at bs)) xs) c.as_bytes-bytes.ensures.value) ∙ sym (ap (λ r. list_any (λ s. begins (string_bytes s) r) xs) (take_rest c.as_bytes-bytes.result.now at)) ∙ sym c.begins_one.ensures ∙ c.if-begins_one.true in
    sym (c.loop-at.invariant ∙ contains-list_any_drop xs t at (omega (arith, c.loop-at-test.true, size)) ∙ ap (λ r. r || list_any (λ s. contains (string_bytes s) (drop (at + 1) t)) xs) here)

pub loop-at-preserved : goal.loop-at-preserved
loop-at-preserved c =
    let xs = c.args.parts.now in
    let t = c.args.text.now in
    let at = c.loop-at.at in
    let size : length c.as_bytes-bytes.result.now ≡ length t = ap length c.as_bytes-bytes.ensures.value in
    let here : list_any (λ s. begins (string_bytes s) (drop at t)) xs ≡ false
    = sym (ap (λ bs. list_any (λ s. begins (string_bytes s) (drop at bs)) xs) c.as_bytes-bytes.ensures.value) ∙ sym (ap (λ r. list_any (λ s. begins (string_bytes s) r) xs) (take_rest c.as_bytes-bytes.result.now at)) ∙ sym c.begins_one.ensures ∙ c.if-begins_one.false in
    c.loop-at.invariant ∙ contains-list_any_drop xs t at (omega (arith, c.loop-at-test.true, size)) ∙ ap (λ r. r || list_any (λ s. contains (string_bytes s) (drop (at + 1) t)) xs) here

pub returns : goal.returns
returns c =
    let xs = c.args.parts.now in
    let t = c.args.text.now in
    let at = c.loop-at.at in
    let size : length c.as_bytes-bytes.result.now ≡ length t = ap length c.as_bytes-bytes.ensures.value in
    c.begins_one-2.ensures ∙ sym (c.loop-at.invariant ∙ ap (λ bs. list_any (λ s. contains (string_bytes s) bs) xs) (drop_all at t (omega (arith, c.loop-at-test.false, size))))
