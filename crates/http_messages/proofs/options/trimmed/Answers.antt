use Rattle.std.proofs.{Common.{◌≡◌, ℕ, ◌≤◌, List, length, reverse, slice_range, sym, ap, ◌∙◌, arith}, lemmas.List.{reverse-reverse}}
use Rattle.httparse.{specs.Grammar.{skip_ows, trim_ows}, proofs.TrimLemmas.{skip_ows_yes, skip_ows_no, slice_first, slice_last, slice_empty}}
use Rattle.http_messages.proofs.options.trimmed.Goals.{then-loop-start-test+else-is_space_or_tab, else-loop-start-test, then-loop-end-test+else-is_space_or_tab-2, else-loop-end-test}
use Rattle.http_messages.proofs.options.trimmed.Goals as goal

pub loop-end-init : goal.loop-end-init
unfolding trim_ows
loop-end-init c =
    let here = slice_range c.args.bytes.now c.loop-start.start (length c.args.bytes.now) in
    let within : (length c.args.bytes.now) ≤ length c.args.bytes.now = omega (arith, c.loop-start.invariant.1) in
    let stays : skip_ows here ≡ here =
    elim c.loop-start-test.branch [
      | then-loop-start-test+else-is_space_or_tab w ↦
          skip_ows_no (slice_first _ _ _ w.loop-start-test.true within) w.if-is_space_or_tab.ensures
      | else-loop-start-test w ↦
          let empty = slice_empty c.args.bytes.now c.loop-start.start (length c.args.bytes.now) (omega (arith, c.loop-start.invariant.0)) within in
          ap skip_ows empty ∙ sym empty
    ] in (
      omega (arith, c.loop-start.invariant.0),
      within,
      ap (λ (t : List ℕ). reverse (skip_ows (reverse t))) (c.loop-start.invariant.2 ∙ stays),
    )

pub loop-end-preserved : goal.loop-end-preserved
loop-end-preserved c =
    let last = slice_last c.args.bytes.now _ _ c.loop-end-test.true c.loop-end.invariant.1 in (
      omega arith,
      omega (arith, c.loop-end.invariant.1),
      c.loop-end.invariant.2 ∙ ap reverse (skip_ows_yes last c.if-is_space_or_tab-2.ensures),
    )

pub returns : goal.returns
returns c =
    let here = slice_range c.args.bytes.now c.loop-start.start c.loop-end.end in
    let stays : skip_ows (reverse here) ≡ reverse here =
    elim c.loop-end-test.branch [
      | then-loop-end-test+else-is_space_or_tab-2 w ↦
          skip_ows_no (slice_last _ _ _ w.loop-end-test.true c.loop-end.invariant.1) w.if-is_space_or_tab-2.ensures
      | else-loop-end-test w ↦
          let empty = slice_empty c.args.bytes.now c.loop-start.start c.loop-end.end (omega (arith, c.loop-end.invariant.0)) c.loop-end.invariant.1 in
          ap (λ (t : List ℕ). skip_ows (reverse t)) empty ∙ sym (ap (λ (t : List ℕ). reverse t) empty)
    ] in
    sym (c.loop-end.invariant.2 ∙ ap reverse stays ∙ reverse-reverse here)
