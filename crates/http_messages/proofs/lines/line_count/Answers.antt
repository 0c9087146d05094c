use Rattle.std.proofs.{Common.{◌≡◌, ◌+◌, ℕ, suc, false, List, ◌∷◌, length, length-drop, take, drop, ap, sym, ◌∙◌, arith}, lemmas.List.{take_rest, drop-drop}}
use Rattle.std.proofs.Math.Nat.{add-sub_cancel_left}
use Rattle.http_messages.specs.Lines.{lines_of, from_first, is_empty_line}
use Rattle.http_messages.proofs.lines.line_count.Goals.{then-count-gt0-via-then-count-gt0, then-count-gt0-via-else-count-gt0+then-not-is_empty_line}
use Rattle.http_messages.proofs.lines.line_count.Goals as goal

module _ (all : List ℕ) (end n : ℕ) (first : lines_of (drop end all) ≡ take n (drop end all) ∷ lines_of (drop n (drop end all))) where
  -- one line less
  one_less : length (lines_of (drop end all)) ≡ suc (length (lines_of (drop (end + n) all)))
  one_less = ap length first ∙ ap (λ rest. suc (length (lines_of rest))) (drop-drop n end all)

  -- a first line that isn't empty
  first_full : is_empty_line (take n (drop end all)) ≡ false → from_first (lines_of (drop end all)) ≡ lines_of (drop end all)
  first_full full = ap from_first first ∙ rw full (sym first)

pub loop-len-preserved-in-Some : goal.loop-len-preserved-in-Some
loop-len-preserved-in-Some c =
    let all = c.args.bytes.now in
    let end = c.loop-len.end in
    let n = c.in-Some.len in
    let found = rw (take_rest all end) at c.in-Some.ensures.found in
    let within = rw (take_rest all end) at c.in-Some.ensures.within in
    let less = one_less all end n found in
    record {
      within = omega (arith, within, length-drop end all, c.loop-len.invariant.within);
      few = omega (arith, within, c.loop-len.invariant.few);
      blank = λ none. absurd (omega (arith, none));
      full = λ _. elim c.then-count-gt0.branch [
        | then-count-gt0-via-then-count-gt0 w ↦ omega (arith, c.loop-len.invariant.full w.if-count-gt0.true, less)
        | then-count-gt0-via-else-count-gt0+then-not-is_empty_line w ↦
            let none : c.loop-len.count ≡ 0 = omega (arith, w.if-count-gt0.false) in
            let full = ap (λ k. is_empty_line (take k (drop end all))) (sym (add-sub_cancel_left end n)) ∙ sym w.is_empty_line.ensures ∙ w.if-not-is_empty_line.true in
            let same = ap length (c.loop-len.invariant.blank none ∙ first_full all end n found full) in
            omega (arith, same, less, none)
      ];
    }
