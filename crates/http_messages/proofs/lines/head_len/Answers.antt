use Rattle.std.proofs.{Common.{◌≡◌, ◌+◌, ◌-◌, ℕ, Bool, List, length-drop, take, drop, ap, sym, ◌∙◌, arith}, lemmas.List.{take_rest}}
use Rattle.std.proofs.Math.Nat.{add-sub_cancel_left}
use Rattle.http_messages.{specs.Lines.{is_empty_line}, proofs.LinesLemmas.{head_text-over_full_line, head_text-over_empty_line, head_text-at_last_line}}
use Rattle.http_messages.proofs.lines.head_len.Goals as goal

-- what the code calls the line is the line
line_reports : (all : List ℕ) (end n : ℕ) (returned b : Bool) → returned ≡ is_empty_line (take (end + n - end) (drop end all)) → returned ≡ b → is_empty_line (take n (drop end all)) ≡ b
line_reports all end n returned b is was = ap (λ k. is_empty_line (take k (drop end all))) (sym (add-sub_cancel_left end n)) ∙ sym is ∙ was

pub loop-len-preserved-then-not-is_empty_line : goal.loop-len-preserved-then-not-is_empty_line
loop-len-preserved-then-not-is_empty_line c =
    let all = c.args.bytes.now in
    let end = c.loop-len.end in
    record {
      within = omega (arith, c.in-Some.ensures.within, rw (take_rest all end) at c.in-Some.ensures.within, length-drop end all);
      rest = head_text-over_full_line all end c.in-Some.len (rw (take_rest all end) at c.in-Some.ensures.found) _
          (line_reports all end c.in-Some.len _ _ c.is_empty_line.ensures c.if-not-is_empty_line.true) c.loop-len.invariant.rest;
    }

pub returns-then-started-clause-found : goal.returns-then-started-clause-found
returns-then-started-clause-found c =
    let all = c.args.bytes.now in
    let end = c.loop-len.end in
    head_text-at_last_line all end c.in-Some.len (rw (take_rest all end) at c.in-Some.ensures.found) _ c.if-started.true
    (line_reports all end c.in-Some.len _ _ c.is_empty_line.ensures c.if-not-is_empty_line.false) c.loop-len.invariant.rest

pub loop-len-preserved : goal.loop-len-preserved
loop-len-preserved c =
    let all = c.args.bytes.now in
    let end = c.loop-len.end in
    record {
      within = omega (arith, c.in-Some.ensures.within, rw (take_rest all end) at c.in-Some.ensures.within, length-drop end all);
      rest = head_text-over_empty_line all end c.in-Some.len (rw (take_rest all end) at c.in-Some.ensures.found) _ c.if-started.false
          (line_reports all end c.in-Some.len _ _ c.is_empty_line.ensures c.if-not-is_empty_line.false) c.loop-len.invariant.rest;
    }
