use Rattle.std.proofs.{Common.{inl, inr, sym, subst, ◌∙◌, length, take, rules, w64}, lemmas.Int.{to_z-of_z}, lemmas.List.{take_more}}
use Rattle.sqlite_rules.specs.Lists.{Has}
use Rattle.table_access.proofs.{Members.{has_either}, ReadLemmas.{get_or-has}}
use Rattle.table_audit.proofs.judging.first_breaking.Goals as goal

pub returns-then-not-branch : goal.returns-then-not-branch
returns-then-not-branch g c =
    let rows = c.args.rows.now in
    let row = c.row-item.result in (
      row,
      subst (Has rows) (sym c.row-item.is) (get_or-has rows c.loop-row.row-index row c.loop-row-test.true),
      sym c.row_number.ensures ∙ sym (to_z-of_z w64 c.row_number.result (search rules)),
      λ keeps. absurd (let e = sym (c.in_ok-keeps.ensures.1 keeps) ∙ c.if-not-branch.true in cc),
    )

pub loop-row-preserved : goal.loop-row-preserved
loop-row-preserved g c r has =
    let rows = c.args.rows.now in
    let row = c.row-item.result in
    let at = c.loop-row.row-index in
    let next = take_more rows at row c.loop-row-test.true in
    let kept = g.R.RowRule.Keeps (length rows) in
    elim (has_either (take at rows) _ r (subst (λ rs. Has rs r) next has)) [
      | inl before ↦ c.loop-row.invariant r before
      | inr (inl here) ↦ subst kept (sym (here ∙ sym c.row-item.is)) (c.in_ok-keeps.ensures.0 c.if-not-branch.false)
      | inr (inr none) ↦ absurd none
    ]
