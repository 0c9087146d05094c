use Rattle.std.proofs.{Common.{ℕ, pos, ◌≤◌, ◌^◌, ◌∙◌, ap, option_map, sym, subst, w64, SFits, arith}, lemmas.Int.{to_z-of_z}, lemmas.Result.{IfErr-weaker}}
use Rattle.sqlite.specs.Held.{state}
use Rattle.table_access.{specs.Columns.{text}, proofs.{Answered.{slice_get-has_first}, CallLemmas.{CallsBetween-weaken}}}
use Rattle.broker_core.proofs.Lists.{None-not_Some}
use Rattle.broker_tables.proofs.TableQuery.{Shown-IsShown, Shown-now_same, FailsToTake-explained_text, FailsToTake-no_row_shown}
use Rattle.broker_tables.proofs.QueryLemmas.{FailsOnlyBy-of_cause}
use Rattle.content_store.proofs.{ContentRows.{stored, IsShown-text_in}, Held.{Holds-ContentsBy}, ReadableRows.{EachReads-content_body}}
use Rattle.content_store.proofs.contents.get.Goals as goal

-- a number that fits is below 2^63
is_low : (n : ℕ) → SFits w64 (pos n) → 2 ^ 63 ≤ n → ⊥
is_low n fits high = grind arith

pub returns-in-Ok-clause-call : goal.returns-in-Ok-clause-call
returns-in-Ok-clause-call g c =
    let is = c.in-Ok.ensures.1 in
    let asked = stored _ in
    let same = to_z-of_z w64 c.in-Ok.number (subst (SFits w64) (sym is) c.in-Ok.ensures.0) ∙ is in
    CallsBetween-weaken _ _ c.find_text.result _ _ (λ found h digest texts held. (
      (λ low. h.2 ∙ IsShown-text_in digest _ c.args.number same _ h.0 texts held (Shown-IsShown asked _ _ held.broker h.0 h.1), λ high. absurd (is_low c.args.number c.in-Ok.ensures.0 high)),
      Shown-now_same asked _ _ held.broker h.0 h.1,
    ))
    (rw c.params-to_sql.ensures at c.find_text.ensures.leaves)

pub returns-in-Ok-clause-failure : goal.returns-in-Ok-clause-failure
returns-in-Ok-clause-failure g c =
    let old = state g.S.Store c.args.conn.now in
    let new = state g.S.Store c.find_text.new.conn in
    FailsOnlyBy-of_cause old new c.find_text.result _ _
    (FailsToTake-explained_text (stored _) old new (λ s held readable rows h row head. EachReads-content_body _ _ s held readable rows h row (slice_get-has_first rows row head)))
    (rw c.params-to_sql.ensures at c.find_text.ensures.cause)

-- if there is no such text, no row is shown
pub returns-in-Ok-clause-missing : goal.returns-in-Ok-clause-missing
returns-in-Ok-clause-missing g c clean s at none =
    let is = c.in-Ok.ensures.1 in
    let same = to_z-of_z w64 c.in-Ok.number (subst (SFits w64) (sym is) c.in-Ok.ensures.0) ∙ is in
    IfErr-weaker c.find_text.result _ _ (FailsToTake-no_row_shown (stored _) _ _ s at (λ rows h row head. None-not_Some (text 0 row) (sym none ∙ (
    sym (IsShown-text_in _ _ c.args.number same _ rows s.contents (Holds-ContentsBy _ s at.held) h) ∙ ap (option_map (text 0)) head
    )))) ((rw c.params-to_sql.ensures at c.find_text.ensures.cause) clean)
