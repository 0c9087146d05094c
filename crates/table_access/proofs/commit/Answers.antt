use Rattle.std.proofs.Common.{◌≤◌, inl, inr, Ok, Err, Result, arith}
use Rattle.sqlite.specs.{Held.{state}, State.{State, HasCleanDisk}}
use Rattle.table_access.specs.{Calls.{HasFailed}, Unit.{ReportsRollback}, declared.StoreFault.{StoreFault}}
use Rattle.table_access.proofs.{CallLemmas.{KeepsLastCommit-trans, IsLeft-KeepsLastCommit}, RefusedEnds.{HasFailed-then_IsIdle}}
use Rattle.table_access.proofs.commit.Goals as goal

-- a rollback after a failure that ended the transaction finds none
still_failed : (a b c : State) (f : StoreFault) (r : Result (Unit {0}) StoreFault) → HasFailed a b f → b.faults ≤ c.faults → ReportsRollback b c r → HasFailed a c f
still_failed a b c f (Ok u) failed up (inl idle) = HasFailed-then_IsIdle a b c f failed up idle
still_failed a b c f (Ok u) failed up (inr back) = absurd (let clash = failed.over in let inside = back.0 in cc)
still_failed a b c f (Err e) failed up refused = absurd (let clash = failed.over in let inside = refused.1.0 in cc)

pub returns-in-Err-clause-refused : goal.returns-in-Err-clause-refused
returns-in-Err-clause-refused g c clean =
    let mid_clean : HasCleanDisk (state g.S.Store c.run_commit.new.conn) = omega (arith, c.rollback.ensures.survives.clean, clean) in
    let why = c.in-Err.ensures.cause mid_clean in (
      KeepsLastCommit-trans _ _ _ (IsLeft-KeepsLastCommit _ _ (c.in-Err.ensures.refused mid_clean)) (c.rollback.ensures.commit clean),
      c.rollback.ensures.over clean,
      record {
        tried = c.run_commit.new.conn;
        ran = why.0;
        survives = c.run_commit.ensures.survives;
        over = c.rollback.ensures.survives;
        failed = λ inside. elim why.1 [
          | inl failed ↦ still_failed _ _ _ _ c.rollback.result failed c.rollback.ensures.survives.counts (c.rollback.ensures.reports clean)
          | inr outside ↦ absurd (let clash = outside in cc)
        ];
      },
    )
