use Rattle.std.{specs.Prelude.{◌↔◌, IsOkAnd}, proofs.Common.{false, Ok, Err, Result, inl, inr, sym, subst, ◌∙◌, rules, arith, IsTrue}}
use Rattle.std.proofs.lemmas.Result.{IfErr-weaker, IfOk-weaker}
use Rattle.sqlite.specs.{Held.{state}, State.{HasCleanDisk}}
use Rattle.broker_tables.specs.Holds.{IsBroker}
use Rattle.broker_database.proofs.Transaction.{WholeTransaction, Begins-transaction, IfOk-transaction, LeavesNoTransaction-transaction}
use Rattle.broker_database.proofs.StoreFailures.{HasFailed-of_transaction}
use Rattle.table_audit.specs.Audit.{Verdict}
use Rattle.table_audit.proofs.auditing.audit.Goals as goal

IsOkAnd-never : {A E : Type 0} (r : Result A E) → IsTrue false ↔ IsOkAnd r (λ _. ⊥)
IsOkAnd-never (Ok found) = (λ none. absurd (cc), λ none. absurd none)
IsOkAnd-never (Err why) = (λ none. absurd (cc), λ none. absurd none)

pub returns : goal.returns
returns g c =
    let old = state g.S.Store c.args.conn.now in
    let whole : WholeTransaction old _ _ _ _ (λ _. ⊥) c.end.result = record {
      worked = c.verdict-found.result;
      keeps = false;
      begun = c.in-Ok.ensures.begun;
      begins = c.begin.ensures.survives;
      works = c.verdict-found.ensures.call;
      kept = IsOkAnd-never c.verdict-found.result;
      concludes = c.end.ensures;
    } in
    record {
      finds = λ clean broker. IfOk-weaker c.end.result _ _ (λ found it. subst (Verdict found) it.1 (it.2 (subst IsBroker (sym it.1) broker)).0) (IfOk-transaction _ _ _ _ _ _ c.end.result whole clean);
      unchanged = λ clean. search rules;
      failure = λ clean fresh broker is.
          let begun = Begins-transaction _ _ _ _ _ _ c.end.result whole clean in
          let worked : HasCleanDisk (state g.S.Store c.verdict-found.new.conn) = omega (arith, c.end.ensures.ends.survives.clean, clean) in
          elim (HasFailed-of_transaction _ _ _ _ _ _ ⊥ clean c.end.result whole
          (IfErr-weaker c.verdict-found.result _ _ (λ fault why store. elim why [
            | inl failed ↦ inl failed
            | inr memory ↦ absurd (let e = sym memory ∙ store in cc)
          ]) (c.verdict-found.ensures.failure worked begun.1.mode (subst IsBroker (sym begun.1.now_is) broker) (c.begin.ensures.survives.limit ∙ fresh.1)))
          (λ a it never. absurd never) is) [ inl failed ↦ failed | inr never ↦ absurd never ];
      over = LeavesNoTransaction-transaction _ _ _ _ _ _ c.end.result whole;
      survives = search rules;
    }
