use Rattle.std.proofs.{Common.{◌≡◌, ◌↔◌, IsTrue, length, arith, sym, subst}, lemmas.Bool.{leb-true}}
use Rattle.sqlite_schema.specs.Code.{term_in}
use Rattle.broker_database.specs.{Catalog.{check_of}, declared.catalog.Check.{Check}}
use Rattle.broker_database.proofs.CheckLemmas.{term_in-is_number, term_in-is_truth, term_in-not_truth_short}
use Rattle.broker_database.proofs.catalog.is_check.Goals as goal

pub returns-then-nodes-ge2 : goal.returns-then-nodes-ge2
returns-then-nodes-ge2 c =
    let same = term_in-is_number c.args.nodes.now c.args.root c.in-One.place c.if-nodes-ge2.true in
    let by = c.is_equal_at.ensures in
    subst (λ (check : Check). IsTrue c.is_equal_at.result ↔ (term_in c.args.nodes.now c.args.root ≡ check_of check)) (sym c.in-One.is)
    (λ is. same.0 (by.0 is), λ is. by.1 (same.1 is))

pub returns-then-nodes-ge3 : goal.returns-then-nodes-ge3
returns-then-nodes-ge3 c =
    let same = term_in-is_truth c.args.nodes.now c.args.root c.in-Truth.place c.if-nodes-ge3.true in
    let by = c.is_truth_at.ensures in
    subst (λ (check : Check). IsTrue c.is_truth_at.result ↔ (term_in c.args.nodes.now c.args.root ≡ check_of check)) (sym c.in-Truth.is)
    (λ is. same.0 (by.0 is), λ is. by.1 (same.1 is))

pub returns-else-nodes-ge3 : goal.returns-else-nodes-ge3
returns-else-nodes-ge3 c =
    (λ is. absurd (omega (arith, leb-true 3 (length c.args.nodes.now) is, c.if-nodes-ge3.false)), λ is. absurd (term_in-not_truth_short c.args.nodes.now c.args.root c.in-Truth.place c.if-nodes-ge3.false (subst (λ (check : Check). term_in c.args.nodes.now c.args.root ≡ check_of check) c.in-Truth.is is)))
