use Rattle.std.proofs.Common.{rules, ◌≡◌, ◌+◌, ◌++◌, [], ◌∷◌, ℕ, Vec, Global, sym, ap, ◌∙◌, subst, arith}
use Rattle.pact_rules.specs.declared.matching.MatchFault.TheVariants.{Pattern}
use Rattle.reply_check.{specs.Verdicts.{UsesPattern}, proofs.Deciding.{IsTrue-false_refutes}}
use Rattle.reply_check.proofs.VerdictLemmas.{IsSoFar, one_passes, one_fails, IsSoFar-whole, slice_get-of_get_or, UsesPattern-of_get_or}
use Rattle.reply_check.proofs.checking.failing_indices.Goals.{then-not-branch+in_ok-push, else-not-branch}
use Rattle.reply_check.proofs.checking.failing_indices.Goals as goal

pub returns-in_err-passes-clause-pattern : goal.returns-in_err-passes-clause-pattern
returns-in_err-passes-clause-pattern c =
    let xs = c.args.interactions.now in
    let rs = c.args.replies.now in
    let found : c.in_err-passes.field-0.0 ≡ Pattern → UsesPattern xs rs = λ e. UsesPattern-of_get_or xs rs c.loop-index.index c.index-interactions-index.result (omega arith) c.index-interactions-index.is (c.in_err-passes.ensures.pattern e) in
    search (rules, found)

pub loop-index-preserved : goal.loop-index-preserved
loop-index-preserved c =
    let xs = c.args.interactions.now in
    let rs = c.args.replies.now in
    let l = c.loop-index in
    let x = c.index-interactions-index.result in
    let is_present = slice_get-of_get_or xs l.index x (omega arith) c.index-interactions-index.is in
    elim c.if-not-branch.branch [
      | then-not-branch+in_ok-push w ↦
          let e : c.if-not-branch.failing.items ≡ l.failing.items ++ l.index ∷ [] = ap (λ (v : Vec ℕ Global). v.items) w.failing-is ∙ w.in_ok-push.ensures.items in
          subst (λ ps. IsSoFar xs rs (l.index + 1) ps) (sym e) (one_fails xs rs l.index x l.failing.items is_present l.invariant (IsTrue-false_refutes c.in_ok-passes.field-0 w.if-not-branch.true c.in_ok-passes.ensures.value))
      | else-not-branch w ↦
          let e : c.if-not-branch.failing.items ≡ l.failing.items = ap (λ (v : Vec ℕ Global). v.items) w.failing-is in
          subst (λ ps. IsSoFar xs rs (l.index + 1) ps) (sym e) (one_passes xs rs l.index x l.failing.items is_present l.invariant (c.in_ok-passes.ensures.value.0 w.if-not-branch.false))
    ]

pub returns-clause-indices : goal.returns-clause-indices
returns-clause-indices c = IsSoFar-whole c.args.interactions.now c.args.replies.now c.loop-index.index c.loop-index.failing.items (omega arith) c.loop-index.invariant
