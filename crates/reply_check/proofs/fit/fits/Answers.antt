use Rattle.std.proofs.{Common.{◌≡◌, ◌∙◌, ◌&&◌, [], sym, ap}, lemmas.Result.{IfOk-weaker}}
use Rattle.serde_json.specs.View.{view}
use Rattle.reply_check.{specs.{Computed.{fits}, Deferred.{deferred_holds}}, proofs.WalkLemmas.{Fits-decided_at_root}}
use Rattle.reply_check.proofs.fit.fits.Goals as goal

pub fits_here-requires-clause-of : goal.fits_here-requires-clause-of
fits_here-requires-clause-of c = c.nothing-deferred.ensures.of c.args.rules.now

pub returns-then-not-branch-clause-value : goal.returns-then-not-branch-clause-value
returns-then-not-branch-clause-value c =
    let rules = c.args.rules.now in
    let x = view c.args.expected.now in
    let y = view c.args.actual.now in
    let new = deferred_holds c.fits_here.new.deferred in
    Fits-decided_at_root rules c.start.ensures.order x y _
    (sym (ap (λ b. b && new) c.if-not-branch.true) ∙ c.in_ok-fits_here.ensures.value [] c.in_ok-alive.ensures.walk ∙ ap (λ a. a && fits rules [] x y) c.nothing-deferred.ensures.holds)

pub returns-clause-value : goal.returns-clause-value
returns-clause-value c =
    let rules = c.args.rules.now in
    let x = view c.args.expected.now in
    let y = view c.args.actual.now in
    let new = deferred_holds c.fits_here.new.deferred in
    let all : new ≡ fits rules [] x y
    = sym (ap (λ b. b && new) c.if-not-branch.false) ∙ c.in_ok-fits_here.ensures.value [] c.in_ok-alive.ensures.walk ∙ ap (λ a. a && fits rules [] x y) c.nothing-deferred.ensures.holds in
    IfOk-weaker c.holds.result _ _ (λ b is. Fits-decided_at_root rules c.start.ensures.order x y b (is ∙ all)) c.holds.ensures.value
