use Rattle.std.proofs.Common.{◌≡◌, true, false, sym, ap, ◌∙◌}
use Rattle.sqlite.specs.Held.{state}
use Rattle.worked_examples.{specs.Deploying.{is_accepted}, proofs.Deployed.{is_accepted-is_step, IsTrue-of_not_false, done, refused}}
use Rattle.worked_examples.proofs.deploying.deploy.Goals as goal

pub returns-then-is_accepted : goal.returns-then-is_accepted
returns-then-is_accepted g c = λ clean runs going s held e v instance is.
    let accepted : is_accepted c.apply-answer.result ≡ true = sym (ap is_accepted c.answer-2.ensures) ∙ (sym c.is_accepted.ensures ∙ c.if-is_accepted.true) in
    done (state g.S.Store) s c.args.token.now e v instance c.apply-answer.result c.apply-answer.new.self
    (c.apply-answer.ensures.deployments clean runs (is_accepted-is_step _ accepted) s held e v instance is) accepted

pub returns : goal.returns
returns g c = λ clean runs going s held e v instance is.
    let other : is_accepted c.apply-answer.result ≡ false = sym (ap is_accepted c.answer-2.ensures) ∙ (sym c.is_accepted.ensures ∙ c.if-is_accepted.false) in
    refused (state g.S.Store) s c.args.token.now e v instance c.apply-answer.result c.apply-answer.new.self
    (c.apply-answer.ensures.deployments clean runs (IsTrue-of_not_false _ going) s held e v instance is) other
