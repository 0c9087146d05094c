use Rattle.std.proofs.{Common.{◌≡◌, ◌⊎◌, refl, ap, inl, inr}, lemmas.Result.{IfErr-weaker, IfOk-weaker, on_err_weaker}}
use Rattle.broker_program.proofs.commands.carry_out.Goals as goal

pub returns-in-Ok-init-clause-ends : goal.returns-in-Ok-init-clause-ends
returns-in-Ok-init-clause-ends g c =
    rw c.in-Init.is (refl, c.in-Ok-init.ensures.token, (refl, refl), c.in-Ok-init.ensures.made)

pub returns-clause-ends : goal.returns-clause-ends
returns-clause-ends g c = IfOk-weaker c.ask.result.0 _ _ (λ permitted asks. rw c.in-CanIDeploy.is (refl, asks)) c.ask.ensures.ok

-- nothing was written, by what the writer has taken
taken : {X Y P : Type 0} (f : X → Y) (x y : X) → (x ≡ y) ⊎ P → (f x ≡ f y) ⊎ P
taken f x y (inl e) = inl (ap f e)
taken f x y (inr p) = inr p

pub returns-clause-fails : goal.returns-clause-fails
returns-clause-fails g c =
    on_err_weaker c.ask.result.0 (λ fails. rw c.in-CanIDeploy.is (refl, taken g.W.Write.contents _ _ fails)) c.ask.ensures.err

pub returns-in-Init-clause-cause : goal.returns-in-Init-clause-cause
returns-in-Init-clause-cause g c = rw c.in-Init.is c.in-Err-init.ensures.cause

pub returns-clause-cause : goal.returns-clause-cause
returns-clause-cause g c = IfErr-weaker c.ask.result.0 _ _ (λ fault fails. rw c.in-CanIDeploy.is fails) c.ask.ensures.cause
