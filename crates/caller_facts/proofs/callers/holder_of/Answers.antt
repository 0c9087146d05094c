use Rattle.std.proofs.Common.{refl, Option, MatchOption, ◌≡◌, ℕ, List, Some, None, sym, ◌∙◌}
use Rattle.sqlite.specs.Held.{state}
use Rattle.broker_core.specs.{Machine.{IsCallerOfDigest}, declared.policy.Caller.TheVariants.{Office, Team}}
use Rattle.broker_tables.proofs.QueryLemmas.{LooksUpBetween-then_failed, LooksUpBetween-other_answer, LooksUpBetween-from_both}
use Rattle.caller_facts.proofs.CallerLemmas.{IsCallerOfDigest-none}
use Rattle.caller_facts.proofs.callers.holder_of.Goals as goal

pub returns-then-is_same : goal.returns-then-is_same
returns-then-is_same g c =
    LooksUpBetween-other_answer (state g.S.Store c.args.conn.now) (state g.S.Store c.office_digest.new.conn) c.in-Ok.value (Some Office) _ _ (λ s h. sym h ∙ sym c.as_str.ensures.value ∙ c.if-is_same.ensures.same refl) c.in-Ok.ensures.reads

pub returns-in-Some : goal.returns-in-Some
returns-in-Some g c =
    let old = state g.S.Store c.args.conn.now in
    let mid = state g.S.Store c.office_digest.new.conn in
    let new = state g.S.Store c.team_with.new.conn in
    LooksUpBetween-from_both {B = Option (List ℕ)} old mid new c.in-Ok.value (Some c.in-Some.team) (Some (Team c.in-Some.team)) _
    (λ who s. MatchOption who ((t : List ℕ) → ¬ (s.teams t ≡ Some c.args.digest.now)) (λ name. s.teams name ≡ Some c.args.digest.now))
    (λ who s. IsCallerOfDigest s c.args.digest.now who)
    (λ s h q. (λ is. c.if-is_same.ensures.apart refl (c.as_str.ensures.value ∙ h ∙ is), q)) c.in-Ok.ensures.reads (rw c.in-Some.is at c.in-Ok-team_with.ensures)

pub returns : goal.returns
returns g c =
    let old = state g.S.Store c.args.conn.now in
    let mid = state g.S.Store c.office_digest.new.conn in
    let new = state g.S.Store c.team_with.new.conn in
    LooksUpBetween-from_both {B = Option (List ℕ)} old mid new c.in-Ok.value None None _ (λ who s. MatchOption who ((t : List ℕ) → ¬ (s.teams t ≡ Some c.args.digest.now)) (λ name. s.teams name ≡ Some c.args.digest.now)) (λ who s. IsCallerOfDigest s c.args.digest.now who)
    (λ s h q. IsCallerOfDigest-none s c.args.digest.now (λ is. c.if-is_same.ensures.apart refl (c.as_str.ensures.value ∙ h ∙ is)) q) c.in-Ok.ensures.reads (rw c.in-None.is at c.in-Ok-team_with.ensures)

pub returns-in-Err-team_with : goal.returns-in-Err-team_with
returns-in-Err-team_with g c =
    LooksUpBetween-then_failed (state g.S.Store c.args.conn.now) (state g.S.Store c.office_digest.new.conn) (state g.S.Store c.team_with.new.conn) c.in-Ok.value c.in-Err-team_with.fault _ _ _ c.in-Ok.ensures.reads c.in-Err-team_with.ensures
