use Rattle.std.specs.Prelude.{codes, if◌then◌else◌}
use Rattle.std.proofs.Common.{◌≡◌, ◌∷◌, [], ℕ, Bool, true, false, Some, refl, sym, subst, ap, ◌∙◌, ◌≤◌, ◌^◌, List, length}
use Rattle.broker_core.specs.{Change.{release as released, already, done}, State.{State}, Text.{Text, put_at, same_pair, same_text, same_version}}
use Rattle.broker_core.specs.{declared.answer.Detail.TheVariants.{Plain}, declared.command.Version.{Version}}
use Rattle.broker_tables.specs.Numbers.{number_of}
use Rattle.deploy_tables.specs.{Deployments.{IsEnvironment}, Releases.{FindsReleased}}
use Rattle.command_facts.proofs.CarryLemmas.{CarriesBetween-query_change_from, CarriesBetween-query_answer}
use Rattle.environment_commands.proofs.release.record_release.Goals as goal

-- the state in which the version is released there
abbrev next : State → Text → Version → State
next s e v = record s { released = put_at (same_pair same_text same_version) s.released (e, v) true }

-- whether it was found says whether it is released there
is_present : (s : State) (e : Text) (v : Version) (number : ℕ) (stood b : Bool) (f : Text) → f ≡ e → number_of s.versions v ≡ Some number → FindsReleased f number stood s → stood ≡ b → s.released (e, v) ≡ b
is_present s e v number stood b f env is found was = sym (found.0 v is ∙ (λ i. s.released (env i, v))) ∙ was

-- and if it isn't released there yet, it is now
releases : (s : State) (e : Text) (v : Version) (b : Bool) → s.released (e, v) ≡ b → (if b then already s else done (next s e v)) ≡ released s e v
releases s e v b is = sym (ap (λ (b : Bool). if b then already s else done (next s e v)) is)

pub returns-then-value-clause-carries : goal.returns-then-value-clause-carries
returns-then-value-clause-carries g c = CarriesBetween-query_answer (λ s number returned. releases s _ _ true (is_present s _ _ c.args.number c.in-Ok.value true _ c.as_str.ensures number returned c.if-value.true)) c.in-Ok.ensures

pub returns-clause-carries : goal.returns-clause-carries
returns-clause-carries g c =
    let e = c.args.environment.now in
    let v = c.args.version.now in
    CarriesBetween-query_change_from (codes "released" ∷ []) (refl, tt)
    (λ s number returned.
    let free = is_present s e v c.args.number c.in-Ok.value false _ c.as_str.ensures number returned c.if-value.false in
    (next s e v, (v, number, (λ i. s.released (c.as_str-2.ensures i, v)) ∙ free, λ i. next s (sym c.as_str-2.ensures i) v), releases s e v false free))
    (λ s there returned.
    let free = is_present s e v c.args.number c.in-Ok.value false _ c.as_str.ensures there.1 returned c.if-value.false in
    ((subst (λ (t : Text). IsEnvironment t s) (sym c.as_str-2.ensures) there.0, (v, there.1, (λ i. s.released (c.as_str-2.ensures i, v)) ∙ free)), (Plain, next s e v, releases s e v false free)))
    (λ long are. long (subst (λ (t : List ℕ). length t ≤ 10 ^ 7) (sym c.as_str-2.ensures) are.0, tt))
    c.returned.ensures c.in-Ok.ensures c.record_released.ensures.changes c.record_released.ensures.failure
