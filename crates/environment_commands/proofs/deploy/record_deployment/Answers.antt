use Rattle.std.specs.Prelude.{codes, if◌then◌else◌}
use Rattle.std.proofs.Common.{◌≡◌, ◌∷◌, [], ℕ, Bool, true, false, Some, refl, sym, subst, ap, ◌∙◌, ◌≤◌, ◌^◌, List, length}
use Rattle.broker_core.specs.{Change.{deploy as deployment, already, done, is_text}, State.{State}, Text.{Text, put_at, same_place}}
use Rattle.broker_core.specs.{declared.answer.Detail.TheVariants.{Plain}, declared.command.Version.{Version}}
use Rattle.broker_tables.specs.Numbers.{number_of}
use Rattle.deploy_tables.specs.Deployments.{FindsDeployed, IsEnvironment}
use Rattle.command_facts.proofs.CarryLemmas.{CarriesBetween-query_change_from, CarriesBetween-query_answer}
use Rattle.environment_commands.proofs.deploy.record_deployment.Goals as goal

-- the state in which the version is deployed there
abbrev next : State → Text → Version → Text → State
next s e v instance = record s { deployed = put_at same_place s.deployed (e, v.pacticipant, instance) (Some v.name) }

-- if it was found nothing is done, and otherwise it is deployed
deploys : (s : State) (e instance : Text) (v : Version) (number : ℕ) (stood b : Bool) (f q : Text) → f ≡ e → q ≡ v.pacticipant → number_of s.versions v ≡ Some number → FindsDeployed f q instance number stood s → stood ≡ b
    → (if b then already s else done (next s e v instance)) ≡ deployment s e v instance
deploys s e instance v number stood b f q env owner is found was =
    let asked : stood ≡ is_text v.name (s.deployed (e, v.pacticipant, instance)) = found.0 v is (sym owner) ∙ (λ i. is_text v.name (s.deployed (env i, owner i, instance))) in
    sym (ap (λ (b : Bool). if b then already s else done (next s e v instance)) (sym asked ∙ was))

pub returns-then-value-clause-carries : goal.returns-then-value-clause-carries
returns-then-value-clause-carries g c = CarriesBetween-query_answer (λ s number returned. deploys s _ _ _ c.args.number c.in-Ok.value true _ _ c.as_str.ensures c.as_str-2.ensures number returned c.if-value.true) c.in-Ok.ensures

pub returns-clause-carries : goal.returns-clause-carries
returns-clause-carries g c =
    let e = c.args.environment.now in
    let v = c.args.version.now in
    let i = c.args.instance.now in
    CarriesBetween-query_change_from (codes "deployed" ∷ []) (refl, tt)
    (λ s number returned. (
      next s e v i,
      (v, number, sym c.as_str-4.ensures, λ j. next s (sym c.as_str-3.ensures j) (record v { pacticipant = sym c.as_str-4.ensures j }) i),
      deploys s e i v c.args.number c.in-Ok.value false _ _ c.as_str.ensures c.as_str-2.ensures number returned c.if-value.false,
    ))
    (λ s there returned. (
      (subst (λ (t : Text). IsEnvironment t s) (sym c.as_str-3.ensures) there.0, (v, there.1, sym c.as_str-4.ensures)),
      (Plain, next s e v i, deploys s e i v c.args.number c.in-Ok.value false _ _ c.as_str.ensures c.as_str-2.ensures there.1 returned c.if-value.false),
    ))
    (λ long are. long (subst (λ (t : List ℕ). length t ≤ 10 ^ 7) (sym c.as_str-3.ensures) are.0, (subst (λ (t : List ℕ). length t ≤ 10 ^ 7) (sym c.as_str-4.ensures) are.1.0, (are.1.1.0, tt))))
    c.returned.ensures c.in-Ok.ensures c.record_deployed.ensures.changes c.record_deployed.ensures.failure
