use Rattle.std.{specs.Prelude.{if◌then◌else◌}, proofs.Common.{◌≡◌, ℕ, Bool, true, false, Some, sym, ap, ◌∙◌, arith}}
use Rattle.sqlite.specs.Held.{state}
use Rattle.broker_core.specs.{Change.{undeploy as undeployment, done, unchanged_with, is_text}, State.{State}, Text.{Text}}
use Rattle.broker_core.specs.{declared.answer.Answer.TheVariants.{Done, Unknown}, declared.answer.Detail.TheVariants.{Plain}}
use Rattle.broker_core.specs.declared.command.Version.{Version}
use Rattle.broker_tables.{specs.Numbers.{number_of}, proofs.NumberLemmas.{number_of-injective}}
use Rattle.deploy_tables.specs.Deployments.{TakesOutAndReports, without_instance}
use Rattle.command_facts.proofs.PerformLemmas.{PerformsWhereBetween-change_answer}
use Rattle.broker_core.specs.declared.answer.Missing.TheVariants as missing
use Rattle.environment_commands.proofs.undeploy.remove_deployment.Goals as goal

-- the answer says whether it was deployed there
taken : (s t : State) (e f q i : Text) (v : Version) (number : ℕ) (stood b : Bool) → f ≡ e → q ≡ v.pacticipant → number_of s.versions v ≡ Some number → TakesOutAndReports f q i number stood s t → stood ≡ b
    → record { answer = (if b then Done Plain else Unknown missing.Deployed); state = t } ≡ undeployment s e v i
taken s t e f q i v number stood b env owner is took was =
    let after = without_instance s e v.pacticipant i in
    let found : is_text v.name (s.deployed (e, v.pacticipant, i)) ≡ b = sym (took.1 v is (sym owner) ∙ (λ j. is_text v.name (s.deployed (env j, owner j, i)))) ∙ was in
    let left : t ≡ (if b then after else s) =
    took.0.3 ∙ (λ j. if is_text (number_of-injective s.versions took.0.0 v number took.0.1 is j).name (s.deployed (env j, owner j, i)) then without_instance s (env j) (owner j) i else s)
    ∙ ap (λ (b : Bool). if b then after else s) found in
    elim b as (λ b. is_text v.name (s.deployed (e, v.pacticipant, i)) ≡ b → t ≡ (if b then after else s) → record { answer = (if b then Done Plain else Unknown missing.Deployed); state = t } ≡ undeployment s e v i) [
      | true ↦ λ there same. ap done same ∙ sym (ap (λ (b : Bool). if b then done after else unchanged_with s (Unknown missing.Deployed)) there)
      | false ↦ λ there same. ap (λ (u : State). unchanged_with u (Unknown missing.Deployed)) same ∙ sym (ap (λ (b : Bool). if b then done after else unchanged_with s (Unknown missing.Deployed)) there)
    ] found left

pub returns-then-value-clause-answers : goal.returns-then-value-clause-answers
returns-then-value-clause-answers g c =
    let e = c.args.environment.now in
    let v = c.args.version.now in
    PerformsWhereBetween-change_answer 2 (omega arith) (state g.S.Store c.args.conn.now) (state g.S.Store c.take_out.new.conn) c.in-Ok.value (Done Plain) (λ s. number_of s.versions v ≡ Some c.args.number) _ _ (λ s out. out ≡ undeployment s e v c.args.instance.now)
    (λ s number. ((v, number, sym c.as_str-2.ensures), λ t next. taken s t e c.as_str.result.now c.as_str-2.result.now c.args.instance.now v c.args.number c.in-Ok.value true c.as_str.ensures c.as_str-2.ensures number next c.if-value.true)) c.in-Ok.ensures.taken

pub returns-else-value-clause-answers : goal.returns-else-value-clause-answers
returns-else-value-clause-answers g c =
    let e = c.args.environment.now in
    let v = c.args.version.now in
    PerformsWhereBetween-change_answer 2 (omega arith) (state g.S.Store c.args.conn.now) (state g.S.Store c.take_out.new.conn) c.in-Ok.value (Unknown missing.Deployed) (λ s. number_of s.versions v ≡ Some c.args.number) _ _ (λ s out. out ≡ undeployment s e v c.args.instance.now)
    (λ s number. ((v, number, sym c.as_str-2.ensures), λ t next. taken s t e c.as_str.result.now c.as_str-2.result.now c.args.instance.now v c.args.number c.in-Ok.value false c.as_str.ensures c.as_str-2.ensures number next c.if-value.false)) c.in-Ok.ensures.taken
