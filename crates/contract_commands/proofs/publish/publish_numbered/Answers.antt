use Rattle.std.{specs.Prelude.{⊤}, proofs.Common.{◌≡◌, inl, inr, ◌≤◌, Ok, Err, None, Some, true, false, ◌||◌, sym, subst, ap, ◌∙◌, ◌&&◌, arith}}
use Rattle.sqlite.specs.{Held.{state}, State.{HasCleanDisk}}
use Rattle.broker_core.specs.{Change.{Transition, put_pact, content_number, with_version}, Request.{consumer_version}, State.{State}}
use Rattle.broker_core.specs.{declared.answer.Answer.TheVariants.{Done, Full}, declared.answer.Detail.TheVariants.{Content}, Text.{Text}}
use Rattle.broker_core.specs.declared.command.PactPath.{PactPath}
use Rattle.content_store.specs.Contents.{has_place, StoresIfRoom}
use Rattle.table_access.proofs.CallLemmas.{CallsBetween-weaken, EndsBy-weaken}
use Rattle.broker_tables.{specs.Room.{enough}, proofs.FailLemmas.{FailsFromBetween-of_taking, FailsByStoreTakingBetween-then}}
use Rattle.command_facts.{specs.Performs.{IsToChange}, proofs.PerformLemmas.{PerformsWhereBetween-change_answer, PerformsWhereBetween-change_then_change}}
use Rattle.contract_commands.specs.{Pacts.{CanPublish, CanRecord, PutsPact, RecordsContract, with_contract}, declared.numbers.VersionNumber.{VersionNumber}}
use Rattle.contract_commands.proofs.{NumberingLemmas.{can_name-true}, PactLemmas.{published, put_pact-first, CanRecord-after_stored, now_published}}
use Rattle.contract_commands.proofs.publish.publish_numbered.Goals as goal

-- the pact is to be published
to_publish : (path : PactPath) (text : Text) (version : VersionNumber) (s : State) → CanPublish path version s → has_place s.contents text ≡ true → IsToChange (PutsPact path text) s
to_publish path text version s can place =
    let v = consumer_version path in
    (Content (content_number s text), published s v path.provider text, put_pact-first s v path.provider text true can.1 (λ i. can_name-true s v version can.0 i && place i))

pub returns-in-None-clause-answers : goal.returns-in-None-clause-answers
returns-in-None-clause-answers g c =
    let path = c.args.path.now in
    let v = consumer_version path in
    let text = c.args.text.now in
    PerformsWhereBetween-change_answer 2 (omega arith) _ _ None Full (CanPublish path c.args.version) (λ s. ⊤) (StoresIfRoom text) (λ s out. out ≡ put_pact s v path.provider text)
    (λ s can. (
      tt,
      λ t next.
          let same : ◌≡◌ {A = Transition} (record { answer = Full; state = t }) (record { answer = Full; state = s }) = (λ i. record { answer = Full; state = next.0 i }) in
          same ∙ put_pact-first s v path.provider text false can.1 (λ i. can_name-true s v c.args.version can.0 i && next.1 i),
    ))
    (rw c.in-None.is at c.in-Ok.ensures.answers)

pub returns-in-Ok-record_contract-clause-answers : goal.returns-in-Ok-record_contract-clause-answers
returns-in-Ok-record_contract-clause-answers g c =
    let path = c.args.path.now in
    let v = consumer_version path in
    let text = c.args.text.now in
    let content = c.in-Some.content in
    PerformsWhereBetween-change_then_change _ _ _ (Some content) c.in-Ok-record_contract.value (Done (Content content)) 4 (omega arith)
    (CanPublish path c.args.version) (λ s. ⊤) (CanRecord path c.args.version content) (StoresIfRoom text) (RecordsContract path content) (λ s out. out ≡ put_pact s v path.provider text)
    (λ s can. (
      tt,
      λ t next. (
        subst (CanRecord path c.args.version content) (sym next.1) (CanRecord-after_stored s text path c.args.version content next.0 can),
        λ w is.
            let to : w ≡ published s v path.provider text = is ∙ ap (λ (u : State). with_contract (with_version u v) v path.provider content) next.1 ∙ now_published s text v path.provider content next.0 in
            let made : ◌≡◌ {A = Transition} (record { answer = Done (Content content); state = w }) (record { answer = Done (Content (content_number s text)); state = published s v path.provider text }) = (λ i. record { answer = Done (Content (next.0 i)); state = to i }) in
            made ∙ put_pact-first s v path.provider text true can.1 (λ i. can_name-true s v c.args.version can.0 i && next.2 i),
      ),
    ))
    (rw c.in-Some.is at c.in-Ok.ensures.answers) c.in-Ok-record_contract.ensures.answers

pub returns-in-Err-clause-failure : goal.returns-in-Err-clause-failure
returns-in-Err-clause-failure g c clean s here can = elim (c.in-Err.ensures.failure clean s here tt) [
  | inl ended ↦ inl ended
  | inr adds ↦ inr (to_publish c.args.path.now c.args.text.now c.args.version s can (λ i. adds.0.0 i || adds.0.1 i), λ room. EndsBy-weaken _ _ _ (λ long are. long (are.0, tt)) (adds.1 room))
]

pub returns-in-Err-record_contract-clause-failure : goal.returns-in-Err-record_contract-clause-failure
returns-in-Err-record_contract-clause-failure g c clean s here can =
    let few : 5 ≤ enough = omega arith in
    let old = state g.S.Store c.args.conn.now in
    let mid = state g.S.Store c.put_text.new.conn in
    let mid_clean : HasCleanDisk mid = omega (arith, c.in-Err-record_contract.ensures.answers.survives.clean, clean) in
    let new = state g.S.Store c.record_contract.new.conn in
    let path = c.args.path.now in
    let text = c.args.text.now in
    let version = c.args.version in
    let content = c.in-Some.content in
    let failed = c.in-Err-record_contract.ensures in
    let stored = rw c.in-Some.is at c.in-Ok.ensures.answers in
    let it = stored.ok mid_clean s here.held tt in
    FailsFromBetween-of_taking {A = Unit {0}} _ old new (Err c.in-Err-record_contract.fault) 5 few (CanPublish path version) (λ t. CanPublish path version t × (has_place t.contents text ≡ true)) _ (λ t held may. (may.0, to_publish path text version t may.0 may.1))
    (FailsByStoreTakingBetween-then _ old mid new (Some content) (Err c.in-Err-record_contract.fault) 2 3 _ (CanPublish path version) (StoresIfRoom text) (CanRecord path version content)
    (λ t may u next. subst (CanRecord path version content) (sym next.1) (CanRecord-after_stored t text path version content next.0 may)) (CallsBetween-weaken old mid (Ok (Some content)) _ _ (λ a puts t held may. puts t held tt) stored)
    failed.answers (λ clean t now may room. EndsBy-weaken _ _ _ (λ long are. long are.1) (failed.failure clean t now may room))) clean s here (can, it.1.2)
