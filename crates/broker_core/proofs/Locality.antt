-- the answer to a deployment depends on little
use Rattle.std.specs.{Prelude.{Option, Some, None, option_and_then, IsTrue, IsSomeAnd, if◌then◌else◌}, Option.{option_map_or}}
use Rattle.std.proofs.{Common.{◌≡◌, ◌⊎◌, List, refl, sym, ◌∙◌, ap, subst, inl, inr, Bool, true, false}, lemmas.Bool.{false≢true}}
use Rattle.broker_core.specs.{declared.policy.Caller.{Caller}, declared.policy.Caller.TheVariants.{Office, Team}, declared.command.Command.TheVariants.{Deploy}}
use Rattle.broker_core.specs.{declared.command.Version.{Version}, declared.answer.Answer.{Answer}}
use Rattle.broker_core.specs.{declared.answer.Answer.TheVariants.{NotPermitted, Already, Done}, declared.answer.Detail.TheVariants.{Plain}}
use Rattle.broker_core.specs.{declared.need.Need.{Need}, declared.need.PairFault.{PairFault}, Text.{Text, version, same_place, put_at}}
use Rattle.broker_core.specs.{State.{State, is_gated, is_strict}, Faults.{fault_of}}
use Rattle.broker_core.specs.Gate.{IsPresent, consumer_of, NeedsPresent, NeedsAbsent, NeedsAsProvider, IsNeed, IsGood, IsPermitted, IsFault, Judges}
use Rattle.broker_core.specs.{Request.{refusal}, Change.{Transition, unchanged_with, already, done, deploy, instance_of, is_text}}
use Rattle.broker_core.specs.{Machine.{Primitives, IsCallerOfToken, Step, TakesEffect}, Laws.{TeamsDiffer, Concerns, Agree, GateLocality, GateAnswersOnce}}
use Rattle.broker_core.proofs.{Lists.{None-not_Some}, Once.{StepOnce-holds}, Ways.{Way-of_Step, Step-of_Way}, Ways.Way.{nobody, misformed, refused, acting}}

module _ {parts : Primitives} {token : Option Text} {s t : State} {v : Version} {e : Text} where
  IsPresent-there : Agree parts token s t v e → (w : Version) → IsPresent s e w → IsPresent t e w
  IsPresent-there a w (inl h) = inl (h.0, sym (a.deployed w.pacticipant h.0) ∙ h.1)
  IsPresent-there a w (inr h) = inr (subst IsTrue (a.released w) h)

  IsPresent-back : Agree parts token s t v e → (w : Version) → IsPresent t e w → IsPresent s e w
  IsPresent-back a w (inl h) = inl (h.0, a.deployed w.pacticipant h.0 ∙ h.1)
  IsPresent-back a w (inr h) = inr (subst IsTrue (sym (a.released w)) h)

  Concerns-back : Agree parts token s t v e → (w : Version) → Concerns t v e w → Concerns s v e w
  Concerns-back a w (inl h) = inl h
  Concerns-back a w (inr h) = inr (IsPresent-back a w h)

  Agree-sym : Agree parts token s t v e → Agree parts token t s v e
  Agree-sym a = record {
    callers = λ digest caller. ((a.callers digest caller).1, (a.callers digest caller).0);
    owner = sym a.owner;
    known = sym a.known;
    grant = λ team secret is has. sym (a.grant team secret is ((a.callers (parts.digest_of secret) (Team team)).1 has));
    environment = sym a.environment;
    deployed = λ p i. sym (a.deployed p i);
    released = λ w. sym (a.released w);
    contracts = λ w p c. sym (a.contracts w p (Concerns-back a w c));
    results = λ w p content c is u. sym (a.results w p content (Concerns-back a w c) (a.contracts w p (Concerns-back a w c) ∙ is) u);
  }

  IsSomeAnd-is_present : Agree parts token s t v e → (p : Text) (o : Option Text) → IsSomeAnd o (λ w. IsPresent s e (version p w)) → IsSomeAnd o (λ w. IsPresent t e (version p w))
  IsSomeAnd-is_present a p None h = h
  IsSomeAnd-is_present a p (Some w) h = IsPresent-there a (version p w) h

  IsNeed-there : Agree parts token s t v e → (need : Need) → IsNeed s v e need → IsNeed t v e need
  IsNeed-there a need is = record {
    content = is.content;
    contract = sym (a.contracts (consumer_of need) need.provider concerned) ∙ is.contract;
    between = across is.between;
    result = is.result ∙ (λ i. option_and_then (λ w. a.results (consumer_of need) need.provider is.content concerned is.contract (version need.provider w) i) need.provider_version);
  }
    where
      concerned_by : NeedsPresent s v e need ⊎ (NeedsAbsent s v e need ⊎ NeedsAsProvider s v e need) → Concerns s v e (consumer_of need)
      concerned_by (inl h) = inl h.0
      concerned_by (inr (inl h)) = inl h.0
      concerned_by (inr (inr h)) = inr h.1

      concerned : Concerns s v e (consumer_of need)
      concerned = concerned_by is.between

      across : NeedsPresent s v e need ⊎ (NeedsAbsent s v e need ⊎ NeedsAsProvider s v e need) → NeedsPresent t v e need ⊎ (NeedsAbsent t v e need ⊎ NeedsAsProvider t v e need)
      across (inl h) = inl (h.0, IsSomeAnd-is_present a need.provider need.provider_version h.1)
      across (inr (inl h)) = inr (inl (h.0, h.1, λ w there. h.2 w (IsPresent-back a (version need.provider w) there)))
      across (inr (inr h)) = inr (inr (h.0, IsPresent-there a (consumer_of need) h.1, h.2, h.3))

module _ {parts : Primitives} {token : Option Text} {s t : State} {v : Version} {e : Text} where
  is_gated-same : Agree parts token s t v e → is_gated s e ≡ is_gated t e
  is_gated-same a = ap (λ o. option_map_or (λ marks. marks.gated) o true) a.environment

  is_strict-same : Agree parts token s t v e → is_strict s e ≡ is_strict t e
  is_strict-same a = ap (λ o. option_map_or (λ marks. marks.strict) o false) a.environment

  IsPermitted-there : Agree parts token s t v e → IsPermitted s v e → IsPermitted t v e
  IsPermitted-there a (inl good) = inl (λ need is. subst (λ strict. IsGood strict need) (is_strict-same a) (good need (IsNeed-there (Agree-sym a) need is)))
  IsPermitted-there a (inr ungated) = inr (sym (is_gated-same a) ∙ ungated)

  IsFault-there : Agree parts token s t v e → (fault : PairFault) → IsFault s v e fault → IsFault t v e fault
  IsFault-there a fault is = (is.0, IsNeed-there a is.0 is.1, ap (λ strict. fault_of strict is.0) (sym (is_strict-same a)) ∙ is.2)

deploy_answer : Text → Option Text → Answer
deploy_answer name old = if is_text name old then Already Plain else Done Plain

answer-deploy : (s : State) (e : Text) (v : Version) (instance : Text) → (deploy s e v instance).answer ≡ deploy_answer v.name (s.deployed (e, v.pacticipant, instance))
unfolding deploy_answer
answer-deploy s e v instance =
    let next = record s { deployed = put_at same_place s.deployed (e, v.pacticipant, instance) (Some v.name) } in
    elim (is_text v.name (s.deployed (e, v.pacticipant, instance))) as (λ b. (if b then already s else done next).answer ≡ (if b then Already Plain else Done Plain)) [ true ↦ refl | false ↦ refl ]

gated : State → Text → Version → Text → Bool → List PairFault → Transition
gated s e v instance permitted faults = if permitted then deploy s e v instance else unchanged_with s (NotPermitted faults)

answer-gated : {parts : Primitives} {token : Option Text} (s t : State) (v : Version) (e instance : Text) → Agree parts token s t v e → (p : Bool) (fs : List PairFault) → (gated s e v instance p fs).answer ≡ (gated t e v instance p fs).answer
unfolding gated
answer-gated s t v e instance a true fs = answer-deploy s e v instance ∙ ap (deploy_answer v.name) (a.deployed v.pacticipant instance) ∙ sym (answer-deploy t e v instance)
answer-gated s t v e instance a false fs = refl

Judges-there : {parts : Primitives} {token : Option Text} {s t : State} {v : Version} {e : Text} → Agree parts token s t v e
    → (permitted : Bool) (faults : List PairFault) → Judges s v e permitted faults → Judges t v e permitted faults
Judges-there a permitted faults j = record {
  verdict = (λ h. IsPermitted-there a (j.verdict.0 h), λ h. j.verdict.1 (IsPermitted-there (Agree-sym a) h));
  faults_are = record {
    sorted = j.faults_are.sorted;
    exactly = λ f. (λ c. IsFault-there a f ((j.faults_are.exactly f).0 c), λ h. (j.faults_are.exactly f).1 (IsFault-there (Agree-sym a) f h));
  };
}

module _ {parts : Primitives} {s t : State} {v : Version} {e : Text} {token : Option Text} (agree : Agree parts token s t v e) where
  -- the callers of a token are the same in both states
  IsCallerOfToken-there : (who : Option Caller) → IsCallerOfToken parts s token who → IsCallerOfToken parts t token who
  IsCallerOfToken-there who called = by_token token who called
    where
      by_token : (token : Option Text) (who : Option Caller) → IsCallerOfToken parts s token who → IsCallerOfToken parts t token who
      by_token None who called = called
      by_token (Some secret) None called = λ caller h. called caller ((agree.callers (parts.digest_of secret) caller).1 h)
      by_token (Some secret) (Some Office) called = (agree.callers (parts.digest_of secret) Office).0 called
      by_token (Some secret) (Some (Team team)) called =
          (λ h. called.0 ((agree.callers (parts.digest_of secret) Office).1 h), (agree.callers (parts.digest_of secret) (Team team)).0 called.1)

  grants-same : (caller : Caller) → IsCallerOfToken parts s token (Some caller) → (team : Text) → caller ≡ Team team → s.grants (team, e) ≡ t.grants (team, e)
  grants-same caller calls team is = by_token token refl (subst (λ c. IsCallerOfToken parts s token (Some c)) is calls)
    where
      by_token : (other : Option Text) → token ≡ other → IsCallerOfToken parts s other (Some (Team team)) → s.grants (team, e) ≡ t.grants (team, e)
      by_token None same calls = absurd (cc)
      by_token (Some secret) same calls = agree.grant team secret same calls.1

  refusal-same : (caller : Caller) (instance : Option Text) → IsCallerOfToken parts s token (Some caller) → refusal s caller (Deploy e v instance) ≡ refusal t caller (Deploy e v instance)
  refusal-same Office instance calls = let env = agree.environment in let owner = agree.owner in let known = agree.known in cc
  refusal-same (Team team) instance calls =
      let env = agree.environment in let owner = agree.owner in let known = agree.known in let grant = grants-same (Team team) calls team refl in cc

-- the law: what a deployment may be answered in one state, it may be answered in the other
pub GateLocality-holds : (parts : Primitives) → GateLocality parts
unfolding gated
GateLocality-holds parts token e v instance s t a agree x =
    let step = Step-of_Way parts t token (Deploy e v instance) in
    elim (Way-of_Step parts s token (Deploy e v instance) a x) as (λ o _. (b : Transition) × Step parts t token (Deploy e v instance) b × (o.answer ≡ b.answer)) [
      | nobody calls ↦ (_, step _ (nobody (IsCallerOfToken-there agree None calls)), refl)
      | misformed caller calls f form ↦ absurd (None-not_Some f (sym form))
      | refused caller calls form answer is ↦
          (_, step _ (refused caller (IsCallerOfToken-there agree (Some caller) calls) refl answer (sym (refusal-same agree caller instance calls) ∙ is)), refl)
      | acting caller calls form o is it ↦
          let b = gated t e v (instance_of instance) it.0 it.1 in
          let none = sym (refusal-same agree caller instance calls) ∙ is in
          let acts : TakesEffect parts t (Deploy e v instance) b = (it.0, it.1, Judges-there agree it.0 it.1 it.2, refl) in
          (b, step b (acting caller (IsCallerOfToken-there agree (Some caller) calls) refl b none acts), ap (λ z. z.answer) it.3 ∙ answer-gated s t v e (instance_of instance) agree it.0 it.1)
    ]

-- and if a token has one caller, that is the only answer, since a step of the other state has one outcome
pub GateAnswersOnce-holds : (parts : Primitives) → GateAnswersOnce parts
GateAnswersOnce-holds parts token e v instance s t a b one agree x y =
    let there = GateLocality-holds parts token e v instance s t a agree x in
    let apart : TeamsDiffer t = λ digest k l p q. one digest k l ((agree.callers digest (Team k)).1 p) ((agree.callers digest (Team l)).1 q) in
    elim (StepOnce-holds parts (λ _. false) (Deploy e v instance) tt t token there.0 b apart there.1 y) [
      | inl same ↦ there.2 ∙ ap (λ o. o.answer) same
      | inr (inl refuses) ↦ absurd (false≢true refuses.2)
      | inr (inr refuses) ↦ absurd (false≢true refuses.2)
    ]
