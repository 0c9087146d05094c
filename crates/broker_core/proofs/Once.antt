-- a step has one outcome, unless a pattern is refused
use Rattle.std.specs.{Cmp.Lexicographic.{nat_list_cmp_total, options_total}, Prelude.{Option, Some, None, MatchOption, is_some, IsTrue, Bool}}
use Rattle.std.{specs.Cmp.{IsTotalOrder, on_total, then_total}, proofs.Common.{◌≡◌, ◌⊎◌, List, true, false, refl, sym, ◌∙◌, ap, subst, inl, inr, if◌then◌else◌}}
use Rattle.broker_core.specs.declared.command.Command.TheVariants.{PutTeam, PutPact, GetPact, GetBranchPact, PostResult, PostReplies, Deploy, Release, GetEnvironment, CanIDeploy, GetMatrix, Malformed}
use Rattle.broker_core.specs.Change.{Transition, unchanged_with, put_team, put_pact, report, deploy, release, instance_of, text_of}
use Rattle.broker_core.specs.declared.answer.Detail.TheVariants.{Result}
use Rattle.broker_core.specs.Machine.{Primitives, IsCallerOfDigest, IsCallerOfToken, StepOfCaller, Reading, pact_text, Step, FindsFault, TakesEffect, deployed_cmp, version_cmp, matrix_cmp, verified_version, report_replies, fault_of_reading}
use Rattle.broker_core.specs.{Gate.{Judges}, declared.need.PairFault.{PairFault}, declared.policy.Caller.TheVariants.{Office, Team}}
use Rattle.broker_core.specs.{declared.policy.Caller.{Caller}, declared.policy.Rule.TheVariants.{KnownCaller}, declared.command.Command.{Command}}
use Rattle.broker_core.specs.{declared.command.Version.{Version}, declared.command.FormFault.{FormFault}, declared.answer.Answer.{Answer}}
use Rattle.broker_core.specs.{declared.answer.Answer.TheVariants.{Denied, BadForm, NotPermitted, Shown}, declared.answer.DeployedItem.{DeployedItem}}
use Rattle.broker_core.specs.{declared.answer.MatrixRow.{MatrixRow}, Text.{Text, version}, State.{State, claimed_result}, Request.{refusal, consumer_version}}
use Rattle.broker_core.specs.{Machine.Reading.{IsPact, IsRefused}, Laws.{TeamsDiffer, ReadsRefusal, IsReadOnce, AnswersRefusal, StepOnce}}
use Rattle.broker_core.proofs.{Lists.{Some-injective}, Listing.{Lists-unique}, Order.{fault_cmp-total}}
use Rattle.broker_core.specs.declared.answer.Shown.TheVariants as shown

pub deployed_cmp-total : IsTotalOrder deployed_cmp
deployed_cmp-total = then_total (on_total (λ (x : DeployedItem). x.pacticipant) nat_list_cmp_total)
    (then_total (on_total (λ (x : DeployedItem). x.instance) nat_list_cmp_total) (on_total (λ (x : DeployedItem). x.version) nat_list_cmp_total))

pub version_cmp-total : IsTotalOrder version_cmp
version_cmp-total = then_total (on_total (λ (x : Version). x.pacticipant) nat_list_cmp_total) (on_total (λ (x : Version). x.name) nat_list_cmp_total)

pub matrix_cmp-total : IsTotalOrder matrix_cmp
matrix_cmp-total = then_total (on_total (λ (x : MatrixRow). x.consumer) nat_list_cmp_total)
    (then_total (on_total (λ (x : MatrixRow). x.consumer_version) nat_list_cmp_total)
    (then_total (on_total (λ (x : MatrixRow). x.provider) nat_list_cmp_total)
    (on_total (λ (x : MatrixRow). verified_version x.verified) (options_total nat_list_cmp_total))))

Some-unique : {A : Type 0} (o : Option A) (x y : A) → o ≡ Some x → o ≡ Some y → x ≡ y
Some-unique o x y e d = Some-injective x y (sym e ∙ d)

IsTrue-same : (p q : Bool) → (IsTrue p → IsTrue q) → (IsTrue q → IsTrue p) → p ≡ q
IsTrue-same true true f g = refl
IsTrue-same true false f g = let wrong : false ≡ true = f refl in absurd (cc)
IsTrue-same false true f g = let wrong : false ≡ true = g refl in absurd (cc)
IsTrue-same false false f g = refl

module _ {s : State} {v : Version} {e : Text} {p q : Bool} {fs gs : List PairFault} (j : Judges s v e p fs) (k : Judges s v e q gs) where
  Judges-same_verdict : p ≡ q
  Judges-same_verdict = IsTrue-same p q (λ h. k.verdict.1 (j.verdict.0 h)) (λ h. j.verdict.1 (k.verdict.0 h))

  Judges-same_faults : fs ≡ gs
  Judges-same_faults = Lists-unique fault_cmp-total fs gs j.faults_are k.faults_are

-- if no two teams have tokens with one digest, a digest has one caller, and so has a token
IsCallerOfDigest-unique : (s : State) (digest : Text) → TeamsDiffer s → (a b : Option Caller) → IsCallerOfDigest s digest a → IsCallerOfDigest s digest b → a ≡ b
IsCallerOfDigest-unique s digest one None None x y = refl
IsCallerOfDigest-unique s digest one None (Some Office) x y = absurd (x Office y)
IsCallerOfDigest-unique s digest one None (Some (Team b)) x y = absurd (x (Team b) y.1)
IsCallerOfDigest-unique s digest one (Some Office) None x y = absurd (y Office x)
IsCallerOfDigest-unique s digest one (Some (Team a)) None x y = absurd (y (Team a) x.1)
IsCallerOfDigest-unique s digest one (Some Office) (Some Office) x y = refl
IsCallerOfDigest-unique s digest one (Some Office) (Some (Team b)) x y = absurd (y.0 x)
IsCallerOfDigest-unique s digest one (Some (Team a)) (Some Office) x y = absurd (x.0 y)
IsCallerOfDigest-unique s digest one (Some (Team a)) (Some (Team b)) x y = ap (λ team. Some (Team team)) (one digest a b x.1 y.1)

pub IsCallerOfToken-unique : (parts : Primitives) (s : State) (token : Option Text) → TeamsDiffer s → (a b : Option Caller)
    → IsCallerOfToken parts s token a → IsCallerOfToken parts s token b → a ≡ b
IsCallerOfToken-unique parts s None one a b x y = x ∙ sym y
IsCallerOfToken-unique parts s (Some secret) one a b x y = IsCallerOfDigest-unique s (parts.digest_of secret) one a b x y

IsPact-same_text : (c p x y : Text) → IsPact c p x ≡ IsPact c p y → x ≡ y
IsPact-same_text c p x y e = cc

-- two readings as a pact, neither of which is a refusal
IsPact-one_text : (is_refusal : FormFault → Bool) (c p x y : Text)
    → (IsPact c p x ≡ IsPact c p y) ⊎ (ReadsRefusal is_refusal (IsPact c p x) ⊎ ReadsRefusal is_refusal (IsPact c p y)) → x ≡ y
IsPact-one_text is_refusal c p x y (inl same) = IsPact-same_text c p x y same
IsPact-one_text is_refusal c p x y (inr (inl wrong)) = absurd wrong
IsPact-one_text is_refusal c p x y (inr (inr wrong)) = absurd wrong

module _ (parts : Primitives) (is_refusal : FormFault → Bool) (s : State) (one : TeamsDiffer s) where
  -- the form is at fault in that a pattern was refused
  Refuses : Option FormFault → Type 0
  Refuses found = (fault : FormFault) × (found ≡ Some fault) × IsTrue (is_refusal fault)

  TakesEffect-unique : (c : Command) → IsReadOnce parts is_refusal c → (a b : Transition) → TakesEffect parts s c a → TakesEffect parts s c b → a ≡ b
  TakesEffect-unique (PutTeam team token) are a b x y =
      x.2 ∙ (λ i. put_team s team (parts.digest_of token) (is_some (IsCallerOfDigest-unique s (parts.digest_of token) one x.0 y.0 x.1 y.1 i))) ∙ sym y.2
  TakesEffect-unique (PutPact path file) are a b x y =
      x.2 ∙ ap (put_pact s (consumer_version path) path.provider) (IsPact-one_text is_refusal path.consumer path.provider x.0 y.0 (are _ _ x.1 y.1)) ∙ sym y.2
  TakesEffect-unique (GetPact path) are a b x y = x.2 ∙ ap (λ text. unchanged_with s (Shown (shown.Pact text))) (Some-unique _ x.0 y.0 x.1 y.1) ∙ sym y.2
  TakesEffect-unique (GetBranchPact provider consumer branch) are a b x y =
      let v = Some-unique _ x.0 y.0 x.1 y.1 in
      let text = Some-unique _ x.2.0 y.2.0 (subst (λ (w : Version). pact_text s w provider ≡ Some x.2.0) v x.2.1) y.2.1 in
      x.2.2 ∙ ap (λ text. unchanged_with s (Shown (shown.Pact text))) text ∙ sym y.2.2
  TakesEffect-unique (PostResult path r success) are a b x y =
      x.2 ∙ ap (λ content. report s (claimed_result content (version path.provider r.provider_version) success r.run) Result) (Some-unique _ x.0 y.0 x.1 y.1) ∙ sym y.2
  TakesEffect-unique (PostReplies path r replies) are a b x y =
      let content = Some-unique _ x.0 y.0 x.1 y.1 in
      let text = Some-unique _ x.2.0 y.2.0 (subst (λ c. text_of s c ≡ Some x.2.0) content x.2.1) y.2.1 in
      let failing = are.1 y.2.0 x.2.2.0 y.2.2.0 (subst (λ t. parts.Fails t replies x.2.2.0) text x.2.2.1) y.2.2.1 in
      x.2.2.2 ∙ (λ i. report_replies s (content i) (version path.provider r.provider_version) r.run (failing i)) ∙ sym y.2.2.2
  TakesEffect-unique (Deploy e v instance) are a b x y =
      x.3 ∙ (λ i. if Judges-same_verdict x.2 y.2 i then deploy s e v (instance_of instance) else unchanged_with s (NotPermitted (Judges-same_faults x.2 y.2 i))) ∙ sym y.3
  TakesEffect-unique (Release e v) are a b x y =
      x.3 ∙ (λ i. if Judges-same_verdict x.2 y.2 i then release s e v else unchanged_with s (NotPermitted (Judges-same_faults x.2 y.2 i))) ∙ sym y.3
  TakesEffect-unique (GetEnvironment e) are a b x y =
      let marks = Some-unique _ x.0 y.0 x.1 y.1 in
      let items = Lists-unique deployed_cmp-total x.2.0 y.2.0 x.2.1 y.2.1 in
      let versions = Lists-unique version_cmp-total x.2.2.0 y.2.2.0 x.2.2.1 y.2.2.1 in
      x.2.2.2 ∙ (λ i. unchanged_with s (Shown (shown.Environment e (marks i) (items i) (versions i)))) ∙ sym y.2.2.2
  TakesEffect-unique (CanIDeploy v e) are a b x y =
      let marks = Some-unique _ x.0 y.0 x.1 y.1 in
      x.2.3 ∙ (λ i. unchanged_with s (Shown (shown.Gate e (marks i) (Judges-same_verdict x.2.2 y.2.2 i) (Judges-same_faults x.2.2 y.2.2 i)))) ∙ sym y.2.3
  TakesEffect-unique (GetMatrix v) are a b x y = x.2 ∙ ap (λ rows. unchanged_with s (Shown (shown.Matrix rows))) (Lists-unique matrix_cmp-total x.0 y.0 x.1 y.1) ∙ sym y.2
  TakesEffect-unique (Malformed fault) are a b x y = absurd x
  TakesEffect-unique _ are a b x y = x ∙ sym y

  FindsFault-unique : (c : Command) → IsReadOnce parts is_refusal c → (f g : Option FormFault) → FindsFault parts c f → FindsFault parts c g
      → (f ≡ g) ⊎ (Refuses f ⊎ Refuses g)
  unfolding Refuses
  FindsFault-unique (PutPact path file) are f g x y = by_reading x.0 y.0 x.2 y.2 (are x.0 y.0 x.1 y.1)
    where
      refused : (h : Option FormFault) (r : Reading) → h ≡ fault_of_reading path.consumer path.provider r → ReadsRefusal is_refusal r → Refuses h
      refused h (IsPact c p text) is wrong = absurd wrong
      refused h (IsRefused fault) is refusal = (fault, is, refusal)

      by_reading : (r q : Reading) → f ≡ fault_of_reading path.consumer path.provider r → g ≡ fault_of_reading path.consumer path.provider q
          → (r ≡ q) ⊎ (ReadsRefusal is_refusal r ⊎ ReadsRefusal is_refusal q) → (f ≡ g) ⊎ (Refuses f ⊎ Refuses g)
      by_reading r q d e (inl same) = inl (d ∙ ap (fault_of_reading path.consumer path.provider) same ∙ sym e)
      by_reading r q d e (inr (inl refusal)) = inr (inl (refused f r d refusal))
      by_reading r q d e (inr (inr refusal)) = inr (inr (refused g q e refusal))
  FindsFault-unique (PostReplies path r replies) are f g x y = inl (are.0 f g x y)
  FindsFault-unique _ are f g x y = inl (x ∙ sym y)

  Rest : Command → Transition → Option Caller → Type 0
  Rest c out who = MatchOption who (out ≡ unchanged_with s (Denied KnownCaller)) (λ caller. StepOfCaller parts s caller c out)

  Same : Transition → Transition → Type 0
  Same a b = (a ≡ b) ⊎ (AnswersRefusal is_refusal a.answer ⊎ AnswersRefusal is_refusal b.answer)

  refusal-once : (c : Command) → IsReadOnce parts is_refusal c → (a b : Transition) (r : Option Answer)
      → MatchOption r (TakesEffect parts s c a) (λ answer. a ≡ unchanged_with s answer)
      → MatchOption r (TakesEffect parts s c b) (λ answer. b ≡ unchanged_with s answer) → a ≡ b
  refusal-once c are a b None x y = TakesEffect-unique c are a b x y
  refusal-once c are a b (Some answer) x y = x ∙ sym y

  Formed : Command → Caller → Transition → Option FormFault → Type 0
  Formed c caller out found = MatchOption found (MatchOption (refusal s caller c) (TakesEffect parts s c out) (λ answer. out ≡ unchanged_with s answer)) (λ fault. out ≡ unchanged_with s (BadForm fault))

  Formed-unique : (c : Command) → IsReadOnce parts is_refusal c → (caller : Caller) (a b : Transition) (f : Option FormFault)
      → Formed c caller a f → Formed c caller b f → a ≡ b
  unfolding Formed
  Formed-unique c are caller a b None x y = refusal-once c are a b (refusal s caller c) x y
  Formed-unique c are caller a b (Some fault) x y = x ∙ sym y

  -- a form that is at fault in that a pattern was refused is answered so
  Formed-answers_refusal : (c : Command) (caller : Caller) (out : Transition) (f : Option FormFault) → Formed c caller out f → Refuses f → AnswersRefusal is_refusal out.answer
  unfolding Formed Refuses
  Formed-answers_refusal c caller out f formed refuses =
      let returned : Formed c caller out (Some refuses.0) = subst (Formed c caller out) refuses.1 formed in
      (refuses.0, ap (λ o. o.answer) returned, refuses.2)

  Formed-by_form : (c : Command) → IsReadOnce parts is_refusal c → (caller : Caller) (a b : Transition) (f g : Option FormFault)
      → (f ≡ g) ⊎ (Refuses f ⊎ Refuses g) → Formed c caller a f → Formed c caller b g → Same a b
  unfolding Same
  Formed-by_form c are caller a b f g (inl same) x y = inl (Formed-unique c are caller a b g (subst (Formed c caller a) same x) y)
  Formed-by_form c are caller a b f g (inr (inl refuses)) x y = inr (inl (Formed-answers_refusal c caller a f x refuses))
  Formed-by_form c are caller a b f g (inr (inr refuses)) x y = inr (inr (Formed-answers_refusal c caller b g y refuses))

  Rest-unique : (c : Command) → IsReadOnce parts is_refusal c → (a b : Transition) (who : Option Caller) → Rest c a who → Rest c b who → Same a b
  unfolding Rest Formed Same
  Rest-unique c are a b None x y = inl (x ∙ sym y)
  Rest-unique c are a b (Some caller) x y = Formed-by_form c are caller a b x.0 y.0 (FindsFault-unique c are x.0 y.0 x.1 y.1) x.2 y.2

  Step-unique : (token : Option Text) (c : Command) → IsReadOnce parts is_refusal c → (a b : Transition) → Step parts s token c a → Step parts s token c b → Same a b
  unfolding Rest
  Step-unique token c are a b x y =
      Rest-unique c are a b y.0 (subst (Rest c a) (IsCallerOfToken-unique parts s token one x.0 y.0 x.1 y.1) x.2) y.2

-- the law
pub StepOnce-holds : (parts : Primitives) → StepOnce parts
unfolding Same
StepOnce-holds parts is_refusal c are s token a b one x y = Step-unique parts is_refusal s one token c are a b x y
