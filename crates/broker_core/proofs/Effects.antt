-- what a step does: it is answered and changes nothing, or it is answered Done and makes one change, that of its command
use Rattle.std.specs.{Prelude.{Option, Some, None, is_some}, Option.{option_map_or}, List.{list_any}}
use Rattle.std.proofs.Common.{◌≡◌, ◌∷◌, [], ◌++◌, ℕ, List, refl, sym, ◌∙◌, ap, subst, Bool, true, false, ◌&&◌, ◌||◌, if◌then◌else◌}
use Rattle.broker_core.specs.declared.command.Command.TheVariants.{PutTeam, PutPacticipant, PutEnvironment, PutGrant, DeleteGrant, PutVersion, PutPact, GetPact, GetBranchPact, PostResult, PostReplies, Deploy, Undeploy, Release, EndSupport, GetEnvironment, CanIDeploy, GetMatrix, Malformed}
use Rattle.broker_core.specs.Request.{asks, refused, first_missing, is_allowed, is_known, consumer_version}
use Rattle.broker_core.specs.Change.{Transition, unchanged_with, repeated, with_version, with_branch, with_content, is_stored, can_name, on_branch, is_text, text_of, content_number, result_of_run, says_same, report, instance_of}
use Rattle.broker_core.specs.{Machine.{Primitives, HasDigest, IsCallerOfDigest, Step, TakesEffect, report_replies, is_step, is_empty}, Machine.Reading.{IsPact}}
use Rattle.broker_core.specs.{declared.policy.Caller.{Caller}, declared.command.Command.{Command}, declared.command.Marks.{Marks}}
use Rattle.broker_core.specs.{declared.command.PactPath.{PactPath}, declared.command.Report.{Report}, declared.command.Version.{Version}}
use Rattle.broker_core.specs.{declared.answer.Answer.{Answer}, declared.answer.Answer.TheVariants.{Denied, Unknown, Done}, declared.answer.Detail.{Detail}}
use Rattle.broker_core.specs.{declared.answer.Missing.{Missing}, Text.{Text, same_text, same_version, same_pair, same_place, put_at, version}}
use Rattle.broker_core.{specs.{State.{State, Verification, claimed_result, checked_result}, Limit.{has_room}}, proofs.Lists.{Some-injective}}
use Rattle.broker_core.proofs.{Ways.{Way-of_Step}, Ways.Way.{nobody, misformed, refused as refused_way, acting}}

-- ---- the tables afterwards

abbrev pub versions_with : State → Version → List Version
versions_with s v = if is_known s v then s.versions else s.versions ++ v ∷ []

abbrev pub branches_with : State → Version → Option Text → Version × Text → Bool
branches_with s v None = s.branches
branches_with s v (Some branch) = put_at (same_pair same_version same_text) s.branches (v, branch) true

abbrev pub contents_with : List Text → Text → List Text
contents_with texts text = if list_any (same_text text) texts then texts else texts ++ text ∷ []

abbrev pub with_contract : State → Version → Text → Text → State
with_contract s v provider text = record s {
  versions = versions_with s v;
  contents = contents_with s.contents text;
  contracts = put_at (same_pair same_version same_text) s.contracts (v, provider) (Some (content_number s text));
}

abbrev pub with_result : State → Verification → State
with_result s r = record s { versions = versions_with s r.version; results = s.results ++ r ∷ [] }

pub with_version-versions_with : (s : State) (v : Version) → with_version s v ≡ record s { versions = versions_with s v }
with_version-versions_with s v =
    let more : State = record s { versions = s.versions ++ v ∷ [] } in
    elim (is_known s v) as (λ b. (if b then s else more) ≡ record s { versions = if b then s.versions else more.versions }) [ true ↦ refl | false ↦ refl ]

pub with_content-contents_with : (s : State) (text : Text) → with_content s text ≡ record s { contents = contents_with s.contents text }
with_content-contents_with s text =
    let more : State = record s { contents = s.contents ++ text ∷ [] } in
    elim (is_stored s text) as (λ b. (if b then s else more) ≡ record s { contents = if b then s.contents else more.contents }) [ true ↦ refl | false ↦ refl ]

with_branch-branches_with : (s : State) (v : Version) (branch : Option Text) → with_branch s v branch ≡ record s { branches = branches_with s v branch }
with_branch-branches_with s v None = refl
with_branch-branches_with s v (Some branch) = refl

-- ---- the changes

-- the change that a command makes of s, with what holds before
pub data Change (parts : Primitives) (s : State) : Command → State → Type 0 where
  team : (name token : Text) → s.teams name ≡ None → ((c : Caller) → ¬ (HasDigest s (parts.digest_of token) c))
      → Change parts s (PutTeam name token) (record s { teams = put_at same_text s.teams name (Some (parts.digest_of token)) })
  pacticipant : (p owner : Text) → s.pacticipants p ≡ None
      → Change parts s (PutPacticipant p owner) (record s { pacticipants = put_at same_text s.pacticipants p (Some owner) })
  environment : (e : Text) (marks : Marks) → s.environments e ≡ None
      → Change parts s (PutEnvironment e marks) (record s { environments = put_at same_text s.environments e (Some marks) })
  grant : (name e : Text) → s.grants (name, e) ≡ false
      → Change parts s (PutGrant name e) (record s { grants = put_at (same_pair same_text same_text) s.grants (name, e) true })
  end_of_grant : (name e : Text) → s.grants (name, e) ≡ true
      → Change parts s (DeleteGrant name e) (record s { grants = put_at (same_pair same_text same_text) s.grants (name, e) false })
  named_version : (v : Version) (branch : Option Text) → (is_known s v && on_branch s v branch) ≡ false
      → Change parts s (PutVersion v branch) (record s { versions = versions_with s v; branches = branches_with s v branch })
  contract : (path : PactPath) (file text : Text) → s.contracts (consumer_version path, path.provider) ≡ None
      → parts.Reads file (IsPact path.consumer path.provider text)
      → Change parts s (PutPact path file) (with_contract s (consumer_version path) path.provider text)
  claim : (path : PactPath) (r : Report) (success : Bool) (content : ℕ) → s.contracts (consumer_version path, path.provider) ≡ Some content
      → result_of_run s path.provider r.run ≡ None
      → Change parts s (PostResult path r success) (with_result s (claimed_result content (version path.provider r.provider_version) success r.run))
  check : (path : PactPath) (r : Report) (replies : Text) (content : ℕ) (failing : List ℕ) → s.contracts (consumer_version path, path.provider) ≡ Some content
      → result_of_run s path.provider r.run ≡ None
      → Change parts s (PostReplies path r replies) (with_result s (checked_result content (version path.provider r.provider_version) (is_empty failing) r.run))
  deployment : (e : Text) (v : Version) (instance : Option Text) → is_text v.name (s.deployed (e, v.pacticipant, instance_of instance)) ≡ false
      → Change parts s (Deploy e v instance) (record s { deployed = put_at same_place s.deployed (e, v.pacticipant, instance_of instance) (Some v.name) })
  end_of_deployment : (e : Text) (v : Version) (instance : Option Text) → is_text v.name (s.deployed (e, v.pacticipant, instance_of instance)) ≡ true
      → Change parts s (Undeploy e v instance) (record s { deployed = put_at same_place s.deployed (e, v.pacticipant, instance_of instance) None })
  release : (e : Text) (v : Version) → s.released (e, v) ≡ false
      → Change parts s (Release e v) (record s { released = put_at (same_pair same_text same_version) s.released (e, v) true })
  end_of_support : (e : Text) (v : Version) → s.released (e, v) ≡ true
      → Change parts s (EndSupport e v) (record s { released = put_at (same_pair same_text same_version) s.released (e, v) false })

-- what a step of this command comes to: only an answer of the machine, or Done and the change
pub data Effect (parts : Primitives) (s : State) (c : Command) : Transition → Type 0 where
  returned : (answer : Answer) → is_step answer ≡ true → Effect parts s c (unchanged_with s answer)
  changed : (t : State) (detail : Detail) → Change parts s c t → Effect parts s c (record { answer = Done detail; state = t })

-- ---- each step is one

HasDigest-nobody : (s : State) (digest : Text) (holder : Option Caller) → is_some holder ≡ false → IsCallerOfDigest s digest holder → (c : Caller)
    → ¬ (HasDigest s digest c)
HasDigest-nobody s digest None none free = free
HasDigest-nobody s digest (Some c) none has = absurd (cc)

module _ (parts : Primitives) (s : State) (c : Command) where
  Effect-of_equal : {out x : Transition} → out ≡ x → Effect parts s c x → Effect parts s c out
  Effect-of_equal is = subst (λ (o : Transition). Effect parts s c o) (sym is)

  Effect-option_map_or : {X : Type 0} (f : X → Transition) (other : Transition) (o : Option X) → ((x : X) → Effect parts s c (f x)) → (o ≡ None → Effect parts s c other)
      → Effect parts s c (option_map_or f o other)
  Effect-option_map_or f other None each rest = rest refl
  Effect-option_map_or f other (Some x) each rest = each x

  Effect-cond : (b : Bool) (x y : Transition) → (b ≡ true → Effect parts s c x) → (b ≡ false → Effect parts s c y) → Effect parts s c (if b then x else y)
  Effect-cond true x y h k = h refl
  Effect-cond false x y h k = k refl

  Effect-repeated : (b : Bool) → Effect parts s c (repeated s b)
  Effect-repeated true = returned _ refl
  Effect-repeated false = returned _ refl

  Effect-cond_answer : (b : Bool) (x y : Answer) → is_step x ≡ true → is_step y ≡ true → Effect parts s c (unchanged_with s (if b then x else y))
  Effect-cond_answer true x y h k = returned x h
  Effect-cond_answer false x y h k = returned y k

  Effect-done : (t u : State) (detail : Detail) → t ≡ u → Change parts s c u → Effect parts s c (record { answer = Done detail; state = t })
  Effect-done t u detail is change = subst (λ (x : State). Effect parts s c (record { answer = Done detail; state = x })) (sym is) (changed u detail change)

  Effect-report : (r : Verification) (detail : ℕ → Detail)
      → (result_of_run s r.version.pacticipant r.run ≡ None → Change parts s c (with_result s r)) → Effect parts s c (report s r detail)
  Effect-report r detail change =
      let added = ap (λ (t : State). record t { results = s.results ++ r ∷ [] }) (with_version-versions_with s r.version) in
      Effect-option_map_or _ _ (result_of_run s r.version.pacticipant r.run) (λ e. Effect-cond_answer (says_same e.1 r) _ _ refl refl)
      (λ free. Effect-cond (can_name s r.version && has_room s.results) _ _ (λ _. Effect-done _ (with_result s r) _ added (change free)) (λ _. returned _ refl))

module _ (parts : Primitives) (s : State) where
  Effect-of_TakesEffect : (c : Command) (out : Transition) → TakesEffect parts s c out → Effect parts s c out
  Effect-of_TakesEffect (PutTeam name token) out x = Effect-of_equal parts s _ x.2 (Effect-option_map_or parts s _ _ _ (s.teams name) (λ old. Effect-repeated parts s _ _)
      (λ free. Effect-cond parts s _ (is_some x.0) _ _ (λ _. returned _ refl) (λ none. changed _ _ (team name token free (HasDigest-nobody s _ x.0 none x.1)))))
  Effect-of_TakesEffect (PutPacticipant p owner) out x =
      Effect-of_equal parts s _ x (Effect-option_map_or parts s _ _ _ (s.pacticipants p) (λ old. Effect-repeated parts s _ _) (λ free. changed _ _ (pacticipant p owner free)))
  Effect-of_TakesEffect (PutEnvironment e marks) out x =
      Effect-of_equal parts s _ x (Effect-option_map_or parts s _ _ _ (s.environments e) (λ old. Effect-repeated parts s _ _) (λ free. changed _ _ (environment e marks free)))
  Effect-of_TakesEffect (PutGrant name e) out x = Effect-of_equal parts s _ x (Effect-cond parts s _ (s.grants (name, e)) _ _ (λ _. returned _ refl) (λ none. changed _ _ (grant name e none)))
  Effect-of_TakesEffect (DeleteGrant name e) out x =
      Effect-of_equal parts s _ x (Effect-cond parts s _ (s.grants (name, e)) _ _ (λ there. changed _ _ (end_of_grant name e there)) (λ _. returned _ refl))
  Effect-of_TakesEffect (PutVersion v branch) out x =
      let put = ap (λ (t : State). with_branch t v branch) (with_version-versions_with s v) ∙ with_branch-branches_with (record s { versions = versions_with s v }) v branch in
      Effect-of_equal parts s _ x (Effect-cond parts s _ (is_known s v && on_branch s v branch) _ _ (λ _. returned _ refl)
      (λ new. Effect-cond parts s _ (can_name s v) _ _ (λ _. Effect-done parts s _ _ _ _ put (named_version v branch new)) (λ _. returned _ refl)))
  Effect-of_TakesEffect (PutPact path file) out x =
      let v = consumer_version path in
      Effect-of_equal parts s _ x.2 (Effect-option_map_or parts s _ _ _ (s.contracts (v, path.provider)) (λ content. Effect-cond_answer parts s _ (is_text x.0 (text_of s content)) _ _ refl refl)
      (λ free. Effect-cond parts s _ (can_name s v && (is_stored s x.0 || has_room s.contents)) _ _
      (λ _. Effect-done parts s _ _ _ _ (published v path.provider x.0) (contract path file x.0 free x.1)) (λ _. returned _ refl)))
    where
      published : (v : Version) (provider text : Text)
          → record (with_content (with_version s v) text) { contracts = put_at (same_pair same_version same_text) s.contracts (v, provider) (Some (content_number s text)) }
          ≡ with_contract s v provider text
      published v provider text =
          let table = put_at (same_pair same_version same_text) s.contracts (v, provider) (Some (content_number s text)) in
          ap (λ (t : State). record (with_content t text) { contracts = table }) (with_version-versions_with s v)
          ∙ ap (λ (t : State). record t { contracts = table }) (with_content-contents_with (record s { versions = versions_with s v }) text)
  Effect-of_TakesEffect (GetPact path) out x = Effect-of_equal parts s _ x.2 (returned _ refl)
  Effect-of_TakesEffect (GetBranchPact provider consumer branch) out x = Effect-of_equal parts s _ x.2.2 (returned _ refl)
  Effect-of_TakesEffect (PostResult path r success) out x = Effect-of_equal parts s _ x.2 (Effect-report parts s _ _ _ (claim path r success x.0 x.1))
  Effect-of_TakesEffect (PostReplies path r replies) out x = Effect-of_equal parts s _ x.2.2.2 (by_failing x.2.2.0)
    where
      by_failing : (failing : Option (List ℕ))
          → Effect parts s (PostReplies path r replies) (report_replies s x.0 (version path.provider r.provider_version) r.run failing)
      by_failing None = returned _ refl
      by_failing (Some failing) = Effect-report parts s _ _ _ (check path r replies x.0 failing x.1)
  Effect-of_TakesEffect (Deploy e v instance) out x =
      let is_present = is_text v.name (s.deployed (e, v.pacticipant, instance_of instance)) in
      Effect-of_equal parts s _ x.3 (Effect-cond parts s _ x.0 _ _
      (λ _. Effect-cond parts s _ is_present _ _ (λ _. returned _ refl) (λ new. changed _ _ (deployment e v instance new))) (λ _. returned _ refl))
  Effect-of_TakesEffect (Undeploy e v instance) out x =
      let is_present = is_text v.name (s.deployed (e, v.pacticipant, instance_of instance)) in
      Effect-of_equal parts s _ x (Effect-cond parts s _ is_present _ _ (λ there. changed _ _ (end_of_deployment e v instance there)) (λ _. returned _ refl))
  Effect-of_TakesEffect (Release e v) out x = Effect-of_equal parts s _ x.3 (Effect-cond parts s _ x.0 _ _
      (λ _. Effect-cond parts s _ (s.released (e, v)) _ _ (λ _. returned _ refl) (λ new. changed _ _ (release e v new))) (λ _. returned _ refl))
  Effect-of_TakesEffect (EndSupport e v) out x = Effect-of_equal parts s _ x (Effect-cond parts s _ (s.released (e, v)) _ _ (λ there. changed _ _ (end_of_support e v there)) (λ _. returned _ refl))
  Effect-of_TakesEffect (GetEnvironment e) out x = Effect-of_equal parts s _ x.2.2.2 (returned _ refl)
  Effect-of_TakesEffect (CanIDeploy v e) out x = Effect-of_equal parts s _ x.2.3 (returned _ refl)
  Effect-of_TakesEffect (GetMatrix v) out x = Effect-of_equal parts s _ x.2 (returned _ refl)
  Effect-of_TakesEffect (Malformed fault) out x = absurd x

-- ---- a step, by how far the command comes

refused-is_step : (c : Command) (m : Option Missing) (b : Bool) (answer : Answer) → refused c m b ≡ Some answer → is_step answer ≡ true
refused-is_step c (Some what) b answer is = ap is_step (sym (Some-injective (Unknown what) answer is))
refused-is_step c None true answer is = absurd (cc)
refused-is_step c None false answer is = ap is_step (sym (Some-injective (Denied (asks c).rule) answer is))

-- what is so of each answer that changes nothing, and of what a permitted command does, is so of a step
pub Step-by_cases : (parts : Primitives) (s : State) (c : Command) (P : Transition → Type 0) → ((answer : Answer) → is_step answer ≡ true → P (unchanged_with s answer))
    → ((out : Transition) → TakesEffect parts s c out → P out) → (token : Option Text) (out : Transition) → Step parts s token c out → P out
Step-by_cases parts s c P returned_it acted token out step = elim (Way-of_Step parts s token c out step) as (λ o _. P o) [
  | nobody calls ↦ returned_it _ refl
  | misformed caller calls f form ↦ returned_it _ refl
  | refused_way caller calls form answer is ↦ returned_it answer (refused-is_step c (first_missing s c) (is_allowed s caller c) answer is)
  | acting caller calls form o is it ↦ acted o it
]

-- the one form of each step
pub Effect-of_Step : (parts : Primitives) (s : State) (token : Option Text) (c : Command) (out : Transition) → Step parts s token c out → Effect parts s c out
Effect-of_Step parts s token c out step = Step-by_cases parts s c (Effect parts s c) returned (Effect-of_TakesEffect parts s c) token out step

-- what is so of the state, and of what each change of it leaves, is so after a step
pub Step-keeps : (parts : Primitives) (s : State) (c : Command) (P : State → Type 0) → P s → ((t : State) → Change parts s c t → P t) → (token : Option Text) (out : Transition) → Step parts s token c out → P out.state
Step-keeps parts s c P here left token out step =
    elim (Effect-of_Step parts s token c out step) as (λ o _. P o.state) [ returned answer is ↦ here | changed t detail change ↦ left t change ]
