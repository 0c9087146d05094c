-- A state that can be read back stays such.
use Rattle.std.specs.{Prelude.{Option, Some, None, IfSome, IsUtf8}, Option.{option_map_or}, List.{list_any}}
use Rattle.std.proofs.Common.{◌≡◌, ◌⊎◌, ◌∷◌, [], ◌++◌, ◌<◌, ℕ, List, refl, sym, ap, subst, inl, inr, Bool, true, false, ◌&&◌, ◌||◌, if◌then◌else◌, arith}
use Rattle.std.proofs.{lemmas.List.{length_push}, lemmas.Bool.Decides.{nat_tests}, lemmas.List.Elements.{All-nil, All-push}}
use Rattle.std.proofs.{lemmas.Str.{IsUtf8-nil, IsUtf8-from_ascii}, lemmas.Str.Ascii.{IsAscii-from_all}}
use Rattle.broker_core.specs.declared.command.Command.{Command}
use Rattle.broker_core.specs.declared.command.Command.TheVariants.{PutTeam, PutPacticipant, PutEnvironment, PutGrant, DeleteGrant, PutVersion, PutPact, GetPact, GetBranchPact, PostResult, PostReplies, Deploy, Undeploy, Release, EndSupport, GetEnvironment, CanIDeploy, GetMatrix, Malformed}
use Rattle.broker_core.specs.{declared.command.Marks.{Marks}, declared.command.Version.{Version}, declared.answer.Answer.TheVariants.{Full, NotPermitted}}
use Rattle.broker_core.specs.{declared.answer.Detail.{Detail}, Text.{Text, same_text, same_place, put_at}, Limit.{has_room}}
use Rattle.broker_core.specs.{State.{State as Broker, Verification}, Request.{is_known, consumer_version}}
use Rattle.broker_core.specs.Change.{Transition, unchanged_with, repeated, put_team, put_pacticipant, put_environment, put_version, with_version, with_branch, put_pact, with_content, is_stored, report, is_text, instance_of, can_name, on_branch}
use Rattle.broker_core.{specs.{Machine.{Primitives, TakesEffect, report_replies}, SoundNames.{IsDigest, IsHexDigit}}, proofs.Effects.{Step-by_cases}}
use Rattle.broker_core.proofs.{Lists.{Some-injective}, Judgement.{and_both, same_text-equal, same_place-equal}}
use Rattle.broker_tables.specs.{Readable.{IsReadable, IsNamed, AreFew}, Laws.{HasReadableNames, KeepsUtf8, ReadableBegins, ReadableStays, ReadableStaysInRuns}}

-- ---- a digest is in UTF-8

IsHexDigit-low : (b : ℕ) → IsHexDigit b → b < 128
IsHexDigit-low b (inl is) = omega arith
IsHexDigit-low b (inr is) = omega arith

pub IsDigest-IsUtf8 : (text : Text) → IsDigest text → IsUtf8 text
IsDigest-IsUtf8 text is = IsUtf8-from_ascii text (IsAscii-from_all text (λ k d lt. IsHexDigit-low _ (is.digits k d lt)))

-- ---- one place of a table

-- what is found was put there, or was there before
put_at-Some_sound : {K X : Type 0} (same : K → K → Bool) → ((x y : K) → same x y ≡ true → x ≡ y) → (table : K → Option X) (key : K) (value : X) (q : K) (x : X)
    → put_at same table key (Some value) q ≡ Some x → ((q ≡ key) × (value ≡ x)) ⊎ (table q ≡ Some x)
put_at-Some_sound {K} {X} same is table key value q x h =
    elim (same q key) as (λ b. same q key ≡ b → (if b then Some value else table q) ≡ Some x → ((q ≡ key) × (value ≡ x)) ⊎ (table q ≡ Some x)) [
      | true ↦ λ e there. inl (is q key e, Some-injective value x there)
      | false ↦ λ _ there. inr there
    ] refl h

put_at-None_sound : {K X : Type 0} (same : K → K → Bool) (table : K → Option X) (key q : K) (x : X) → put_at same table key None q ≡ Some x → table q ≡ Some x
put_at-None_sound {K} {X} same table key q x h =
    elim (same q key) as (λ b. (if b then None else table q) ≡ Some x → table q ≡ Some x) [ true ↦ λ none. absurd (cc) | false ↦ λ there. there ] h

-- ---- one more in a list

AreFew-append : {X : Type 0} (xs : List X) (x : X) → has_room xs ≡ true → AreFew (xs ++ x ∷ [])
AreFew-append xs x room = let more = length_push xs x in grind (arith, nat_tests, more)

-- ---- one table more or less

module _ (s : Broker) (n : IsReadable s) where
  IsReadable-teams : (teams : Text → Option Text) → ((team digest : Text) → teams team ≡ Some digest → IsNamed team × IsUtf8 digest) → IsReadable (record s { teams = teams })
  IsReadable-teams teams h = record { office = n.office; teams = h; pacticipants = n.pacticipants; versions = n.versions; contents = n.contents; instances = n.instances; few_versions = n.few_versions; few_contents = n.few_contents; few_results = n.few_results }

  IsReadable-pacticipants : (pacticipants : Text → Option Text) → ((p team : Text) → pacticipants p ≡ Some team → IsNamed p × IsNamed team) → IsReadable (record s { pacticipants = pacticipants })
  IsReadable-pacticipants pacticipants h = record { office = n.office; teams = n.teams; pacticipants = h; versions = n.versions; contents = n.contents; instances = n.instances; few_versions = n.few_versions; few_contents = n.few_contents; few_results = n.few_results }

  IsReadable-deployed : (deployed : Text × Text × Text → Option Text) → ((e p instance name : Text) → deployed (e, p, instance) ≡ Some name → IsUtf8 instance) → IsReadable (record s { deployed = deployed })
  IsReadable-deployed deployed h = record { office = n.office; teams = n.teams; pacticipants = n.pacticipants; versions = n.versions; contents = n.contents; instances = h; few_versions = n.few_versions; few_contents = n.few_contents; few_results = n.few_results }

  IsReadable-results : (results : List Verification) → AreFew results → IsReadable (record s { results = results })
  IsReadable-results results few = record { office = n.office; teams = n.teams; pacticipants = n.pacticipants; versions = n.versions; contents = n.contents; instances = n.instances; few_versions = n.few_versions; few_contents = n.few_contents; few_results = few }

  -- of these tables nothing is asked
  IsReadable-others : (branches : Version × Text → Bool) (environments : Text → Option Marks) (grants : Text × Text → Bool) (contracts : Version × Text → Option ℕ) (released : Text × Version → Bool)
      → IsReadable (record s { branches = branches; environments = environments; grants = grants; contracts = contracts; released = released })
  IsReadable-others branches environments grants contracts released = record { office = n.office; teams = n.teams; pacticipants = n.pacticipants; versions = n.versions; contents = n.contents; instances = n.instances; few_versions = n.few_versions; few_contents = n.few_contents; few_results = n.few_results }

  -- ---- what a command makes of the state

  -- the next state can be read back
  Leaves : Transition → Type 0
  Leaves out = IsReadable out.state

  Leaves-option_map_or : {X : Type 0} (f : X → Transition) (other : Transition) (o : Option X) → ((x : X) → Leaves (f x)) → Leaves other → Leaves (option_map_or f o other)
  Leaves-option_map_or f other None each h = h
  Leaves-option_map_or f other (Some x) each h = each x

  Leaves-if : (b : Bool) (x y : Transition) → (b ≡ true → Leaves x) → Leaves y → Leaves (if b then x else y)
  Leaves-if true x y h k = h refl
  Leaves-if false x y h k = k

  Leaves-repeated : (b : Bool) → Leaves (repeated s b)
  unfolding Leaves
  Leaves-repeated true = n
  Leaves-repeated false = n

  -- a version, if it may be named
  IsReadable-named : (v : Version) → IsNamed v.pacticipant × IsNamed v.name → can_name s v ≡ true → IsReadable (with_version s v)
  IsReadable-named v is can =
      elim (is_known s v) as (λ b. (b || has_room s.versions) ≡ true → IsReadable (if b then s else record s { versions = s.versions ++ v ∷ [] })) [
        | true ↦ λ _. n
        | false ↦ λ room. record { office = n.office; teams = n.teams; pacticipants = n.pacticipants; versions = All-push (λ (w : Version). IsNamed w.pacticipant × IsNamed w.name) s.versions v n.versions is; contents = n.contents; instances = n.instances; few_versions = AreFew-append s.versions v room; few_contents = n.few_contents; few_results = n.few_results }
      ] can

  -- a text, if there is room
  IsReadable-stored : (text : Text) → IsUtf8 text → (is_stored s text || has_room s.contents) ≡ true → IsReadable (with_content s text)
  IsReadable-stored text is can =
      elim (is_stored s text) as (λ b. (b || has_room s.contents) ≡ true → IsReadable (if b then s else record s { contents = s.contents ++ text ∷ [] })) [
        | true ↦ λ _. n
        | false ↦ λ room. record { office = n.office; teams = n.teams; pacticipants = n.pacticipants; versions = n.versions; contents = All-push IsUtf8 s.contents text n.contents is; instances = n.instances; few_versions = n.few_versions; few_contents = AreFew-append s.contents text room; few_results = n.few_results }
      ] can

-- naming a version leaves the texts
with_version-leaves_contents : (s : Broker) (v : Version) → s.contents ≡ (with_version s v).contents
with_version-leaves_contents s v = elim (is_known s v) as (λ b. s.contents ≡ (if b then s else record s { versions = s.versions ++ v ∷ [] }).contents) [ true ↦ refl | false ↦ refl ]

with_branch-IsReadable : (s : Broker) → IsReadable s → (v : Version) (branch : Option Text) → IsReadable (with_branch s v branch)
with_branch-IsReadable s n v None = n
with_branch-IsReadable s n v (Some branch) = IsReadable-others s n _ s.environments s.grants s.contracts s.released

instance_of-IsUtf8 : (instance : Option Text) → IfSome instance IsUtf8 → IsUtf8 (instance_of instance)
instance_of-IsUtf8 None is = IsUtf8-nil
instance_of-IsUtf8 (Some instance) is = is

module _ (parts : Primitives) (keeps : KeepsUtf8 parts) (s : Broker) (n : IsReadable s) where
  put_team-Leaves : (team token : Text) (is_taken : Bool) → IsNamed team → Leaves s n (put_team s team (parts.digest_of token) is_taken)
  unfolding Leaves
  put_team-Leaves team token is_taken named =
      Leaves-option_map_or s n _ _ (s.teams team) (λ old. Leaves-repeated s n _) (Leaves-if s n is_taken _ _ (λ _. n)
      (IsReadable-teams s n _ (λ t d there. elim (put_at-Some_sound same_text same_text-equal s.teams team (parts.digest_of token) t d there) [
        | inl new ↦ (subst IsNamed (sym new.0) named, subst IsUtf8 new.1 (keeps.digests token))
        | inr old ↦ n.teams t d old
      ])))

  put_pacticipant-Leaves : (p team : Text) → IsNamed p → IsNamed team → Leaves s n (put_pacticipant s p team)
  unfolding Leaves
  put_pacticipant-Leaves p team first second =
      Leaves-option_map_or s n _ _ (s.pacticipants p) (λ old. Leaves-repeated s n _)
      (IsReadable-pacticipants s n _ (λ q t there. elim (put_at-Some_sound same_text same_text-equal s.pacticipants p team q t there) [
        | inl new ↦ (subst IsNamed (sym new.0) first, subst IsNamed new.1 second)
        | inr old ↦ n.pacticipants q t old
      ]))

  put_environment-Leaves : (e : Text) (marks : Marks) → Leaves s n (put_environment s e marks)
  unfolding Leaves
  put_environment-Leaves e marks = Leaves-option_map_or s n _ _ (s.environments e) (λ old. Leaves-repeated s n _) (IsReadable-others s n s.branches _ s.grants s.contracts s.released)

  put_version-Leaves : (v : Version) (branch : Option Text) → IsNamed v.pacticipant × IsNamed v.name → Leaves s n (put_version s v branch)
  unfolding Leaves
  put_version-Leaves v branch is =
      Leaves-if s n (is_known s v && on_branch s v branch) _ _ (λ _. n)
      (Leaves-if s n (can_name s v) _ (unchanged_with s Full) (λ can. with_branch-IsReadable (with_version s v) (IsReadable-named s n v is can) v branch) n)

  put_pact-Leaves : (v : Version) (provider text : Text) → IsNamed v.pacticipant × IsNamed v.name → IsUtf8 text → Leaves s n (put_pact s v provider text)
  unfolding Leaves
  put_pact-Leaves v provider text is utf8 =
      Leaves-option_map_or s n _ _ (s.contracts (v, provider)) (λ content. n) (Leaves-if s n (can_name s v && (is_stored s text || has_room s.contents)) _ (unchanged_with s Full) (λ can.
      let both = and_both (can_name s v) (is_stored s text || has_room s.contents) can in
      let t = with_content (with_version s v) text in
      let room : (is_stored (with_version s v) text || has_room (with_version s v).contents) ≡ true = subst (λ texts. (list_any (same_text text) texts || has_room texts) ≡ true) (with_version-leaves_contents s v) both.1 in
      IsReadable-others t (IsReadable-stored (with_version s v) (IsReadable-named s n v is both.0) text utf8 room) t.branches t.environments t.grants _ t.released) n)

  report-Leaves : (r : Verification) (detail : ℕ → Detail) → IsNamed r.version.pacticipant × IsNamed r.version.name → Leaves s n (report s r detail)
  unfolding Leaves
  report-Leaves r detail is =
      Leaves-option_map_or s n _ _ _ (λ e. n) (Leaves-if s n (can_name s r.version && has_room s.results) _ (unchanged_with s Full) (λ can.
      let both = and_both (can_name s r.version) (has_room s.results) can in
      IsReadable-results (with_version s r.version) (IsReadable-named s n r.version is both.0) _ (AreFew-append s.results r both.1)) n)

  report_replies-Leaves : (content : ℕ) (v : Version) (run : Option Text) (failing : Option (List ℕ)) → IsNamed v.pacticipant × IsNamed v.name → Leaves s n (report_replies s content v run failing)
  unfolding Leaves
  report_replies-Leaves content v run None is = n
  report_replies-Leaves content v run (Some places) is = report-Leaves _ _ is

  Leaves-IsReadable : (out by : Transition) → out ≡ by → Leaves s n by → IsReadable out.state
  unfolding Leaves
  Leaves-IsReadable out by is h = subst (λ (o : Transition). IsReadable o.state) (sym is) h

  TakesEffect-IsReadable : (c : Command) (out : Transition) → HasReadableNames c → TakesEffect parts s c out → IsReadable out.state
  unfolding Leaves
  TakesEffect-IsReadable (PutTeam team token) out are x = Leaves-IsReadable out _ x.2 (put_team-Leaves team token _ (are.1, are.0.0))
  TakesEffect-IsReadable (PutPacticipant p team) out are x = Leaves-IsReadable out _ x (put_pacticipant-Leaves p team (are.1.0, are.0.0) (are.1.1, are.0.1))
  TakesEffect-IsReadable (PutEnvironment e marks) out are x = Leaves-IsReadable out _ x (put_environment-Leaves e marks)
  TakesEffect-IsReadable (PutGrant team e) out are x = Leaves-IsReadable out _ x (Leaves-if s n (s.grants (team, e)) _ _ (λ _. n) (IsReadable-others s n s.branches s.environments _ s.contracts s.released))
  TakesEffect-IsReadable (DeleteGrant team e) out are x = Leaves-IsReadable out _ x (Leaves-if s n (s.grants (team, e)) _ _ (λ _. IsReadable-others s n s.branches s.environments _ s.contracts s.released) n)
  TakesEffect-IsReadable (PutVersion v branch) out are x = Leaves-IsReadable out _ x (put_version-Leaves v branch ((are.1.0.0, are.0.0.0), (are.1.0.1, are.0.0.1)))
  TakesEffect-IsReadable (PutPact path file) out are x =
      Leaves-IsReadable out _ x.2 (put_pact-Leaves (consumer_version path) path.provider x.0 ((are.1.1, are.0.1), (are.1.2, are.0.2)) (keeps.pacts file path.consumer path.provider x.0 x.1))
  TakesEffect-IsReadable (GetPact path) out are x = Leaves-IsReadable out _ x.2 n
  TakesEffect-IsReadable (GetBranchPact provider consumer branch) out are x = Leaves-IsReadable out _ x.2.2 n
  TakesEffect-IsReadable (PostResult path r success) out are x = Leaves-IsReadable out _ x.2 (report-Leaves _ _ ((are.1.0.0, are.0.0.0), (are.1.1.0, are.0.1.0)))
  TakesEffect-IsReadable (PostReplies path r replies) out are x = Leaves-IsReadable out _ x.2.2.2 (report_replies-Leaves _ _ _ x.2.2.0 ((are.1.0.0, are.0.0.0), (are.1.1.0, are.0.1.0)))
  TakesEffect-IsReadable (Deploy e v instance) out are x =
      Leaves-IsReadable out _ x.3 (Leaves-if s n x.0 _ (unchanged_with s (NotPermitted x.1)) (λ _. Leaves-if s n (is_text v.name (s.deployed (e, v.pacticipant, instance_of instance))) _ _ (λ _. n)
      (IsReadable-deployed s n _ (λ f q j w there. elim (put_at-Some_sound same_place same_place-equal s.deployed (e, v.pacticipant, instance_of instance) v.name (f, q, j) w there) [
        | inl new ↦ subst IsUtf8 (sym (ap (λ (k : Text × Text × Text). k.2) new.0)) (instance_of-IsUtf8 instance are.1.2)
        | inr old ↦ n.instances f q j w old
      ]))) n)
  TakesEffect-IsReadable (Undeploy e v instance) out are x =
      Leaves-IsReadable out _ x (Leaves-if s n (is_text v.name (s.deployed (e, v.pacticipant, instance_of instance))) _ _
      (λ _. IsReadable-deployed s n _ (λ f q j w there. n.instances f q j w (put_at-None_sound same_place s.deployed (e, v.pacticipant, instance_of instance) (f, q, j) w there))) n)
  TakesEffect-IsReadable (Release e v) out are x =
      Leaves-IsReadable out _ x.3 (Leaves-if s n x.0 _ (unchanged_with s (NotPermitted x.1)) (λ _. Leaves-if s n (s.released (e, v)) _ _ (λ _. n) (IsReadable-others s n s.branches s.environments s.grants s.contracts _)) n)
  TakesEffect-IsReadable (EndSupport e v) out are x = Leaves-IsReadable out _ x (Leaves-if s n (s.released (e, v)) _ _ (λ _. IsReadable-others s n s.branches s.environments s.grants s.contracts _) n)
  TakesEffect-IsReadable (GetEnvironment e) out are x = Leaves-IsReadable out _ x.2.2.2 n
  TakesEffect-IsReadable (CanIDeploy v e) out are x = Leaves-IsReadable out _ x.2.3 n
  TakesEffect-IsReadable (GetMatrix v) out are x = Leaves-IsReadable out _ x.2 n
  TakesEffect-IsReadable (Malformed fault) out are x = absurd x

-- ---- the laws

pub ReadableBegins-holds : ReadableBegins
ReadableBegins-holds office is = record {
  office = is;
  teams = λ team digest there. absurd (cc);
  pacticipants = λ p team there. absurd (cc);
  versions = All-nil (λ (w : Version). IsNamed w.pacticipant × IsNamed w.name);
  contents = All-nil IsUtf8;
  instances = λ e p instance name there. absurd (cc);
  few_versions = omega arith;
  few_contents = omega arith;
  few_results = omega arith;
}

pub ReadableStays-holds : (parts : Primitives) → KeepsUtf8 parts → ReadableStays parts
ReadableStays-holds parts keeps s token c out are n x =
    Step-by_cases parts s c (λ (o : Transition). IsReadable o.state) (λ answer is. n) (λ o acts. TakesEffect-IsReadable parts keeps s n c o are acts) token out x

pub ReadableStaysInRuns-holds : (parts : Primitives) → KeepsUtf8 parts → ReadableStaysInRuns parts
ReadableStaysInRuns-holds parts keeps s last [] [] all n run = subst IsReadable (sym run) n
ReadableStaysInRuns-holds parts keeps s last (r ∷ rs) (a ∷ answers) all n run =
    ReadableStaysInRuns-holds parts keeps run.0 last rs answers all.1 (ReadableStays-holds parts keeps s r.token r.command _ all.0 n run.1) run.2
ReadableStaysInRuns-holds parts keeps s last _ _ all n run = absurd run
