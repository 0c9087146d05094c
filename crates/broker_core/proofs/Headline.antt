-- a deployment, and a release, is recorded if and only if it may be
use Rattle.std.specs.{Prelude.{Option, Some, None, IsTrue, IsSomeAnd, Contains, is_some, filter_map, option_and_then}, List.{list_any, cons_option}}
use Rattle.std.proofs.Common.{◌≡◌, ◌≢◌, ◌⊎◌, List, [], ◌∷◌, refl, sym, ◌∙◌, ap, subst, inl, inr, Bool, true, false, ◌&&◌, ◌||◌, if◌then◌else◌}
use Rattle.std.proofs.lemmas.Map.Views.{Contains-from_any}
use Rattle.broker_core.specs.declared.answer.Answer.TheVariants.{Done, Already, NotPermitted, Denied, Unknown}
use Rattle.broker_core.specs.Gate.{IsPresent, consumer_of, NeedsPresent, NeedsAbsent, NeedsAsProvider, IsNeed, IsGood, IsPermitted, Judges}
use Rattle.broker_core.specs.Request.{asks, refusal, refused, unless, is_known, has_grant}
use Rattle.broker_core.specs.Change.{Transition, unchanged_with, already, done, deploy, release, instance_of, is_text}
use Rattle.broker_core.specs.Headline.{IsVerified, AreVerified, NoneIsAbsent, PermitsVerified, NamesExist, HasCaller, IsGranted, MayBeRecorded, IsRefusal, IsRecordedExactly, DeploysExactly, ReleasesExactly}
use Rattle.broker_core.specs.{declared.policy.Caller.{Caller}, declared.policy.Caller.TheVariants.{Office, Team}, declared.command.Command.{Command}}
use Rattle.broker_core.specs.{declared.command.Command.TheVariants.{Deploy, Release}, declared.command.Version.{Version}}
use Rattle.broker_core.specs.{declared.command.FormFault.{FormFault}, declared.need.Need.{Need}, declared.need.Latest.{Latest}}
use Rattle.broker_core.specs.{declared.need.PairFault.{PairFault}, declared.answer.Answer.{Answer}, declared.answer.Detail.TheVariants.{Plain}}
use Rattle.broker_core.specs.{declared.answer.Missing.{Missing}, declared.policy.Rule.TheVariants.{KnownCaller, OwnerWithGrant}}
use Rattle.broker_core.specs.{Text.{Text, same_text, same_version, same_pair, same_place, put_at, version}, State.{State, latest, is_gated, is_strict}}
use Rattle.broker_core.specs.{Policy.{allows}, Machine.{Primitives, IsCallerOfToken, FindsFault, Step, TakesEffect}, Laws.{TeamsDiffer}}
use Rattle.broker_core.proofs.Lists.{Some-injective, None-not_Some, list_any-of_member}
use Rattle.broker_core.proofs.{Judgement.{same_text-equal, same_text-refl, and_both, same_version-equal, same_version-refl}, Once.{IsCallerOfToken-unique}}
use Rattle.broker_core.proofs.{Ways.{After, Way, Way-of_Step}, Ways.Way.{nobody, misformed, refused as refused_way, acting}}
use Rattle.broker_core.proofs.Retry.{put_at-same, place-refl, mark-refl}
use Rattle.broker_core.specs.declared.answer.Missing.TheVariants as missing

is_text-some : (text : Text) (o : Option Text) → is_text text o ≡ true → o ≡ Some text
is_text-some text None is = absurd (cc)
is_text-some text (Some old) is = ap Some (same_text-equal old text is)

-- after a deployment that the gate permits the row is there
deploy-records : (s : State) (e : Text) (v : Version) (instance : Text)
    → ((deploy s e v instance).state.deployed (e, v.pacticipant, instance) ≡ Some v.name) × (((deploy s e v instance).answer ≡ Done Plain) ⊎ ((deploy s e v instance).answer ≡ Already Plain))
deploy-records s e v instance = by_old (is_text v.name (s.deployed (e, v.pacticipant, instance))) refl
  where
    by_old : (b : Bool) → is_text v.name (s.deployed (e, v.pacticipant, instance)) ≡ b
        → let next = record s { deployed = put_at same_place s.deployed (e, v.pacticipant, instance) (Some v.name) } in
        let out = if b then already s else done next in
        (out.state.deployed (e, v.pacticipant, instance) ≡ Some v.name) × ((out.answer ≡ Done Plain) ⊎ (out.answer ≡ Already Plain))
    by_old true is = (is_text-some v.name _ is, inr refl)
    by_old false is = (put_at-same same_place s.deployed (e, v.pacticipant, instance) (Some v.name) (place-refl (e, v.pacticipant, instance)), inl refl)

-- after a release that the gate permits the row is there
release-records : (s : State) (e : Text) (v : Version)
    → ((release s e v).state.released (e, v) ≡ true) × (((release s e v).answer ≡ Done Plain) ⊎ ((release s e v).answer ≡ Already Plain))
release-records s e v = by_old (s.released (e, v)) refl
  where
    by_old : (b : Bool) → s.released (e, v) ≡ b
        → let next = record s { released = put_at (same_pair same_text same_version) s.released (e, v) true } in
        let out = if b then already s else done next in
        (out.state.released (e, v) ≡ true) × ((out.answer ≡ Done Plain) ⊎ (out.answer ≡ Already Plain))
    by_old true is = (is, inr refl)
    by_old false is = (put_at-same (same_pair same_text same_version) s.released (e, v) true (mark-refl (e, v)), inl refl)

-- the answers that say that the row is there
abbrev says_recorded : Answer → Bool
says_recorded (Done detail) = true
says_recorded (Already detail) = true
says_recorded _ = false

says_recorded-differs : (answer : Answer) → says_recorded answer ≡ false → ¬ ((answer ≡ Done Plain) ⊎ (answer ≡ Already Plain))
says_recorded-differs answer other (inl is) = let wrong : false ≡ true = sym other ∙ ap says_recorded is in cc
says_recorded-differs answer other (inr is) = let wrong : false ≡ true = sym other ∙ ap says_recorded is in cc

-- what the owner's rule asks of the caller
owns : State → Text → Version → Caller → Bool
owns s e v caller = allows OwnerWithGrant caller (filter_map s.pacticipants (v.pacticipant ∷ [])) (has_grant s caller (Some e))

module _ (parts : Primitives) (s : State) (token : Option Text) (e : Text) (v : Version) (one : TeamsDiffer s) where
  -- what was recorded might be; or it was refused, might not be, and nothing changed
  Ends : (State → Type 0) → Transition → Type 0
  Ends IsRecorded out =
      (MayBeRecorded parts s token e v × ((out.answer ≡ Done Plain) ⊎ (out.answer ≡ Already Plain)) × IsRecorded out.state)
      ⊎ ((answer : Answer) × (out ≡ unchanged_with s answer) × IsRefusal parts s token e v answer × (¬ (MayBeRecorded parts s token e v)) × ¬ ((answer ≡ Done Plain) ⊎ (answer ≡ Already Plain)))

  IsRecordedExactly-of_Ends : (IsRecorded : State → Type 0) (out : Transition) → Ends IsRecorded out → IsRecordedExactly parts s token e v IsRecorded out
  unfolding Ends
  IsRecordedExactly-of_Ends IsRecorded out (inl may) = record { recorded = (λ _. may.0, λ _. (may.1, may.2)); refused = λ bars. absurd (bars may.0) }
  IsRecordedExactly-of_Ends IsRecorded out (inr returned) = record {
    recorded = (λ h. absurd (returned.4 (subst (λ (o : Transition). (o.answer ≡ Done Plain) ⊎ (o.answer ≡ Already Plain)) returned.1 h.0)), λ may. absurd (returned.3 may));
    refused = λ _. (subst (IsRefusal parts s token e v) (sym (ap (λ o. o.answer) returned.1)) returned.2, ap (λ o. o.state) returned.1);
  }

  -- a caller that the owner's rule permits is granted
  IsGranted-of_owns : (caller : Caller) → IsCallerOfToken parts s token (Some caller) → owns s e v caller ≡ true → IsGranted parts s token e v
  unfolding owns
  IsGranted-of_owns Office called h = absurd (cc)
  IsGranted-of_owns (Team team) called h = by_owner (s.pacticipants v.pacticipant) refl (and_both (list_any (same_text team) (filter_map s.pacticipants (v.pacticipant ∷ []))) (s.grants (team, e)) h)
    where
      or_first : (b : Bool) → (b || false) ≡ true → b ≡ true
      or_first true k = refl
      or_first false k = k

      by_owner : (o : Option Text) → s.pacticipants v.pacticipant ≡ o → (list_any (same_text team) (cons_option (s.pacticipants v.pacticipant) []) ≡ true) × (s.grants (team, e) ≡ true) → IsGranted parts s token e v
      by_owner None is both = let wrong : false ≡ true = ap (λ o. list_any (same_text team) (cons_option o [])) (sym is) ∙ both.0 in absurd (cc)
      by_owner (Some owner) is both =
          let same = or_first (same_text team owner) (ap (λ o. list_any (same_text team) (cons_option o [])) (sym is) ∙ both.0) in
          record { team = team; caller = called; owner = is ∙ ap Some (sym (same_text-equal team owner same)); grant = both.1 }

  -- and a granted caller is permitted by it
  owns-of_IsGranted : (caller : Caller) → IsCallerOfToken parts s token (Some caller) → IsGranted parts s token e v → owns s e v caller ≡ true
  unfolding owns
  owns-of_IsGranted caller called g =
      let is = Some-injective caller (Team g.team) (IsCallerOfToken-unique parts s token one (Some caller) (Some (Team g.team)) called g.caller) in
      ap (owns s e v) is
      ∙ ap (λ o. list_any (same_text g.team) (cons_option o []) && s.grants (g.team, e)) g.owner
      ∙ ap (λ b. (b || false) && s.grants (g.team, e)) (same_text-refl g.team) ∙ g.grant

  Ends-refused : (IsRecorded : State → Type 0) (out : Transition) (answer : Answer) → out ≡ unchanged_with s answer → IsRefusal parts s token e v answer → ¬ (MayBeRecorded parts s token e v)
      → ¬ ((answer ≡ Done Plain) ⊎ (answer ≡ Already Plain)) → Ends IsRecorded out
  unfolding Ends
  Ends-refused IsRecorded out answer is case bars other = inr (answer, is, case, bars, other)

  -- what the gate makes of one who is granted
  Ends-judged : (IsRecorded : State → Type 0) (next out : Transition) → IsRecorded next.state → (next.answer ≡ Done Plain) ⊎ (next.answer ≡ Already Plain)
      → NamesExist s e v → IsGranted parts s token e v
      → (permitted : Bool) (faults : List PairFault) → Judges s v e permitted faults → out ≡ (if permitted then next else unchanged_with s (NotPermitted faults))
      → Ends IsRecorded out
  unfolding Ends
  Ends-judged IsRecorded next out is_present answered names granted true faults judges is =
      inl (
        record { names = names; granted = granted; permitted = judges.verdict.0 refl },
        subst (λ (o : Transition). (o.answer ≡ Done Plain) ⊎ (o.answer ≡ Already Plain)) (sym is) answered,
        subst (λ (o : Transition). IsRecorded o.state) (sym is) is_present,
      )
  Ends-judged IsRecorded next out is_present answered names granted false faults judges is =
      let bars : ¬ (IsPermitted s v e) = λ allowed. let wrong : false ≡ true = judges.verdict.1 allowed in absurd (cc) in
      Ends-refused IsRecorded out (NotPermitted faults) is (names, granted, bars, judges.faults_are) (λ may. bars may.permitted) (says_recorded-differs _ refl)

  -- the first name that isn't there
  abbrev absent : Option Missing
  absent = unless (is_some (s.environments e)) missing.Environment (unless (is_some (s.pacticipants v.pacticipant)) missing.Pacticipant (unless (is_known s v) missing.Version None))

  -- a known caller's command, name by name, then the policy, then what the gate makes of it
  Ends-by_caller : (IsRecorded : State → Type 0) (out : Transition) (c : Command) → (asks c).rule ≡ OwnerWithGrant → (caller : Caller) → IsCallerOfToken parts s token (Some caller)
      → (NamesExist s e v → IsGranted parts s token e v → TakesEffect parts s c out → Ends IsRecorded out) → After parts s c out (refused c absent (owns s e v caller)) → Ends IsRecorded out
  Ends-by_caller IsRecorded out c rule caller called acts h = by_names (is_some (s.environments e)) (is_some (s.pacticipants v.pacticipant)) (is_known s v) (owns s e v caller) refl refl refl refl h
    where
      known : HasCaller parts s token e v
      known = (caller, called)

      clash : (b : Bool) → b ≡ false → b ≡ true → ⊥
      clash b off on = let wrong : false ≡ true = sym off ∙ on in cc

      by_names : (env pac ver own : Bool) → is_some (s.environments e) ≡ env → is_some (s.pacticipants v.pacticipant) ≡ pac → is_known s v ≡ ver → owns s e v caller ≡ own
          → After parts s c out (refused c (unless env missing.Environment (unless pac missing.Pacticipant (unless ver missing.Version None))) own)
          → Ends IsRecorded out
      by_names false pac ver own a b k d is =
          Ends-refused IsRecorded out (Unknown missing.Environment) is (known, a) (λ may. clash _ a may.names.environment) (says_recorded-differs _ refl)
      by_names true false ver own a b k d is =
          Ends-refused IsRecorded out (Unknown missing.Pacticipant) is (known, (a, b)) (λ may. clash _ b may.names.pacticipant) (says_recorded-differs _ refl)
      by_names true true false own a b k d is =
          let bars : ¬ (Contains s.versions v) = λ there. clash _ k (list_any-of_member (same_version v) s.versions v there (same_version-refl v)) in
          Ends-refused IsRecorded out (Unknown missing.Version) is (known, (a, b, bars)) (λ may. bars may.names.version) (says_recorded-differs _ refl)
      by_names true true true own a b k d is =
          let names : NamesExist s e v = record { environment = a; pacticipant = b; version = Contains-from_any same_version-equal v s.versions k } in
          by_owner own d names is
        where
          by_owner : (own : Bool) → owns s e v caller ≡ own → NamesExist s e v → After parts s c out (refused c None own) → Ends IsRecorded out
          by_owner true d names is = acts names (IsGranted-of_owns caller called d) is
          by_owner false d names is =
              let bars : ¬ (IsGranted parts s token e v) = λ g. clash _ d (owns-of_IsGranted caller called g) in
              Ends-refused IsRecorded out (Denied OwnerWithGrant) (is ∙ ap (λ r. unchanged_with s (Denied r)) rule) (known, names, bars) (λ may. bars may.granted) (says_recorded-differs _ refl)

  -- the whole step
  Ends-by_step : (IsRecorded : State → Type 0) (out : Transition) (c : Command) → (asks c).rule ≡ OwnerWithGrant → ((f : Option FormFault) → FindsFault parts c f → f ≡ None)
      → ((caller : Caller) → refusal s caller c ≡ refused c absent (owns s e v caller))
      → (NamesExist s e v → IsGranted parts s token e v → TakesEffect parts s c out → Ends IsRecorded out)
      → Step parts s token c out → Ends IsRecorded out
  Ends-by_step IsRecorded out c rule formed asked acts step = by_way out (Way-of_Step parts s token c out step) acts
    where
      as_asked : (caller : Caller) (r : Option Answer) (o : Transition) → refusal s caller c ≡ r → After parts s c o r → After parts s c o (refused c absent (owns s e v caller))
      as_asked caller r o is = subst (After parts s c o) (sym is ∙ asked caller)

      no_one : IsCallerOfToken parts s token None → ¬ (MayBeRecorded parts s token e v)
      no_one called may = let wrong = IsCallerOfToken-unique parts s token one None (Some (Team may.granted.team)) called may.granted.caller in cc

      by_way : (o : Transition) → Way parts s token c o → (NamesExist s e v → IsGranted parts s token e v → TakesEffect parts s c o → Ends IsRecorded o) → Ends IsRecorded o
      by_way _ (nobody called) acts = Ends-refused IsRecorded _ (Denied KnownCaller) refl called (no_one called) (says_recorded-differs _ refl)
      by_way _ (misformed caller called f form) acts = absurd (None-not_Some f (sym (formed (Some f) form)))
      by_way _ (refused_way caller called form answer is) acts = Ends-by_caller IsRecorded _ c rule caller called acts (as_asked caller (Some answer) _ is refl)
      by_way _ (acting caller called form o is it) acts = Ends-by_caller IsRecorded o c rule caller called acts (as_asked caller None o is it)

pub DeploysExactly-holds : (parts : Primitives) → DeploysExactly parts
unfolding owns
DeploysExactly-holds parts s token e v instance out one step =
    let IsRecorded : State → Type 0 = λ t. t.deployed (e, v.pacticipant, instance_of instance) ≡ Some v.name in
    let is_present = deploy-records s e v (instance_of instance) in
    IsRecordedExactly-of_Ends parts s token e v one IsRecorded out
    (Ends-by_step parts s token e v one IsRecorded out (Deploy e v instance) refl (λ f is. is) (λ caller. refl)
    (λ names granted acts. Ends-judged parts s token e v one IsRecorded (deploy s e v (instance_of instance)) out is_present.0 is_present.1 names granted acts.0 acts.1 acts.2 acts.3)
    step)

pub ReleasesExactly-holds : (parts : Primitives) → ReleasesExactly parts
unfolding owns
ReleasesExactly-holds parts s token e v out one step =
    let IsRecorded : State → Type 0 = λ t. IsTrue (t.released (e, v)) in
    let is_present = release-records s e v in
    IsRecordedExactly-of_Ends parts s token e v one IsRecorded out
    (Ends-by_step parts s token e v one IsRecorded out (Release e v) refl (λ f is. is) (λ caller. refl)
    (λ names granted acts. Ends-judged parts s token e v one IsRecorded (release s e v) out is_present.0 is_present.1 names granted acts.0 acts.1 acts.2 acts.3)
    step)

-- ---- what is permitted in a gated environment

module _ (s : State) (v : Version) (e : Text) where
  need_of : Version → Text → Option Text → Option Latest → Need
  need_of consumer provider name latest = record { consumer = consumer.pacticipant; consumer_version = consumer.name; provider = provider; provider_version = name; latest = latest }

  -- a AreVerified-of_good_needs pair is a good need
  AreVerified-of_good_needs : ((need : Need) → IsNeed s v e need → IsGood (is_strict s e) need) → AreVerified s v e
  unfolding need_of
  AreVerified-of_good_needs good consumer provider content between =
      (good (need_of consumer provider.pacticipant (Some provider.name) (latest s content provider))
      (record { content = content; contract = between.contract; between = sides between.partner; result = refl })).1
    where
      sides : ((consumer ≡ v) × IsPresent s e provider) ⊎ ((provider ≡ v) × IsPresent s e consumer × (consumer.pacticipant ≢ v.pacticipant))
          → let need = need_of consumer provider.pacticipant (Some provider.name) (latest s content provider) in
          NeedsPresent s v e need ⊎ (NeedsAbsent s v e need ⊎ NeedsAsProvider s v e need)
      sides (inl h) = inl (h.0, h.1)
      sides (inr h) = inr (inr (h.2, h.1, ap (λ (w : Version). w.pacticipant) h.0, ap (λ (w : Version). Some w.name) h.0))

  NoneIsAbsent-of_good_needs : ((need : Need) → IsNeed s v e need → IsGood (is_strict s e) need) → NoneIsAbsent s v e
  unfolding need_of
  NoneIsAbsent-of_good_needs good provider content contract absent =
      let is = (good (need_of v provider None None) (record { content = content; contract = contract; between = inr (inl (refl, refl, absent)); result = refl })).0 in
      let wrong : false ≡ true = is in cc

  IsGood-of_verified : AreVerified s v e × NoneIsAbsent s v e → (need : Need) → IsNeed s v e need → IsGood (is_strict s e) need
  IsGood-of_verified both need is = by_side is.between
    where
      at : (name : Text) → need.provider_version ≡ Some name → IsVerified s e (version need.provider name) is.content → IsGood (is_strict s e) need
      at name e' good = (
        ap is_some e',
        subst (λ o. IsSomeAnd o (λ latest. IsTrue latest.pass × (IsTrue (is_strict s e) → IsTrue latest.checked)))
            (sym (is.result ∙ ap (option_and_then (λ w. latest s is.content (version need.provider w))) e')) good,
      )

      by_side : NeedsPresent s v e need ⊎ (NeedsAbsent s v e need ⊎ NeedsAsProvider s v e need) → IsGood (is_strict s e) need
      by_side (inl h) = standing need.provider_version refl h.1
        where
          standing : (o : Option Text) → need.provider_version ≡ o → IsSomeAnd o (λ w. IsPresent s e (version need.provider w)) → IsGood (is_strict s e) need
          standing None e' there = absurd there
          standing (Some name) e' there = at name e' (both.0 (consumer_of need) (version need.provider name) is.content (record { contract = is.contract; partner = inl (h.0, there) }))
      by_side (inr (inl h)) = absurd (both.1 need.provider is.content (subst (λ w. s.contracts (w, need.provider) ≡ Some is.content) h.0 is.contract) h.2)
      by_side (inr (inr h)) =
          at v.name h.3 (both.0 (consumer_of need) (version need.provider v.name) is.content (record { contract = is.contract; partner = inr (ap (λ p. version p v.name) h.2, h.1, h.0) }))

pub PermitsVerified-holds : PermitsVerified
PermitsVerified-holds s v e = (forth, back (is_gated s e) refl)
  where
    forth : IsPermitted s v e → IsTrue (is_gated s e) → AreVerified s v e × NoneIsAbsent s v e
    forth (inl good) gated = (AreVerified-of_good_needs s v e good, NoneIsAbsent-of_good_needs s v e good)
    forth (inr ungated) gated = let wrong : false ≡ true = sym ungated ∙ gated in absurd (cc)

    back : (gated : Bool) → is_gated s e ≡ gated → (IsTrue (is_gated s e) → AreVerified s v e × NoneIsAbsent s v e) → IsPermitted s v e
    back true gated h = inl (IsGood-of_verified s v e (h gated))
    back false ungated h = inr ungated
