-- sound names stay sound
use Rattle.std.specs.Prelude.{Option, Some, None, IfSome, Contains}
use Rattle.std.proofs.{Common.{◌≡◌, ℕ, ◌∷◌, [], ◌++◌, List, sym, subst, inl, inr, refl, Bool, true, false, if◌then◌else◌, IsTrue}, lemmas.Bool.{false≢true}}
use Rattle.std.proofs.lemmas.List.Elements.{Contains-push_cases}
use Rattle.broker_core.specs.SoundNames.{IsDigest, VersionHasNames, IsInstance, HasSoundNames, AreNames, GivesDigests, NamesBegin, NamesStay, NamesStayInRuns}
use Rattle.broker_core.specs.{declared.command.Command.{Command}, declared.command.Version.{Version}, declared.command.Marks.{Marks}}
use Rattle.broker_core.specs.{Text.{Text, same_text, same_pair, same_place}, State.{State, Verification}, Request.{is_known, consumer_version}}
use Rattle.broker_core.specs.{Change.{content_number, instance_of}, Machine.{Primitives}}
use Rattle.broker_core.proofs.Effects.Change.{team, pacticipant, environment, grant, end_of_grant, named_version, contract, claim, check, deployment, end_of_deployment, release, end_of_support}
use Rattle.broker_core.proofs.Lists.{Some-injective, None-not_Some, Contains-empty}
use Rattle.broker_core.proofs.Judgement.{and_both, same_text-equal, same_pair-contract_equal, same_pair-mark_equal, same_place-equal, put_at-cases}
use Rattle.broker_core.proofs.Effects.{Change, Step-keeps, versions_with, branches_with, contents_with, with_result}
use Rattle.broker_names.specs.Name.{IsName}

same_pair-texts_equal : (x y : Text × Text) → same_pair same_text same_text x y ≡ true → x ≡ y
same_pair-texts_equal x y e = let both = and_both _ _ e in λ i. (same_text-equal x.0 y.0 both.0 i, same_text-equal x.1 y.1 both.1 i)

IsInstance-instance_of : (instance : Option Text) → IfSome instance IsName → IsInstance (instance_of instance)
IsInstance-instance_of None name = inl refl
IsInstance-instance_of (Some instance) name = inr name

-- ---- one table more or less

module _ (s : State) (n : HasSoundNames s) where
  HasSoundNames-teams : (teams : Text → Option Text) → ((team digest : Text) → teams team ≡ Some digest → IsName team × IsDigest digest) → HasSoundNames (record s { teams = teams })
  HasSoundNames-teams teams h = record { office = n.office; teams = h; pacticipants = n.pacticipants; versions = n.versions; branches = n.branches; environments = n.environments; grants = n.grants; contracts = n.contracts; results = n.results; deployed = n.deployed; released = n.released }

  HasSoundNames-pacticipants : (pacticipants : Text → Option Text) → ((p team : Text) → pacticipants p ≡ Some team → IsName p × IsName team) → HasSoundNames (record s { pacticipants = pacticipants })
  HasSoundNames-pacticipants pacticipants h = record { office = n.office; teams = n.teams; pacticipants = h; versions = n.versions; branches = n.branches; environments = n.environments; grants = n.grants; contracts = n.contracts; results = n.results; deployed = n.deployed; released = n.released }

  HasSoundNames-versions : (versions : List Version) → ((v : Version) → Contains versions v → VersionHasNames v) → HasSoundNames (record s { versions = versions })
  HasSoundNames-versions versions h = record { office = n.office; teams = n.teams; pacticipants = n.pacticipants; versions = h; branches = n.branches; environments = n.environments; grants = n.grants; contracts = n.contracts; results = n.results; deployed = n.deployed; released = n.released }

  HasSoundNames-branches : (branches : Version × Text → Bool) → ((v : Version) (branch : Text) → IsTrue (branches (v, branch)) → VersionHasNames v × IsName branch) → HasSoundNames (record s { branches = branches })
  HasSoundNames-branches branches h = record { office = n.office; teams = n.teams; pacticipants = n.pacticipants; versions = n.versions; branches = h; environments = n.environments; grants = n.grants; contracts = n.contracts; results = n.results; deployed = n.deployed; released = n.released }

  HasSoundNames-environments : (environments : Text → Option Marks) → ((e : Text) (marks : Marks) → environments e ≡ Some marks → IsName e) → HasSoundNames (record s { environments = environments })
  HasSoundNames-environments environments h = record { office = n.office; teams = n.teams; pacticipants = n.pacticipants; versions = n.versions; branches = n.branches; environments = h; grants = n.grants; contracts = n.contracts; results = n.results; deployed = n.deployed; released = n.released }

  HasSoundNames-grants : (grants : Text × Text → Bool) → ((team e : Text) → IsTrue (grants (team, e)) → IsName team × IsName e) → HasSoundNames (record s { grants = grants })
  HasSoundNames-grants grants h = record { office = n.office; teams = n.teams; pacticipants = n.pacticipants; versions = n.versions; branches = n.branches; environments = n.environments; grants = h; contracts = n.contracts; results = n.results; deployed = n.deployed; released = n.released }

  HasSoundNames-contents : (contents : List Text) → HasSoundNames (record s { contents = contents })
  HasSoundNames-contents contents = record { office = n.office; teams = n.teams; pacticipants = n.pacticipants; versions = n.versions; branches = n.branches; environments = n.environments; grants = n.grants; contracts = n.contracts; results = n.results; deployed = n.deployed; released = n.released }

  HasSoundNames-contracts : (contracts : Version × Text → Option ℕ) → ((v : Version) (provider : Text) (content : ℕ) → contracts (v, provider) ≡ Some content → VersionHasNames v × IsName provider) → HasSoundNames (record s { contracts = contracts })
  HasSoundNames-contracts contracts h = record { office = n.office; teams = n.teams; pacticipants = n.pacticipants; versions = n.versions; branches = n.branches; environments = n.environments; grants = n.grants; contracts = h; results = n.results; deployed = n.deployed; released = n.released }

  HasSoundNames-results : (results : List Verification) → ((r : Verification) → Contains results r → VersionHasNames r.version × IfSome r.run IsName) → HasSoundNames (record s { results = results })
  HasSoundNames-results results h = record { office = n.office; teams = n.teams; pacticipants = n.pacticipants; versions = n.versions; branches = n.branches; environments = n.environments; grants = n.grants; contracts = n.contracts; results = h; deployed = n.deployed; released = n.released }

  HasSoundNames-deployed : (deployed : Text × Text × Text → Option Text) → ((e p instance name : Text) → deployed (e, p, instance) ≡ Some name → IsName e × IsName p × IsInstance instance × IsName name) → HasSoundNames (record s { deployed = deployed })
  HasSoundNames-deployed deployed h = record { office = n.office; teams = n.teams; pacticipants = n.pacticipants; versions = n.versions; branches = n.branches; environments = n.environments; grants = n.grants; contracts = n.contracts; results = n.results; deployed = h; released = n.released }

  HasSoundNames-released : (released : Text × Version → Bool) → ((e : Text) (v : Version) → IsTrue (released (e, v)) → IsName e × VersionHasNames v) → HasSoundNames (record s { released = released })
  HasSoundNames-released released h = record { office = n.office; teams = n.teams; pacticipants = n.pacticipants; versions = n.versions; branches = n.branches; environments = n.environments; grants = n.grants; contracts = n.contracts; results = n.results; deployed = n.deployed; released = h }

-- ---- what a change leaves

module _ (parts : Primitives) (gives : GivesDigests parts) (s : State) (n : HasSoundNames s) where
  HasSoundNames-versions_with : (v : Version) → VersionHasNames v → HasSoundNames (record s { versions = versions_with s v })
  HasSoundNames-versions_with v is = HasSoundNames-versions s n (versions_with s v) (λ w there.
      elim (is_known s v) as (λ b. Contains (if b then s.versions else s.versions ++ v ∷ []) w → VersionHasNames w) [
        | true ↦ n.versions w
        | false ↦ λ new. elim (Contains-push_cases s.versions v w new) [ inl old ↦ n.versions w old | inr same ↦ subst VersionHasNames same is ]
      ] there)

  branches_with-sound : (v : Version) (branch : Option Text) → VersionHasNames v → IfSome branch IsName → (w : Version) (b : Text)
      → IsTrue (branches_with s v branch (w, b)) → VersionHasNames w × IsName b
  branches_with-sound v None is name w b there = n.branches w b there
  branches_with-sound v (Some branch) is name w b there = elim (put_at-cases _ same_pair-contract_equal s.branches (v, branch) true (w, b) true there) [
    | inl new ↦ subst (λ (k : Version × Text). VersionHasNames k.0 × IsName k.1) (sym new.0) (is, name)
    | inr old ↦ n.branches w b old
  ]

  HasSoundNames-with_result : (r : Verification) → VersionHasNames r.version × IfSome r.run IsName → HasSoundNames (with_result s r)
  HasSoundNames-with_result r are =
      HasSoundNames-results (record s { versions = versions_with s r.version }) (HasSoundNames-versions_with r.version are.0) (s.results ++ r ∷ [])
      (λ q there. elim (Contains-push_cases s.results r q there) [
        | inl old ↦ n.results q old
        | inr new ↦ subst (λ (x : Verification). VersionHasNames x.version × IfSome x.run IsName) new are
      ])

  HasSoundNames-after_change : (c : Command) (t : State) → AreNames c → Change parts s c t → HasSoundNames t
  HasSoundNames-after_change _ _ are (team name token new nobody) =
      HasSoundNames-teams s n _ (λ t d there. elim (put_at-cases same_text same_text-equal s.teams name (Some (parts.digest_of token)) t (Some d) there) [
        | inl put ↦ (subst IsName (sym put.0) are.0, subst IsDigest (Some-injective _ d put.1) (gives token))
        | inr old ↦ n.teams t d old
      ])
  HasSoundNames-after_change _ _ are (pacticipant p owner new) =
      HasSoundNames-pacticipants s n _ (λ q t there. elim (put_at-cases same_text same_text-equal s.pacticipants p (Some owner) q (Some t) there) [
        | inl put ↦ (subst IsName (sym put.0) are.0, subst IsName (Some-injective _ t put.1) are.1)
        | inr old ↦ n.pacticipants q t old
      ])
  HasSoundNames-after_change _ _ are (environment e marks new) =
      HasSoundNames-environments s n _ (λ q m there. elim (put_at-cases same_text same_text-equal s.environments e (Some marks) q (Some m) there) [
        | inl put ↦ subst IsName (sym put.0) are
        | inr old ↦ n.environments q m old
      ])
  HasSoundNames-after_change _ _ are (grant name e new) =
      HasSoundNames-grants s n _ (λ t f there. elim (put_at-cases _ same_pair-texts_equal s.grants (name, e) true (t, f) true there) [
        | inl put ↦ subst (λ (k : Text × Text). IsName k.0 × IsName k.1) (sym put.0) are
        | inr old ↦ n.grants t f old
      ])
  HasSoundNames-after_change _ _ are (end_of_grant name e stood) =
      HasSoundNames-grants s n _ (λ t f there. elim (put_at-cases _ same_pair-texts_equal s.grants (name, e) false (t, f) true there) [
        | inl put ↦ absurd (false≢true put.1)
        | inr old ↦ n.grants t f old
      ])
  HasSoundNames-after_change _ _ are (named_version v branch new) =
      HasSoundNames-branches (record s { versions = versions_with s v }) (HasSoundNames-versions_with v are.0) (branches_with s v branch) (branches_with-sound v branch are.0 are.1)
  HasSoundNames-after_change _ _ are (contract path file text new reads) =
      let v = consumer_version path in
      let number = content_number s text in
      let more = contents_with s.contents text in
      let first = HasSoundNames-contents (record s { versions = versions_with s v }) (HasSoundNames-versions_with v (are.1, are.2)) more in
      HasSoundNames-contracts (record s { versions = versions_with s v; contents = more }) first _
      (λ w q content there. elim (put_at-cases _ same_pair-contract_equal s.contracts (v, path.provider) (Some number) (w, q) (Some content) there) [
        | inl put ↦ subst (λ (k : Version × Text). VersionHasNames k.0 × IsName k.1) (sym put.0) ((are.1, are.2), are.0)
        | inr old ↦ n.contracts w q content old
      ])
  HasSoundNames-after_change _ _ are (claim path r success content row new) = HasSoundNames-with_result _ ((are.0.0, are.1.0), are.1.1)
  HasSoundNames-after_change _ _ are (check path r replies content failing row new) = HasSoundNames-with_result _ ((are.0.0, are.1.0), are.1.1)
  HasSoundNames-after_change _ _ are (deployment e v instance new) =
      let place : Text × Text × Text = (e, v.pacticipant, instance_of instance) in
      HasSoundNames-deployed s n _ (λ f q j w there. elim (put_at-cases same_place same_place-equal s.deployed place (Some v.name) (f, q, j) (Some w) there) [
        | inl put ↦
            subst (λ (k : Text × Text × Text). IsName k.0 × IsName k.1 × IsInstance k.2 × IsName w) (sym put.0)
            (are.0, are.1.0, IsInstance-instance_of instance are.2, subst IsName (Some-injective _ w put.1) are.1.1)
        | inr old ↦ n.deployed f q j w old
      ])
  HasSoundNames-after_change _ _ are (end_of_deployment e v instance stood) =
      let place : Text × Text × Text = (e, v.pacticipant, instance_of instance) in
      HasSoundNames-deployed s n _ (λ f q j w there. elim (put_at-cases same_place same_place-equal s.deployed place None (f, q, j) (Some w) there) [
        | inl put ↦ absurd (None-not_Some w put.1)
        | inr old ↦ n.deployed f q j w old
      ])
  HasSoundNames-after_change _ _ are (release e v new) =
      HasSoundNames-released s n _ (λ f w there. elim (put_at-cases _ same_pair-mark_equal s.released (e, v) true (f, w) true there) [
        | inl put ↦ subst (λ (k : Text × Version). IsName k.0 × VersionHasNames k.1) (sym put.0) are
        | inr old ↦ n.released f w old
      ])
  HasSoundNames-after_change _ _ are (end_of_support e v stood) =
      HasSoundNames-released s n _ (λ f w there. elim (put_at-cases _ same_pair-mark_equal s.released (e, v) false (f, w) true there) [
        | inl put ↦ absurd (false≢true put.1)
        | inr old ↦ n.released f w old
      ])

-- ---- the laws

pub NamesBegin-holds : NamesBegin
NamesBegin-holds office is = record {
  office = is;
  teams = λ team digest there. absurd (cc);
  pacticipants = λ p team there. absurd (cc);
  versions = λ v there. absurd (Contains-empty v there);
  branches = λ v branch there. absurd (cc);
  environments = λ e marks there. absurd (cc);
  grants = λ team e there. absurd (cc);
  contracts = λ v provider content there. absurd (cc);
  results = λ r there. absurd (Contains-empty r there);
  deployed = λ e p instance name there. absurd (cc);
  released = λ e v there. absurd (cc);
}

pub NamesStay-holds : (parts : Primitives) → GivesDigests parts → NamesStay parts
NamesStay-holds parts gives s token c out are n step = Step-keeps parts s c HasSoundNames n (λ t change. HasSoundNames-after_change parts gives s n c t are change) token out step

pub NamesStayInRuns-holds : (parts : Primitives) → GivesDigests parts → NamesStayInRuns parts
NamesStayInRuns-holds parts gives s last [] [] all n run = subst HasSoundNames (sym run) n
NamesStayInRuns-holds parts gives s last (r ∷ rs) (a ∷ answers) all n run =
    NamesStayInRuns-holds parts gives run.0 last rs answers all.1 (NamesStay-holds parts gives s r.token r.command _ all.0 n run.1) run.2
NamesStayInRuns-holds parts gives s last [] (a ∷ answers) all n run = absurd run
NamesStayInRuns-holds parts gives s last (r ∷ rs) [] all n run = absurd run
