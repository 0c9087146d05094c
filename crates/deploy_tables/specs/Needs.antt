-- What a version needs in an environment, from the parts that are read. The clauses of `faults` and `needs` cite
-- `ListsFaults` and `ListsNeeds`, which say it in the machine's words; all else is for private clauses.
use Rattle.std.specs.Prelude.{Contains, ◌≡◌, ◌≢◌, ◌↔◌, ◌⊎◌, ◌&&◌, ◌||◌, not, List, [], ℕ, Bool, true, false, Option, Some, None, is_some, if◌then◌else◌, IsTrue}
use Rattle.std.specs.declared.cmp.Ordering.{Ordering}
use Rattle.std.specs.Ordering.{ordering_then}
use Rattle.std.specs.Option.{option_map_or, option_cmp}
use Rattle.broker_core.specs.declared.command.Version.{Version}
use Rattle.broker_core.specs.declared.need.Need.{Need}
use Rattle.broker_core.specs.declared.need.Latest.{Latest}
use Rattle.broker_core.specs.declared.need.PairFault.{PairFault}
use Rattle.broker_core.specs.Text.{Text, same_text, text_cmp, version}
use Rattle.broker_core.specs.State.{State, latest, is_strict}
use Rattle.broker_core.specs.Gate.{IsPresent, IsNeed, IsFault}
use Rattle.broker_core.specs.Faults.{kind_of, fault_cmp}
use Rattle.broker_core.specs.Listing.{Lists}
use Rattle.broker_tables.specs.Numbers.{number_of}
use Rattle.contract_tables.specs.declared.listings.Contract.{Contract}
use Rattle.contract_tables.specs.declared.version_results.LatestResult.{LatestResult}
use Rattle.contract_tables.specs.VersionResults.{latest_cmp, IsLatestOf}
use Rattle.deploy_tables.specs.Releases.{IsVersion, IsOfNumber}
use Rattle.deploy_tables.specs.declared.selected_needs.Selection.{Selection}
use Rattle.deploy_tables.specs.declared.selected_needs.Selection.TheVariants.{All, Open}
use Rattle.deploy_tables.specs.declared.selected_needs.Question.{Question}
use Rattle.deploy_tables.specs.declared.contracts_there.NumberedContract.{NumberedContract}

-- ---- the faults

-- these are the faults of v in e, in their order, if this says whether e is strict
abbrev pub AreFaults : State → Version → Text → Bool → List PairFault → Type 0
AreFaults s v e strict faults = is_strict s e ≡ strict → Lists fault_cmp (IsFault s v e) faults

-- the same of v, if it has this number
abbrev pub ListsFaults : State → ℕ → Version → Text → Bool → List PairFault → Type 0
ListsFaults s number v e strict faults = number_of s.versions v ≡ Some number → AreFaults s v e strict faults

-- ---- the needs

-- needs are in the order of faults: by consumer, its version, provider, its version (none first)
abbrev pub need_cmp : Need → Need → Ordering
need_cmp x y = ordering_then (text_cmp x.consumer y.consumer)
    (ordering_then (text_cmp x.consumer_version y.consumer_version)
    (ordering_then (text_cmp x.provider y.provider) (option_cmp text_cmp x.provider_version y.provider_version)))

-- these are the needs in e of the version of this number, each once, in their order; none if no version has it
abbrev pub ListsNeeds : State → ℕ → Text → List Need → Type 0
ListsNeeds s number e needs = IsOfNumber s number (λ v. Lists need_cmp (IsNeed s v e) needs) (needs ≡ [])

-- ---- what is read

-- v has this contract
abbrev pub IsOwnContract : State → Version → Contract → Type 0
IsOwnContract s v c = s.contracts (v, c.provider) ≡ Some c.content

-- these are the latest results of v, for each content that has one
abbrev pub AreLatestOf : State → Version → List LatestResult → Type 0
AreLatestOf s v results = Lists latest_cmp (IsLatestOf s v) results

-- the latest result for the contract c and the version of this number says so
abbrev pub IsSaidOf : State → Contract → ℕ → Option Latest → Type 0
IsSaidOf s c n said = (w : Version) → number_of s.versions w ≡ Some n → said ≡ latest s c.content w

-- each of these contracts is of a version
abbrev pub AreOfVersions : State → List NumberedContract → Type 0
AreOfVersions s contracts = (c : NumberedContract) → Contains contracts c → IsVersion c.number s

-- ---- the needs that are wanted

-- all of them are, or those of which something is lacking
abbrev pub is_selected : Selection → Need → Bool
is_selected All need = true
is_selected (Open strict) need = is_some (kind_of strict need.provider_version need.latest)

abbrev pub IsSelected : Selection → Need → Type 0
IsSelected selection need = IsTrue (is_selected selection need)

-- whether a need is good, by what the latest result for its contract says, if the provider has a version there
abbrev pub is_good : Bool → Option Latest → Bool
is_good strict said = option_map_or (λ l. l.pass && (l.checked || not strict)) said false

-- so it isn't wanted
abbrev pub is_left_out : Selection → Option Latest → Bool
is_left_out All said = false
is_left_out (Open strict) said = is_good strict said

-- so it is by one of these results, which is for this content
abbrev pub IsLeftOutBy : List LatestResult → Selection → ℕ → Type 0
IsLeftOutBy results selection content = (x : LatestResult) × Contains results x × (x.content ≡ content)
    × IsTrue (is_left_out selection (Some x.latest))

-- the need of a contract of v with this version of the provider
abbrev pub need_with : Version → Text → Option Text → Option Latest → Need
need_with v p partner said = record {
  consumer = v.pacticipant;
  consumer_version = v.name;
  provider = p;
  provider_version = partner;
  latest = said;
}

-- the need of a contract of w with the pacticipant of v, if w is a version of another
abbrev pub need_used : Version → Option Latest → Version → Option Need
need_used v said w =
    if same_text w.pacticipant v.pacticipant then None else Some (need_with w v.pacticipant (Some v.name) said)

-- ---- what is found of what is asked: q is the version in the environment

-- the list has these needs more than before, and no others
abbrev pub AddsNeeds : List Need → List Need → (Need → Type 0) → Type 0
AddsNeeds before now Are = (x : Need) → Contains now x ↔ (Contains before x ⊎ Are x)

-- the version has its number
abbrev pub HasItsNumber : State → Question → Type 0
HasItsNumber s q = number_of s.versions q.version.now ≡ Some q.number

-- a need that is wanted
abbrev pub IsWantedNeed : State → Question → Need → Type 0
IsWantedNeed s q x = IsNeed s q.version.now q.environment.now x × IsSelected q.selection x

-- the contract c of the version, with the version of this number
abbrev pub IsWithPartner : State → Question → Contract → ℕ → Need → Type 0
IsWithPartner s q c n x = (w : Version) × (number_of s.versions w ≡ Some n) × IsSelected q.selection x
    × (x ≡ need_with q.version.now c.provider (Some w.name) (latest s c.content w))

-- the contract c, with a version of its provider that is in the environment, or with none if no version of it is
abbrev pub IsNeedOfContract : State → Question → Contract → Need → Type 0
IsNeedOfContract s q c x = let e = q.environment.now in
    ((w : Text) × IsPresent s e (version c.provider w) × IsSelected q.selection x
    × (x ≡ need_with q.version.now c.provider (Some w) (latest s c.content (version c.provider w))))
    ⊎ (((w : Text) → ¬ (IsPresent s e (version c.provider w))) × (x ≡ need_with q.version.now c.provider None None))

-- the version is the consumer
abbrev pub IsOwnNeed : State → Question → Need → Type 0
IsOwnNeed s q x = (c : Contract) × IsOwnContract s q.version.now c × IsNeedOfContract s q c x

-- a contract of the version of another pacticipant that has this number, with the pacticipant of the version, and it
abbrev pub IsUsed : State → Question → NumberedContract → Need → Type 0
IsUsed s q c x = let v = q.version.now in
    (w : Version) × (number_of s.versions w ≡ Some c.number) × (w.pacticipant ≢ v.pacticipant)
    × IsSelected q.selection x × (x ≡ need_with w v.pacticipant (Some v.name) (latest s c.content v))

-- the version is the provider
abbrev pub IsNeedOfOthers : State → Question → Need → Type 0
IsNeedOfOthers s q x = (c : NumberedContract)
    × ((w : Version) × IsPresent s q.environment.now w × (number_of s.versions w ≡ Some c.number)
    × (s.contracts (w, q.version.now.pacticipant) ≡ Some c.content))
    × IsUsed s q c x
