-- What it means that a database holds a state of the broker, and how a call on the tables is stated by it.
use Rattle.std.specs.Prelude.{◌≡◌, ℕ, ℤ, pos, List, [], ◌∷◌, map, Bool, true, false, Option, Some, option_map, option_and_then, codes, Result}
use Rattle.std.specs.Option.{option_map_or}
use Rattle.std.specs.Ordering.{int_cmp}
use Rattle.sqlite.specs.Order.{Row, column}
use Rattle.sqlite.specs.Effect.{Database}
use Rattle.sqlite.specs.Held.{Held, state}
use Rattle.sqlite.specs.State.{State}
use Rattle.sqlite_trees.specs.declared.store.Store.{Ghosts}
use Rattle.sha2.specs.Sha256.{sha256}
use Rattle.hex.specs.Hex.{encode_lower}
use Rattle.table_access.specs.declared.StoreFault.{StoreFault}
use Rattle.table_access.specs.Calls.{CallsBetween, CallsStoreBetween}
use Rattle.table_access.specs.Columns.{text, text_cmp, whole_at, by_both}
use Rattle.table_access.specs.Sound.{IsKept}
use Rattle.broker_core.specs.declared.command.Version.{Version}
use Rattle.broker_core.specs.declared.command.Marks.{Marks}
use Rattle.broker_core.specs.Text.{Text, version}
use Rattle.broker_core.specs.State.{State as Broker, Verification, latest_result}
use Rattle.broker_tables.specs.Schema.{broker_schema, in_meta, in_teams, in_pacticipants, in_versions, in_branches}
use Rattle.broker_tables.specs.Schema.{in_environments, in_grants, in_contents, in_contracts, in_results, in_latest}
use Rattle.broker_tables.specs.Schema.{in_deployed, in_released, in_checked_results, in_strict_environments}
use Rattle.broker_tables.specs.Rows.{rows_of, truth, run_in, value_at, has_row_at}
use Rattle.broker_tables.specs.Room.{TakesRoom}
use Rattle.broker_tables.specs.Numbers.{numbered, number_of}

-- The tables are the broker's and each obeys its columns, keys, checks and references, and its rows are in the
-- order of their numbers.
pub record IsBroker (db : Database) : Type 0 where
  pub schema : db.schema ≡ broker_schema
  pub kept : IsKept db

-- the format of these tables
abbrev pub format : ℕ
format = 2

-- ---- what the rows of each table say of a state

-- one row: its number, the format, and the digest of the office's token
abbrev pub IsMeta : ℕ → Text → List Row → Type 0
IsMeta n office rows =
    map {B = ℤ × ℤ × Text} (λ r. (whole_at in_meta.one r, whole_at in_meta.format r, text in_meta.office_digest r)) rows
    ≡ (pos 1, pos n, office) ∷ []

-- a team: its name, and the digest of its token
abbrev pub AreTeams : (Text → Option Text) → List Row → Type 0
AreTeams teams rows =
    (team : Text) → value_at text_cmp (text in_teams.name) (text in_teams.token_digest) rows team ≡ teams team

-- a pacticipant: its name, and the team that owns it
abbrev pub ArePacticipants : (Text → Option Text) → List Row → Type 0
ArePacticipants pacticipants rows =
    (p : Text) → value_at text_cmp (text in_pacticipants.name) (text in_pacticipants.team) rows p ≡ pacticipants p

-- the versions in the order of their numbers, from 1 without gaps: the pacticipant, and the version's name
abbrev pub AreVersions : List Version → List Row → Type 0
AreVersions versions rows =
    map (λ r. (whole_at in_versions.number r, version (text in_versions.pacticipant r) (text in_versions.version r))) rows
    ≡ numbered versions

-- a version's number, and a branch that it is on
abbrev pub AreBranches : List Version → (Version × Text → Bool) → List Row → Type 0
AreBranches versions branches rows = (v : Version) (branch : Text)
    → option_map_or
    (λ n. has_row_at (by_both int_cmp text_cmp) (λ r. (whole_at in_branches.version_number r, text in_branches.branch r))
    rows (pos n, branch))
    (number_of versions v) false
    ≡ branches (v, branch)

-- an environment: its name, whether it is gated, and whether its name is among the strict ones
abbrev pub marks_in : List Row → Row → Marks
marks_in strict r = record {
  gated = truth in_environments.gated r;
  strict = has_row_at text_cmp (text in_strict_environments.environment) strict (text in_environments.name r);
}

abbrev pub AreEnvironments : (Text → Option Marks) → List Row → List Row → Type 0
AreEnvironments environments rows strict =
    (e : Text) → value_at text_cmp (text in_environments.name) (marks_in strict) rows e ≡ environments e

-- a team, and an environment for which it has a grant
abbrev pub AreGrants : (Text × Text → Bool) → List Row → Type 0
AreGrants grants rows = (team e : Text)
    → has_row_at (by_both text_cmp text_cmp) (λ r. (text in_grants.team r, text in_grants.environment r)) rows (team, e)
    ≡ grants (team, e)

-- a text with its digest
abbrev pub with_digest : Text → Text × Text
with_digest body = (encode_lower (sha256 body), body)

-- the normal texts of pacts in the order of their numbers, from 1 without gaps, each with its digest
abbrev pub AreContents : List Text → List Row → Type 0
AreContents contents rows =
    map (λ r. (whole_at in_contents.number r, (text in_contents.digest r, text in_contents.body r))) rows
    ≡ numbered (map with_digest contents)

-- a contract: the number of the consumer version, the provider, and the number of the content
abbrev pub AreContracts : List Version → (Version × Text → Option ℕ) → List Row → Type 0
AreContracts versions contracts rows = (v : Version) (provider : Text)
    → option_and_then
    (λ n. value_at (by_both int_cmp text_cmp) (λ r. (whole_at in_contracts.version_number r, text in_contracts.provider r))
    (whole_at in_contracts.content) rows (pos n, provider))
    (number_of versions v)
    ≡ option_map pos (contracts (v, provider))

-- a result without its number
pub record ResultRow : Type 0 where
  pub content : ℤ
  pub provider : Text
  -- the number of the provider's version
  pub version : Option ℤ
  pub pass : Bool
  pub checked : Bool
  -- none if its column says nothing of a run
  pub run : Option (Option Text)

-- as its row has it, and checked if its number is among the checked ones
abbrev pub result_in : List Row → Row → ResultRow
result_in checked r = record {
  content = whole_at in_results.content r;
  provider = text in_results.provider r;
  version = Some (whole_at in_results.provider_version r);
  pass = truth in_results.pass r;
  checked = has_row_at int_cmp (whole_at in_checked_results.result) checked (whole_at in_results.number r);
  run = run_in (whole_at in_results.number r) (column r in_results.run);
}

-- as the state has it: the provider is the pacticipant of the version
abbrev pub result_of : List Version → Verification → ResultRow
result_of versions r = record {
  content = pos r.content;
  provider = r.version.pacticipant;
  version = option_map pos (number_of versions r.version);
  pass = r.pass;
  checked = r.checked;
  run = Some r.run;
}

-- the results in the order of their numbers, from 1 without gaps
abbrev pub AreResults : List Version → List Verification → List Row → List Row → Type 0
AreResults versions results rows checked =
    map (λ r. (whole_at in_results.number r, result_in checked r)) rows ≡ numbered (map (result_of versions) results)

-- a content, the number of a version of the provider, and the number of the latest result for them
abbrev pub AreLatest : Broker → List Row → Type 0
AreLatest s rows = (content : ℕ) (v : Version)
    → option_and_then
    (λ n. value_at (by_both int_cmp int_cmp) (λ r. (whole_at in_latest.content r, whole_at in_latest.provider_version r))
    (whole_at in_latest.result) rows (pos content, pos n))
    (number_of s.versions v)
    ≡ option_map (λ e. pos e.0) (latest_result s content v)

-- the number in the row of an environment, a pacticipant and an instance, if there is one
abbrev pub number_at_place : List Row → Text × (Text × Text) → Option ℤ
number_at_place rows place =
    value_at (by_both text_cmp (by_both text_cmp text_cmp))
    (λ r. (text in_deployed.environment r, (text in_deployed.pacticipant r, text in_deployed.instance r)))
    (whole_at in_deployed.version_number) rows place

-- the number of the version of a pacticipant with this name, if there is such a version
abbrev pub number_named : List Version → Text → Text → Option ℤ
number_named versions p name = option_map pos (number_of versions (version p name))

-- An environment, a pacticipant and an instance have a row if and only if a version is deployed there: the row has the
-- number of the version, which is one of that pacticipant.
abbrev pub AreDeployed : List Version → (Text × Text × Text → Option Text) → List Row → Type 0
AreDeployed versions deployed rows = (e p instance : Text)
    → option_map Some (number_at_place rows (e, (p, instance)))
    ≡ option_map (number_named versions p) (deployed (e, p, instance))

-- an environment, and the number of a version that is released there
abbrev pub AreReleased : List Version → (Text × Version → Bool) → List Row → Type 0
AreReleased versions released rows = (e : Text) (v : Version)
    → option_map_or
    (λ n. has_row_at (by_both text_cmp int_cmp) (λ r. (text in_released.environment r, whole_at in_released.version_number r))
    rows (e, pos n))
    (number_of versions v) false
    ≡ released (e, v)

-- ---- the whole

-- The database holds the state: each field of the state is what the rows of its tables say. A database whose
-- rows break a rule holds none.
pub record Holds (db : Database) (s : Broker) : Type 0 where
  pub broker : IsBroker db
  pub meta : IsMeta format s.office (rows_of db (codes "meta"))
  pub teams : AreTeams s.teams (rows_of db (codes "teams"))
  pub pacticipants : ArePacticipants s.pacticipants (rows_of db (codes "pacticipants"))
  pub versions : AreVersions s.versions (rows_of db (codes "versions"))
  pub branches : AreBranches s.versions s.branches (rows_of db (codes "branches"))
  pub environments : AreEnvironments s.environments (rows_of db (codes "environments"))
      (rows_of db (codes "strict_environments"))
  pub grants : AreGrants s.grants (rows_of db (codes "grants"))
  pub contents : AreContents s.contents (rows_of db (codes "contents"))
  pub contracts : AreContracts s.versions s.contracts (rows_of db (codes "contracts"))
  pub results : AreResults s.versions s.results (rows_of db (codes "results")) (rows_of db (codes "checked_results"))
  pub latest : AreLatest s (rows_of db (codes "latest"))
  pub deployed : AreDeployed s.versions s.deployed (rows_of db (codes "deployed"))
  pub released : AreReleased s.versions s.released (rows_of db (codes "released"))

-- ---- how a call is stated

-- an answer about the state that the database holds, which is as it was
abbrev pub IsRead : {A : Type 0} → State → State → (A → Broker → Type 0) → A → Type 0
IsRead old new P a = (s : Broker) → Holds old.now s → P a s × (new.now ≡ old.now)

-- a query; `takes` is true if its answer may take memory
abbrev pub QueriesBetween : {A : Type 0} → Bool → State → State → Result A StoreFault → (A → Broker → Type 0) → Type 0
QueriesBetween takes old new r P = CallsBetween takes old new r (IsRead old new P)

-- the database holds this state now, and at most so many numbers of a table were taken
abbrev pub HoldsAfter : ℕ → State → State → Broker → Type 0
HoldsAfter taken old new t = Holds new.now t × TakesRoom taken old.now new.now

-- the state that the database holds leads to another, which it holds now
abbrev pub ChangesTakingBetween : ℕ → State → State → Result (Unit {0}) StoreFault → (Broker → Broker → Type 0) → Type 0
ChangesTakingBetween taken old new r Next =
    CallsStoreBetween old new r
    (λ _. (s : Broker) → Holds old.now s → (t : Broker) → Next s t → HoldsAfter taken old new t)

-- if the state that the database holds allows it, an answer, and another state that the database holds now
abbrev pub AnswersTakingBetween : {A : Type 0} → ℕ → State → State → Result A StoreFault → (Broker → Type 0)
    → (A → Broker → Broker → Type 0) → Type 0
AnswersTakingBetween taken old new r Allows Next =
    CallsStoreBetween old new r
    (λ a. (s : Broker) → Holds old.now s → Allows s → (t : Broker) × Next a s t × HoldsAfter taken old new t)

-- so does a call on the tables, which takes two numbers of a table at most
abbrev pub ChangesBetween : State → State → Result (Unit {0}) StoreFault → (Broker → Broker → Type 0) → Type 0
ChangesBetween = ChangesTakingBetween 2

abbrev pub ChangesAndAnswersBetween : {A : Type 0} → State → State → Result A StoreFault → (Broker → Type 0)
    → (A → Broker → Broker → Type 0) → Type 0
ChangesAndAnswersBetween = AnswersTakingBetween 2

-- ---- the same of a connection over this store

module _ {X : Type 0} (store : Ghosts X) (old new : Held X) where
  -- a query for whose answer there may be no room
  abbrev pub Queries : {A : Type 0} → Result A StoreFault → (A → Broker → Type 0) → Type 0
  Queries r P = QueriesBetween true (state store old) (state store new) r P

  abbrev pub ChangesTaking : ℕ → Result (Unit {0}) StoreFault → (Broker → Broker → Type 0) → Type 0
  ChangesTaking taken r Next = ChangesTakingBetween taken (state store old) (state store new) r Next

  abbrev pub Changes : Result (Unit {0}) StoreFault → (Broker → Broker → Type 0) → Type 0
  Changes r Next = ChangesBetween (state store old) (state store new) r Next

  abbrev pub AnswersTaking : {A : Type 0} → ℕ → Result A StoreFault → (Broker → Type 0)
      → (A → Broker → Broker → Type 0) → Type 0
  AnswersTaking taken r Allows Next = AnswersTakingBetween taken (state store old) (state store new) r Allows Next

  abbrev pub ChangesAndAnswers : {A : Type 0} → Result A StoreFault → (Broker → Type 0)
      → (A → Broker → Broker → Type 0) → Type 0
  ChangesAndAnswers r Allows Next = ChangesAndAnswersBetween (state store old) (state store new) r Allows Next
