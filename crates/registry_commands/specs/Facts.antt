-- what the registry's commands read of a state and decide of it, for the clauses of private functions: no public clause
-- cites it
use Rattle.std.specs.Prelude.{◌≡◌, ℕ, List, [], ◌∷◌, unwrap_or, Option, Some, None, is_some, false, true, IsTrue, length, option_map, string_bytes}
use Rattle.broker_core.specs.Text.{Text, put_at, same_text, same_pair}
use Rattle.broker_core.specs.State.{State as Broker}
use Rattle.broker_core.specs.Machine.{IsCallerOfDigest, StepOfCaller, fault_of_marks}
use Rattle.broker_core.specs.Change.{Transition, unchanged_with, done, with_version, with_branch, on_branch}
use Rattle.broker_core.specs.Limit.{has_room}
use Rattle.broker_core.specs.Request.{is_known}
use Rattle.broker_core.specs.declared.answer.Answer.{Answer}
use Rattle.broker_core.specs.declared.command.Command.TheVariants.{PutTeam, PutPacticipant, PutEnvironment, PutGrant, DeleteGrant, PutVersion}
use Rattle.broker_core.specs.declared.command.Marks.{Marks}
use Rattle.broker_core.specs.declared.command.Version.{Version}
use Rattle.broker_core.specs.declared.policy.Caller.{Caller}
use Rattle.broker_core.specs.declared.policy.Rule.TheVariants.{OwnerToPublish}
use Rattle.broker_tables.specs.Numbers.{number_of}
use Rattle.command_facts.specs.Primitives.{broker_primitives}
use Rattle.caller_facts.specs.Owners.{IsOwnerRead}
use Rattle.registry_commands.specs.declared.put_team.TeamFacts.{TeamFacts}
use Rattle.registry_commands.specs.declared.put_pacticipant.PacticipantFacts.{PacticipantFacts}
use Rattle.registry_commands.specs.declared.grants.GrantFacts.{GrantFacts}
use Rattle.registry_commands.specs.declared.versions.NumberFacts.{NumberFacts}
use Rattle.registry_commands.specs.declared.versions.RoomFacts.{RoomFacts}
use Rattle.registry_commands.specs.declared.versions.NamingFacts.{NamingFacts}

-- ---- a team

-- the digest of the team, and who has this one
pub record IsTeamRead (s : Broker) (team digest : Text) (found : TeamFacts) : Type 0 where
  pub team_is : s.teams team ≡ option_map string_bytes found.digest
  pub holder_is : IsCallerOfDigest s digest found.holder

-- a caller puts the team with the token of this digest
abbrev pub PutsTeam : Broker → Caller → Text → Text → Transition → Type 0
PutsTeam s caller team digest out =
    (token : Text) → digest ≡ broker_primitives.digest_of token
    → StepOfCaller broker_primitives s caller (PutTeam team token) out

-- in each state in which this was found, nothing changes and this is answered
abbrev pub AnswersPutTeam : Caller → Text → TeamFacts → Answer → Type 0
AnswersPutTeam caller digest found answer =
    (s : Broker) (team : Text) → IsTeamRead s team digest found → PutsTeam s caller team digest (unchanged_with s answer)

-- in each such state the team is new, and the command adds it
abbrev pub AddsNewTeam : Caller → Text → TeamFacts → Type 0
AddsNewTeam caller digest found =
    (s : Broker) (team : Text) → IsTeamRead s team digest found
    → (s.teams team ≡ None)
    × PutsTeam s caller team digest (done (record s { teams = put_at same_text s.teams team (Some digest) }))

-- ---- a pacticipant

-- whether the team is there, and the pacticipant's owner
pub record IsPacticipantRead (s : Broker) (p team : Text) (found : PacticipantFacts) : Type 0 where
  pub team_is : found.has_team ≡ is_some (s.teams team)
  pub owner_is : s.pacticipants p ≡ option_map string_bytes found.owner

-- in each state in which this was found, nothing changes and this is answered
abbrev pub AnswersPutPacticipant : Caller → Text → PacticipantFacts → Answer → Type 0
AnswersPutPacticipant caller team found answer =
    (s : Broker) (p : Text) → IsPacticipantRead s p team found
    → StepOfCaller broker_primitives s caller (PutPacticipant p team) (unchanged_with s answer)

-- in each such state the pacticipant is new, its team is there, and the command adds it
abbrev pub AddsNewPacticipant : Caller → Text → PacticipantFacts → Type 0
AddsNewPacticipant caller team found =
    (s : Broker) (p : Text) → IsPacticipantRead s p team found
    → (s.pacticipants p ≡ None) × IsTrue (is_some (s.teams team))
    × StepOfCaller broker_primitives s caller (PutPacticipant p team)
    (done (record s { pacticipants = put_at same_text s.pacticipants p (Some team) }))

-- ---- an environment

-- no environment may have these marks: this is answered
abbrev pub RefusesMarks : Marks → Answer → Type 0
RefusesMarks marks answer =
    (s : Broker) (e : Text) (caller : Caller)
    → StepOfCaller broker_primitives s caller (PutEnvironment e marks) (unchanged_with s answer)

-- in each state in which these old marks were found, nothing changes and this is answered
abbrev pub AnswersPutEnvironment : Caller → Option Marks → Marks → Answer → Type 0
AnswersPutEnvironment caller old marks answer =
    (s : Broker) (e : Text) → fault_of_marks marks ≡ None → s.environments e ≡ old
    → StepOfCaller broker_primitives s caller (PutEnvironment e marks) (unchanged_with s answer)

-- in each such state the environment is new, and the command adds it
abbrev pub AddsNewEnvironment : Caller → Option Marks → Marks → Type 0
AddsNewEnvironment caller old marks =
    (s : Broker) (e : Text) → fault_of_marks marks ≡ None → s.environments e ≡ old
    → (s.environments e ≡ None)
    × StepOfCaller broker_primitives s caller (PutEnvironment e marks)
    (done (record s { environments = put_at same_text s.environments e (Some marks) }))

-- ---- a grant

-- whether the team and the environment are there, and the grant
pub record IsGrantRead (s : Broker) (team e : Text) (found : GrantFacts) : Type 0 where
  pub team_is : is_some (s.teams team) ≡ found.has_team
  pub environment_is : is_some (s.environments e) ≡ found.has_environment
  pub grant_is : s.grants (team, e) ≡ found.has_grant

-- in each state in which this was found, nothing changes and this is answered
abbrev pub AnswersPutGrant : Caller → GrantFacts → Answer → Type 0
AnswersPutGrant caller found answer =
    (s : Broker) (team e : Text) → IsGrantRead s team e found
    → StepOfCaller broker_primitives s caller (PutGrant team e) (unchanged_with s answer)

-- in each such state the grant is new, its team and its environment are there, and the command adds it
abbrev pub AddsNewGrant : Caller → GrantFacts → Type 0
AddsNewGrant caller found =
    (s : Broker) (team e : Text) → IsGrantRead s team e found
    → IsTrue found.has_team × IsTrue found.has_environment × (found.has_grant ≡ false)
    × StepOfCaller broker_primitives s caller (PutGrant team e)
    (done (record s { grants = put_at (same_pair same_text same_text) s.grants (team, e) true }))

-- in each state in which this was found, nothing changes and this is answered
abbrev pub AnswersDeleteGrant : Caller → GrantFacts → Answer → Type 0
AnswersDeleteGrant caller found answer =
    (s : Broker) (team e : Text) → IsGrantRead s team e found
    → StepOfCaller broker_primitives s caller (DeleteGrant team e) (unchanged_with s answer)

-- in each such state the grant is there, and the command takes it away
abbrev pub TakesGrant : Caller → GrantFacts → Type 0
TakesGrant caller found =
    (s : Broker) (team e : Text) → IsGrantRead s team e found
    → (found.has_grant ≡ true)
    × StepOfCaller broker_primitives s caller (DeleteGrant team e)
    (done (record s { grants = put_at (same_pair same_text same_text) s.grants (team, e) false }))

-- ---- a version

-- the number of a version, and whether it is on the branch, if it is there
pub record IsNumberRead (s : Broker) (v : Version) (branch : Option Text) (found : NumberFacts) : Type 0 where
  pub number_is : number_of s.versions v ≡ found.number
  pub known_is : is_known s v ≡ is_some found.number
  pub on_is : is_some found.number ≡ true → on_branch s v branch ≡ found.is_on_branch

-- how many versions there are, and whether there is room for one more
pub record IsRoomRead (s : Broker) (found : RoomFacts) : Type 0 where
  pub count_is : found.count ≡ length s.versions
  pub room_is : has_room s.versions ≡ found.has_room

-- what naming a version asks of a state
pub record IsNamingRead (s : Broker) (caller : Caller) (v : Version) (branch : Option Text) (found : NamingFacts)
    : Type 0 where
  pub owner : IsOwnerRead s caller OwnerToPublish v.pacticipant false found.owner
  pub number : IsNumberRead s v branch found.number
  pub versions : IsRoomRead s found.versions

-- a version may be put on the branch, or be named and put there: its number, if it has one, and what its
-- pacticipant and the branch are
pub record CanJoin (s : Broker) (v : Version) (branch : Option Text) (number : Option ℕ) (count : ℕ) : Type 0 where
  pub number_is : number_of s.versions v ≡ number
  pub known_is : is_known s v ≡ is_some number
  pub owned : IsTrue (is_some (s.pacticipants v.pacticipant))
  pub room : is_some number ≡ false → has_room s.versions ≡ true
  pub count_is : count ≡ length s.versions
  pub apart : is_some number ≡ true → on_branch s v branch ≡ false

-- in each state in which this was found, nothing changes and this is answered
abbrev pub AnswersPutVersion : NamingFacts → Answer → Type 0
AnswersPutVersion found answer =
    (s : Broker) (caller : Caller) (v : Version) (branch : Option Text) → IsNamingRead s caller v branch found
    → StepOfCaller broker_primitives s caller (PutVersion v branch) (unchanged_with s answer)

-- in each such state the version may be named or join the branch, and the command does so
abbrev pub NamesOrJoins : NamingFacts → Type 0
NamesOrJoins found =
    (s : Broker) (caller : Caller) (v : Version) (branch : Option Text) → IsNamingRead s caller v branch found
    → CanJoin s v branch found.number.number found.versions.count
    × StepOfCaller broker_primitives s caller (PutVersion v branch) (done (with_branch (with_version s v) v branch))

-- the texts that are stored of a version and its branch
abbrev pub texts_of : Version → Option Text → List Text
texts_of v branch = v.pacticipant ∷ v.name ∷ unwrap_or branch [] ∷ []

-- the version is named, has this number, and is not on the branch
abbrev pub IsNamedApart : Version → Option Text → ℕ → Broker → Broker → Type 0
IsNamedApart v branch number s t =
    (t ≡ with_version s v) × (number_of t.versions v ≡ Some number)
    × ((b : Text) → branch ≡ Some b → t.branches (v, b) ≡ false)

-- the version of this number joins the branch, on which it isn't
abbrev pub JoinsBranch : ℕ → Option Text → Broker → Broker → Type 0
JoinsBranch number branch s t =
    (v : Version) × (number_of s.versions v ≡ Some number)
    × ((b : Text) → branch ≡ Some b → s.branches (v, b) ≡ false) × (t ≡ with_branch s v branch)

-- the version is named, and on the branch
abbrev pub RecordsVersion : Version → Option Text → Option ℕ → ℕ → Broker → Broker → Type 0
RecordsVersion v branch number count s t = CanJoin s v branch number count × (t ≡ with_branch (with_version s v) v branch)
