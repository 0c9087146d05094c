-- what a permitted command answers and changes (this project's own choice; deployments, releases and
-- branches as the Pact Broker keeps them)
use Rattle.std.specs.Prelude.{◌+◌, ◌-◌, ◌==◌, ℕ, [], ◌∷◌, ◌++◌, length, Bool, true, false, ◌&&◌, ◌||◌, Option, Some, None, option_and_then, slice_get, if◌then◌else◌}
use Rattle.std.specs.Option.{option_map_or}
use Rattle.std.specs.List.{list_any, position_or_len}
use Rattle.broker_core.specs.declared.command.Version.{Version}
use Rattle.broker_core.specs.declared.command.Marks.{Marks}
use Rattle.broker_core.specs.declared.answer.Answer.{Answer}
use Rattle.broker_core.specs.declared.answer.Answer.TheVariants.{Done, Already, Taken, Full, Unknown}
use Rattle.broker_core.specs.declared.answer.Detail.{Detail}
use Rattle.broker_core.specs.declared.answer.Detail.TheVariants.{Plain, Content}
use Rattle.broker_core.specs.declared.answer.Clash.TheVariants as clash
use Rattle.broker_core.specs.declared.answer.Missing.TheVariants as missing
use Rattle.broker_core.specs.Text.{Text, same_bool, same_text, same_version, same_pair, same_place, put_at}
use Rattle.broker_core.specs.State.{State, Verification, last_row}
use Rattle.broker_core.specs.Limit.{has_room}
use Rattle.broker_core.specs.Request.{is_known}

-- an answer and the next state
pub record Transition : Type 0 where
  pub answer : Answer
  pub state : State

-- answered, and nothing changes
abbrev pub unchanged_with : State → Answer → Transition
unchanged_with s answer = record { answer = answer; state = s }

abbrev pub already : State → Transition
already s = unchanged_with s (Already Plain)

-- answered Done, and this is the next state
abbrev pub done : State → Transition
done next = record { answer = Done Plain; state = next }

-- what is there is the same, or its name is taken
abbrev pub repeated : State → Bool → Transition
repeated s true = already s
repeated s false = unchanged_with s (Taken clash.Name)

-- a team with the digest of its token; is_taken says whether a caller has that digest already
abbrev pub put_team : State → Text → Text → Bool → Transition
put_team s team digest is_taken = option_map_or (λ old. repeated s (same_text old digest)) (s.teams team)
    (if is_taken then unchanged_with s (Taken clash.Token)
    else done (record s { teams = put_at same_text s.teams team (Some digest) }))

-- a pacticipant with the team that owns it
abbrev pub put_pacticipant : State → Text → Text → Transition
put_pacticipant s p team = option_map_or (λ old. repeated s (same_text old team)) (s.pacticipants p)
    (done (record s { pacticipants = put_at same_text s.pacticipants p (Some team) }))

abbrev pub same_marks : Marks → Marks → Bool
same_marks m n = same_bool m.gated n.gated && same_bool m.strict n.strict

abbrev pub put_environment : State → Text → Marks → Transition
put_environment s e marks = option_map_or (λ old. repeated s (same_marks old marks)) (s.environments e)
    (done (record s { environments = put_at same_text s.environments e (Some marks) }))

abbrev pub put_grant : State → Text → Text → Transition
put_grant s team e =
    if s.grants (team, e) then already s
    else done (record s { grants = put_at (same_pair same_text same_text) s.grants (team, e) true })

abbrev pub delete_grant : State → Text → Text → Transition
delete_grant s team e =
    if s.grants (team, e)
    then done (record s { grants = put_at (same_pair same_text same_text) s.grants (team, e) false })
    else unchanged_with s (Unknown missing.Grant)

-- the version is there, with the next number if it is new
abbrev pub with_version : State → Version → State
with_version s v = if is_known s v then s else record s { versions = s.versions ++ v ∷ [] }

-- it is there, or may be numbered
abbrev pub can_name : State → Version → Bool
can_name s v = is_known s v || has_room s.versions

-- it is on the branch, or none is given
abbrev pub on_branch : State → Version → Option Text → Bool
on_branch s v (Some branch) = s.branches (v, branch)
on_branch s v None = true

-- the version is on the branch, if one is given
abbrev pub with_branch : State → Version → Option Text → State
with_branch s v (Some branch) =
    record s { branches = put_at (same_pair same_version same_text) s.branches (v, branch) true }
with_branch s v None = s

-- the version is named and put on the branch
abbrev pub put_version : State → Version → Option Text → Transition
put_version s v branch =
    if is_known s v && on_branch s v branch then already s
    else if can_name s v then done (with_branch (with_version s v) v branch)
    else unchanged_with s Full

-- the text of the content with a number
abbrev pub text_of : State → ℕ → Option Text
text_of s content = if content == 0 then None else slice_get s.contents (content - 1)

-- the text is one of the contents
abbrev pub is_stored : State → Text → Bool
is_stored s text = list_any (same_text text) s.contents

-- the number of a text, or the one that it gets
abbrev pub content_number : State → Text → ℕ
content_number s text = position_or_len (same_text text) s.contents + 1

-- the text is one of the contents, with the next number if it is new
abbrev pub with_content : State → Text → State
with_content s text = if is_stored s text then s else record s { contents = s.contents ++ text ∷ [] }

-- there is a text, and it is this one
abbrev pub is_text : Text → Option Text → Bool
is_text text (Some old) = same_text old text
is_text text None = false

-- there is a contract already: its content is this text or another
abbrev pub republished : State → Text → ℕ → Answer
republished s text content =
    if is_text text (text_of s content) then Already (Content content) else Taken clash.OtherContent

-- the text becomes the content of the contract of v with the provider, if there is none yet
abbrev pub put_pact : State → Version → Text → Text → Transition
put_pact s v provider text =
    option_map_or (λ content. unchanged_with s (republished s text content)) (s.contracts (v, provider))
    (if can_name s v && (is_stored s text || has_room s.contents)
    then record {
      answer = Done (Content (content_number s text));
      state = record (with_content (with_version s v) text) {
        contracts = put_at (same_pair same_version same_text) s.contracts (v, provider) (Some (content_number s text));
      };
    }
    else unchanged_with s Full)

-- the result of a run of the provider, with its number
abbrev pub result_of_run : State → Text → Option Text → Option (ℕ × Verification)
result_of_run s provider run =
    option_and_then
    (λ text. last_row (λ r. same_text r.version.pacticipant provider && is_text text r.run) s.results) run

-- two results are of one content and one version and say the same, their evidence included
abbrev pub says_same : Verification → Verification → Bool
says_same r q =
    r.content == q.content
    && (same_version r.version q.version && (same_bool r.pass q.pass && same_bool r.checked q.checked))

-- a result comes in: a run that the provider has used is answered by the old result, else it gets the next number,
-- and the version of the provider is there from then on
abbrev pub report : State → Verification → (ℕ → Detail) → Transition
report s r detail =
    option_map_or (λ e. unchanged_with s (if says_same e.1 r then Already (detail e.0) else Taken clash.Run))
    (result_of_run s r.version.pacticipant r.run)
    (if can_name s r.version && has_room s.results
    then record {
      answer = Done (detail (length s.results + 1));
      state = record (with_version s r.version) { results = s.results ++ r ∷ [] };
    }
    else unchanged_with s Full)

-- the text of an instance; an absent one is the empty text
abbrev pub instance_of : Option Text → Text
instance_of (Some instance) = instance
instance_of None = []

-- a deployment that the gate permits: it replaces what is deployed in that instance
abbrev pub deploy : State → Text → Version → Text → Transition
deploy s e v instance =
    if is_text v.name (s.deployed (e, v.pacticipant, instance)) then already s
    else done (record s { deployed = put_at same_place s.deployed (e, v.pacticipant, instance) (Some v.name) })

-- the version is taken out of that instance
abbrev pub undeploy : State → Text → Version → Text → Transition
undeploy s e v instance =
    if is_text v.name (s.deployed (e, v.pacticipant, instance))
    then done (record s { deployed = put_at same_place s.deployed (e, v.pacticipant, instance) None })
    else unchanged_with s (Unknown missing.Deployed)

-- a release that the gate permits
abbrev pub release : State → Text → Version → Transition
release s e v =
    if s.released (e, v) then already s
    else done (record s { released = put_at (same_pair same_text same_version) s.released (e, v) true })

-- a release ends
abbrev pub end_support : State → Text → Version → Transition
end_support s e v =
    if s.released (e, v)
    then done (record s { released = put_at (same_pair same_text same_version) s.released (e, v) false })
    else unchanged_with s (Unknown missing.Released)
