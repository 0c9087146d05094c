-- what the worked examples begin with: simple parts, two teams with a pacticipant each, and a gated environment with the grants of both
use Rattle.std.specs.{Prelude.{codes, Option, Some, None, ◌∷◌, []}, Cmp.Lexicographic.{other_text}}
use Rattle.std.proofs.Common.{◌≡◌, ◌≢◌, refl, Bool, true, false, List, if◌then◌else◌}
use Rattle.broker_core.specs.Change.{Transition, put_team, put_pacticipant, put_environment, put_grant, put_version, put_pact, report}
use Rattle.broker_core.specs.{Machine.{Primitives, Step, Run, Request, IsCallerOfDigest}, Machine.Reading.{IsPact}}
use Rattle.broker_core.specs.{declared.policy.Caller.TheVariants.{Office, Team}, declared.command.Command.{Command}}
use Rattle.broker_core.specs.{declared.command.Command.TheVariants.{PutTeam, PutPacticipant, PutEnvironment, PutGrant}, declared.command.Marks.{Marks}}
use Rattle.broker_core.specs.{declared.command.PactPath.{PactPath}, declared.need.Kind.{Kind}, declared.need.PairFault.{PairFault}}
use Rattle.broker_core.specs.{declared.answer.Answer.{Answer}, declared.answer.Answer.TheVariants.{Done}, declared.answer.Detail.TheVariants.{Plain, Result}}
use Rattle.broker_core.{specs.{Text.{Text, same_text, put_at, version}, State.{State, opening, claimed_result}}, proofs.Judgement.{Rows}}
use Rattle.broker_core.proofs.Lists.{Some-injective}

abbrev pub shop : Text
shop = codes "shop"

abbrev pub stock : Text
stock = codes "stock"

-- a token is its own digest, each file is its own normal text, of shop with stock, and all replies pass
abbrev pub simple_parts : Primitives
simple_parts = record {
  digest_of = λ token. token;
  Reads = λ file reading. reading ≡ IsPact shop stock file;
  ReadsReplies = λ body found. found ≡ None;
  Fails = λ text body failing. failing ≡ Some [];
}

-- the answer to a command in a state
abbrev pub Answers : State → Text → Command → Answer → Type 0
Answers s token command answer = (out : Transition) × Step simple_parts s (Some token) command out × (out.answer ≡ answer)

abbrev pub office_token : Text
office_token = codes "office-token-0001"

abbrev pub red_token : Text
red_token = codes "red-team-token-01"

abbrev pub blue_token : Text
blue_token = codes "blue-team-token-1"

abbrev pub red : Text
red = codes "red"

abbrev pub blue : Text
blue = codes "blue"

abbrev pub live : Text
live = codes "live"

abbrev pub one : Text
one = codes "1"

abbrev pub two : Text
two = codes "2"

abbrev pub three : Text
three = codes "3"

abbrev pub first_file : Text
first_file = codes "first"

abbrev pub second_file : Text
second_file = codes "second"

abbrev pub gated : Marks
gated = record { gated = true; strict = false }

abbrev pub path_of : Text → PactPath
path_of v = record { provider = stock; consumer = shop; version = v }

-- a fault between shop and stock
abbrev pub lacks : Text → Option Text → Kind → PairFault
lacks consumer_version provider_version kind = record { consumer = shop; consumer_version = consumer_version; provider = stock; provider_version = provider_version; kind = kind }

-- red owns shop, blue owns stock
abbrev pub named_teams : State
named_teams = (put_team (put_team (opening office_token) red red_token false).state blue blue_token false).state

abbrev pub named_sides : State
named_sides = (put_pacticipant (put_pacticipant (put_environment named_teams live gated).state shop red).state stock blue).state

abbrev pub fixture : State
fixture = (put_grant (put_grant named_sides red live).state blue live).state

-- shop 1 has published its pact with stock
abbrev pub published : State
published = (put_pact fixture (version shop one) stock first_file).state

-- the same with a first version of stock
abbrev pub named_stock : State
named_stock = (put_version published (version stock one) None).state

-- the sender claims that stock passes or fails for the pact of shop 1
abbrev pub claims : State → Text → Bool → State
claims s provider_version pass = (report s (claimed_result 1 (version stock provider_version) pass None) Result).state

-- what the tables hold, newest first
abbrev pub no_rows : Rows
no_rows = record { contracts = []; deployed = []; released = [] }

abbrev pub pact_rows : Rows
pact_rows = record no_rows { contracts = ((version shop one, stock), 1) ∷ [] }

-- no team's token is the office's
pub red_token-not_office : ¬ (office_token ≡ red_token)
red_token-not_office = other_text office_token red_token refl

pub blue_token-not_office : ¬ (office_token ≡ blue_token)
blue_token-not_office = other_text office_token blue_token refl

-- no one has a digest that no token of the table has
pub put_at-other_value : (table : Text → Option Text) (key value x : Text) → value ≢ x → ((q : Text) → table q ≢ Some x) → (q : Text) → put_at same_text table key (Some value) q ≢ Some x
put_at-other_value table key value x other none q e =
    elim (same_text q key) as (λ b. (if b then Some value else table q) ≡ Some x → ⊥) [ true ↦ λ is. other (Some-injective value x is) | false ↦ none q ] e

pub opening-no_team : (x q : Text) → (opening office_token).teams q ≢ Some x
opening-no_team x q e = absurd (cc)

IsCallerOfDigest-red_is_new : IsCallerOfDigest (opening office_token) red_token None
IsCallerOfDigest-red_is_new Office = other_text office_token red_token refl
IsCallerOfDigest-red_is_new (Team t) = opening-no_team red_token t

IsCallerOfDigest-blue_is_new : IsCallerOfDigest (put_team (opening office_token) red red_token false).state blue_token None
IsCallerOfDigest-blue_is_new Office = other_text office_token blue_token refl
IsCallerOfDigest-blue_is_new (Team t) = put_at-other_value (opening office_token).teams red red_token blue_token (other_text red_token blue_token refl) (opening-no_team blue_token) t

by_office : Command → Request
by_office command = record { token = Some office_token; command = command }

all_done : List Answer
all_done = Done Plain ∷ Done Plain ∷ Done Plain ∷ Done Plain ∷ Done Plain ∷ Done Plain ∷ Done Plain ∷ []

-- the machine reaches this state from the opening one, and answers each command Done
Run-reaches_fixture : Run simple_parts (opening office_token)
    (by_office (PutTeam red red_token) ∷ by_office (PutTeam blue blue_token) ∷ by_office (PutEnvironment live gated) ∷ by_office (PutPacticipant shop red) ∷ by_office (PutPacticipant stock blue)
    ∷ by_office (PutGrant red live) ∷ by_office (PutGrant blue live) ∷ [])
    all_done fixture
unfolding by_office all_done
Run-reaches_fixture = (
  _,
  (Some Office, refl, (None, refl, (None, IsCallerOfDigest-red_is_new, refl))),
  (
    _,
    (Some Office, refl, (None, refl, (None, IsCallerOfDigest-blue_is_new, refl))),
    (
      _,
      (Some Office, refl, (None, refl, refl)),
      (
        _,
        (Some Office, refl, (None, refl, refl)),
        (
          _,
          (Some Office, refl, (None, refl, refl)),
          (
            _,
            (Some Office, refl, (None, refl, refl)),
            (_, (Some Office, refl, (None, refl, refl)), refl),
          ),
        ),
      ),
    ),
  ),
)
