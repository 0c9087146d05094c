-- what the commands on contracts read of a state, for the clauses of private functions: no public clause cites it
use Rattle.std.specs.Prelude.{◌≡◌, ◌≤◌, ⊤, ℕ, Option, Some, None, List, [], ◌∷◌, Bool, is_some, IsTrue, length, filter_map, Result, Ok, Err}
use Rattle.broker_core.specs.Text.{Text, same_pair, same_version, same_text, put_at}
use Rattle.broker_core.specs.State.{State as Broker}
use Rattle.broker_core.specs.Policy.{allows}
use Rattle.broker_core.specs.Change.{Transition, with_version, text_of, put_pact}
use Rattle.broker_core.specs.Machine.{StepOfCaller}
use Rattle.broker_core.specs.Machine.Reading.{IsPact}
use Rattle.broker_core.specs.Request.{consumer_version, is_known, contract_of, asks, access, unless, refused, refusal}
use Rattle.broker_core.specs.declared.answer.Answer.{Answer}
use Rattle.broker_core.specs.declared.answer.Answer.TheVariants.{BadForm, Shown}
use Rattle.broker_core.specs.declared.answer.Missing.{Missing}
use Rattle.broker_core.specs.declared.answer.Missing.TheVariants as missing
use Rattle.broker_core.specs.declared.answer.Shown.TheVariants as shown
use Rattle.command_facts.specs.declared.reading.FileReadFault.{FileReadFault}
use Rattle.command_facts.specs.declared.reading.FileReadFault.TheVariants.{Form, Memory}
use Rattle.table_access.specs.declared.StoreFault.{StoreFault}
use Rattle.table_access.specs.declared.StoreFault.TheVariants as store
use Rattle.broker_core.specs.declared.command.Command.{Command}
use Rattle.broker_core.specs.declared.command.Command.TheVariants.{PutPact}
use Rattle.broker_core.specs.declared.command.PactPath.{PactPath}
use Rattle.broker_core.specs.declared.command.Version.{Version}
use Rattle.broker_core.specs.declared.policy.Caller.{Caller}
use Rattle.broker_core.specs.declared.policy.Rule.{Rule}
use Rattle.broker_tables.specs.Numbers.{number_of}
use Rattle.command_facts.specs.Primitives.{broker_primitives}
use Rattle.contract_commands.specs.Numbering.{CanName}
use Rattle.contract_commands.specs.declared.numbers.VersionNumber.{VersionNumber}
use Rattle.contract_commands.specs.declared.sides.ContractPlace.{ContractPlace}
use Rattle.contract_commands.specs.declared.sides.Sides.{Sides}

-- whether the two sides of a contract are there, and whether the rule allows the caller for what these own, which is
-- no matter of grants
pub record AreSidesRead (s : Broker) (caller : Caller) (rule : Rule) (owned : List Text) (provider consumer : Text)
    (sides : Sides) : Type 0 where
  pub provider_is : is_some (s.pacticipants provider) ≡ sides.has_provider
  pub consumer_is : is_some (s.pacticipants consumer) ≡ sides.has_consumer
  pub may_is : (granted : Bool) → allows rule caller (filter_map s.pacticipants owned) granted ≡ sides.is_allowed

-- the first side that is missing; if both are there, what else is
abbrev pub missing_side : Sides → Option Missing → Option Missing
missing_side sides rest =
    unless sides.has_provider missing.Pacticipant (unless sides.has_consumer missing.Pacticipant rest)

-- the names that are stored with a contract
abbrev pub names_in : PactPath → List Text
names_in path = path.consumer ∷ path.version ∷ path.provider ∷ []

-- the content of this number has a text
abbrev pub HasContent : Broker → ℕ → Type 0
HasContent s content = (text : Text) × (text_of s content ≡ Some text)

-- what is missing first of a contract that is asked for by its version
abbrev pub missing_part : ContractPlace → Option Missing
missing_part place =
    missing_side place.sides
    (unless (is_some place.contract.version) missing.Version
    (unless (is_some place.contract.content) missing.Contract None))

-- what is missing first of a contract that is asked for by a branch, which shows this content
abbrev pub missing_of_branch : Sides → Option ℕ → Option Missing
missing_of_branch sides content = missing_side sides (unless (is_some content) missing.Contract None)

-- the content, if no command by this rule is refused for what is missing or for who asks; or the refusal
abbrev pub Admits : Rule → Option ℕ → Option Missing → Bool → Result ℕ Answer → Type 0
Admits rule content lacks may (Ok found) =
    (content ≡ Some found) × ((command : Command) → (asks command).rule ≡ rule → refused command lacks may ≡ None)
Admits rule content lacks may (Err answer) =
    (command : Command) → (asks command).rule ≡ rule → refused command lacks may ≡ Some answer

-- both sides of a contract are there
abbrev pub HasSides : Broker → PactPath → Type 0
HasSides s path = IsTrue (is_some (s.pacticipants path.provider)) × IsTrue (is_some (s.pacticipants path.consumer))

-- the number of a consumer version, and of the content of its contract with the provider
pub record IsContractRead (s : Broker) (v : Version) (provider : Text) (number content : Option ℕ) : Type 0 where
  pub number_is : number_of s.versions v ≡ number
  pub known_is : is_known s v ≡ is_some number
  pub content_is : s.contracts (v, provider) ≡ content

-- the two sides of a contract, and the numbers of its version and of its content
abbrev pub IsPlaceRead : Broker → Caller → Rule → List Text → PactPath → ContractPlace → Type 0
IsPlaceRead s caller rule owned path place =
    AreSidesRead s caller rule owned path.provider path.consumer place.sides
    × IsContractRead s (consumer_version path) path.provider place.contract.version place.contract.content

-- a contract of the path may be recorded: both sides are there, its version has this number or gets it, and has no
-- contract with the provider
abbrev pub CanPublish : PactPath → VersionNumber → Broker → Type 0
CanPublish path version s =
    CanName s (consumer_version path) version × (s.contracts (consumer_version path, path.provider) ≡ None)
    × HasSides s path

-- and the content of this number is there
abbrev pub CanRecord : PactPath → VersionNumber → ℕ → Broker → Type 0
CanRecord path version content s = CanPublish path version s × (1 ≤ content) × (content ≤ length s.contents)

-- the content of this number is that of the contract of v with the provider
abbrev pub with_contract : Broker → Version → Text → ℕ → Broker
with_contract s v provider content = record s {
  contracts = put_at (same_pair same_version same_text) s.contracts (v, provider) (Some content);
}

-- the consumer's version is named, and the content of this number is that of its contract with the provider
abbrev pub RecordsContract : PactPath → ℕ → Broker → Broker → Type 0
RecordsContract path content s t =
    t ≡ with_contract (with_version s (consumer_version path)) (consumer_version path) path.provider content

-- both sides of a contract are there, its version has this number, if it has one, and there is no contract
abbrev pub HasNoContract : PactPath → Option ℕ → Broker → Type 0
HasNoContract path number s =
    HasSides s path × IsContractRead s (consumer_version path) path.provider number None

-- the text is published as the contract of the path, or there is another contract or no room
abbrev pub PutsPact : PactPath → Text → Broker → Transition → Type 0
PutsPact path text s out = out ≡ put_pact s (consumer_version path) path.provider text

-- a caller publishes a file of this normal text
abbrev pub Publishes : Broker → Caller → PactPath → Text → Transition → Type 0
Publishes s caller path text out =
    (file : Text) → broker_primitives.Reads file (IsPact path.consumer path.provider text)
    → StepOfCaller broker_primitives s caller (PutPact path file) out

-- a command that asks for the contract of a path, by this rule for these owners
abbrev pub AsksContract : PactPath → Rule → List Text → Command → Type 0
AsksContract path rule owned command = asks command ≡ access (contract_of path) rule owned None

-- the content of the contract, if nothing refuses such a command, or the refusal
abbrev pub Reaches : Broker → Caller → PactPath → Rule → List Text → Result ℕ Answer → Type 0
Reaches s caller path rule owned (Ok content) =
    (s.contracts (consumer_version path, path.provider) ≡ Some content)
    × ((command : Command) → AsksContract path rule owned command → refusal s caller command ≡ None)
Reaches s caller path rule owned (Err answer) =
    (command : Command) → AsksContract path rule owned command → refusal s caller command ≡ Some answer

-- what is shown of a contract that was reached: the text of its content; or the refusal
abbrev pub ShowsReached : Broker → Result ℕ Answer → Answer → Type 0
ShowsReached s (Ok content) answer =
    (text : Text) × (text_of s content ≡ Some text) × (answer ≡ Shown (shown.Pact text))
ShowsReached s (Err refusal) answer = answer ≡ refusal

-- the content of the contract that was reached has a text
abbrev pub HasReachedContent : Broker → Result ℕ Answer → Type 0
HasReachedContent s (Ok content) = HasContent s content
HasReachedContent s (Err refusal) = ⊤

-- what is answered for a file that wasn't read
abbrev pub answer_to : FileReadFault → Result Answer StoreFault
answer_to (Form found) = Ok (BadForm found)
answer_to Memory = Err store.Memory
