-- answers as JSON values (this project's own choice): the members of an object are in the order of their keys' bytes
use Rattle.std.specs.Prelude.{◌≡◌, String, string_bytes, ℕ, List, [], ◌∷◌, map, Bool, true, false, Option, codes}
use Rattle.std.specs.Borrow.{Bor}
use Rattle.std.specs.Option.{option_map_or}
use Rattle.std.specs.declared.alloc.Global.{Global}
use Rattle.serde_json.specs.Written.{compact_text}
use Rattle.serde_json.specs.Data.{unsigned, Data, null, boolean, number, string, array, object, Members, no_members, member}
use Rattle.serde_json.specs.View.{items_of}
use Rattle.broker_core.specs.declared.answer.Detail.{Detail}
use Rattle.broker_core.specs.declared.answer.Detail.TheVariants as detail
use Rattle.broker_core.specs.declared.answer.DeployedItem.{DeployedItem}
use Rattle.broker_core.specs.declared.answer.MatrixRow.{MatrixRow}
use Rattle.broker_core.specs.declared.command.Marks.{Marks}
use Rattle.broker_core.specs.declared.command.Version.{Version}
use Rattle.broker_core.specs.declared.need.PairFault.{PairFault}
use Rattle.broker_core.specs.Text.{Text}
use Rattle.broker_core.specs.Words.{kind_text}

abbrev pub members_of : List (Text × Data) → Members
members_of [] = no_members
members_of (f ∷ fs) = member f.0 f.1 (members_of fs)

abbrev pub fields : List (Text × Data) → Data
fields fs = object (members_of fs)

abbrev pub items : {X : Type 0} → (X → Data) → List X → Data
items each xs = array (items_of (map each xs))

abbrev pub whole : ℕ → Data
whole n = number (unsigned n)

-- an object of these members, each under its key
abbrev pub object_of : {X : Type 0} → (X → Data) → List (Bor Text × X) → Data
object_of each ms = fields (map (λ m. (m.0.now, each m.1)) ms)

-- null for none
abbrev pub or_null : {X : Type 0} → (X → Data) → Option X → Data
or_null each o = option_map_or each o null

abbrev pub pair_fault : PairFault → Data
pair_fault f = fields (
    (codes "consumer", string f.consumer)
    ∷ (codes "consumerVersion", string f.consumer_version)
    ∷ (codes "kind", string (kind_text f.kind))
    ∷ (codes "provider", string f.provider)
    ∷ (codes "providerVersion", or_null string f.provider_version)
    ∷ [])

abbrev pub deployed_item : DeployedItem → Data
deployed_item x =
    fields ((codes "instance", string x.instance) ∷ (codes "pacticipant", string x.pacticipant) ∷
    (codes "version", string x.version) ∷ [])

abbrev pub version_item : Version → Data
version_item v = fields ((codes "pacticipant", string v.pacticipant) ∷ (codes "version", string v.name) ∷ [])

-- who vouches for a result: the broker, which checked recorded replies, or only the sender
abbrev pub evidence : Bool → Text
evidence true = codes "checked"
evidence false = codes "claimed"

abbrev pub matrix_row : MatrixRow → Data
matrix_row x = fields (
    (codes "consumer", string x.consumer)
    ∷ (codes "consumerVersion", string x.consumer_version)
    ∷ (codes "evidence", or_null (λ r. string (evidence r.latest.checked)) x.verified)
    ∷ (codes "provider", string x.provider)
    ∷ (codes "providerVersion", or_null (λ r. string r.provider_version) x.verified)
    ∷ (codes "result", or_null (λ r. whole r.result) x.verified)
    ∷ (codes "success", or_null (λ r. boolean r.latest.pass) x.verified)
    ∷ [])

-- an object that says by its first member what the answer is
abbrev pub says : Text → List (Text × Data) → Data
says word fs = fields ((codes "answer", string word) ∷ fs)

-- an object of one more member, a text
abbrev pub word_data : Text → Text → Text → Data
word_data word key text = says word ((key, string text) ∷ [])

abbrev pub form_data : Text → Data
form_data text = says (codes "bad form") ((codes "fault", string text) ∷ [])

abbrev pub faults_data : List PairFault → Data
faults_data faults = says (codes "not permitted") ((codes "faults", items pair_fault faults) ∷ [])

abbrev pub matrix_data : List MatrixRow → Data
matrix_data rows = says (codes "shown") ((codes "rows", items matrix_row rows) ∷ [])

-- the compact text of the value
abbrev pub IsJsonText : Data → String Global → Type 0
IsJsonText value text = string_bytes text ≡ compact_text value

-- what Done and Already show besides the word
abbrev pub detail_fields : Detail → List (Text × Data)
detail_fields detail.Plain = []
detail_fields (detail.Content n) = (codes "content", whole n) ∷ []
detail_fields (detail.Result n) = (codes "result", whole n) ∷ []
detail_fields (detail.Replies failing n success) =
    (codes "failing", items whole failing) ∷ (codes "result", whole n) ∷ (codes "success", boolean success) ∷ []

abbrev pub detail_data : Text → Detail → Data
detail_data word d = says word (detail_fields d)

-- the last member; only a strict environment has it
abbrev pub strict_field : Bool → List (Text × Data)
strict_field true = (codes "strict", boolean true) ∷ []
strict_field false = []

-- an environment with what is deployed and released there
abbrev pub environment_data : Text → Marks → List DeployedItem → List Version → Data
environment_data e marks deployed released = says (codes "shown") (
    (codes "deployed", items deployed_item deployed)
    ∷ (codes "environment", string e)
    ∷ (codes "gated", boolean marks.gated)
    ∷ (codes "released", items version_item released)
    ∷ strict_field marks.strict)

-- the gate's judgement of a version, with all that the version lacks
abbrev pub gate_data : Text → Marks → Bool → List PairFault → Data
gate_data e marks permitted faults = says (codes "shown") (
    (codes "environment", string e)
    ∷ (codes "faults", items pair_fault faults)
    ∷ (codes "gated", boolean marks.gated)
    ∷ (codes "permitted", boolean permitted)
    ∷ strict_field marks.strict)
