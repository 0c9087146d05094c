-- The pact file of the worked deployment, read from its bytes to its normal form.
use Rattle.std.specs.{Fmt.{digits}, Prelude.{codes, length, Result as Outcome, Ok, Err, is_some, nat_le}, Option.{ok_or}, Str.{is_utf8}}
use Rattle.std.proofs.{Common.{◌≡◌, ap, sym, [], ◌∷◌, true, refl, inl, inr, if◌then◌else◌}, lemmas.Str.{is_utf8-from_IsUtf8}}
use Rattle.serde_json.specs.{Data.{Data, string, number, unsigned, array, object, item, no_items, member, no_members}, Read.{read}, Find.{as_object}}
use Rattle.serde_json.proofs.OnLiterals.{serde_json_on_literals}
use Rattle.broker_names.specs.Name.{is_name}
use Rattle.broker_core.specs.{Text.{Text}, Machine.Reading.{IsPact}}
use Rattle.pact_file.specs.File.{most_bytes, as_file_fault, file_of, side_of, sides_of, items_of, is_version_3, has_no_messages}
use Rattle.pact_file.specs.{Objects.{json_of, object_of, tree_or_fault, with_fault}, Interactions.{parts_at}}
use Rattle.pact_file.specs.{Parts.{states_in, all_of, status_in, headers_found}, Headers.{HasHeaders}, Rules.{RulesRead}, Pact.{Pact, Interaction, normal_text}}
use Rattle.pact_file.specs.{Normal.{Normal, InteractionRead, InteractionsRead, InOrder, if_short}, declared.fault.PactFault.TheVariants.{TooLong}}
use Rattle.pact_file.specs.{declared.object.FileFault.{FileFault}, declared.object.FileFault.TheVariants.{NotJson, NotObject}}
use Rattle.pact_rules.specs.{Outcome.{◌>>=◌, guard}, Reading.{EachRead}, Rules.{no_rules}}
use Rattle.pact_trees.specs.Checked.{checked_tree}
use Rattle.command_facts.specs.Primitives.{broker_primitives}
use Rattle.broker_http.proofs.PlainRequests.{IsUtf8-of_ascii}

abbrev pub shop : Text
shop = codes "shop"

abbrev pub stock : Text
stock = codes "stock"

-- the pact of shop 1 with stock as its build sends it, and its normal form
abbrev pub pact_file : Text
pact_file = codes "{\"consumer\":{\"name\":\"shop\"},\"provider\":{\"name\":\"stock\"},\"interactions\":[{\"description\":\"the shelf\",\"request\":{\"method\":\"GET\",\"path\":\"/shelf\"},\"response\":{\"status\":200}}]}"

abbrev pub normal_form : Text
normal_form = codes "{\"consumer\":{\"name\":\"shop\"},\"interactions\":[{\"description\":\"the shelf\",\"providerStates\":[],\"request\":{\"method\":\"GET\",\"path\":\"/shelf\"},\"response\":{\"status\":200}}],\"provider\":{\"name\":\"stock\"}}"

-- an object of one text
abbrev pub with_text : Text → Text → Data
with_text key text = object (member key (string text) no_members)

abbrev request_data : Data
request_data = object (member (codes "method") (string (codes "GET")) (member (codes "path") (string (codes "/shelf")) no_members))

abbrev response_data : Data
response_data = object (member (codes "status") (number (unsigned 200)) no_members)

abbrev interaction : Data
interaction = object (member (codes "description") (string (codes "the shelf")) (member (codes "request") request_data (member (codes "response") response_data no_members)))

abbrev file_data : Data
file_data = object (member (codes "consumer") (with_text (codes "name") shop) (member (codes "interactions") (array (item interaction no_items)) (member (codes "provider") (with_text (codes "name") stock) no_members)))

abbrev shelf : Interaction
shelf = record { description = codes "the shelf"; states = []; request = request_data; response = response_data }

abbrev pact : Pact
pact = record { consumer = shop; provider = stock; interactions = shelf ∷ [] }

is_utf8-pact_file : is_utf8 pact_file ≡ true
is_utf8-pact_file = is_utf8-from_IsUtf8 pact_file (IsUtf8-of_ascii pact_file refl)

json_of-pact_file : json_of pact_file ≡ Ok file_data
unfolding json_of serde_json_on_literals
json_of-pact_file = ap (λ b. if b then ok_or (read pact_file) NotJson else Err NotJson) is_utf8-pact_file

object_of-pact_file : object_of pact_file ≡ Ok file_data
unfolding object_of serde_json_on_literals
object_of-pact_file =
    ap (λ (r : Outcome Data FileFault). r >>= (λ whole. tree_or_fault (checked_tree whole) >>= (λ tree. guard (is_some (as_object whole)) NotObject >>= (λ is. Ok whole)))) json_of-pact_file

file_of-pact_file : file_of pact_file ≡ Ok file_data
unfolding file_of
file_of-pact_file = ap (λ (r : Outcome Data FileFault). guard (nat_le (length pact_file) most_bytes) TooLong >>= (λ short. with_fault as_file_fault r)) object_of-pact_file

sides_of-file_data : sides_of file_data ≡ Ok (shop, stock)
unfolding sides_of side_of is_version_3 has_no_messages is_name serde_json_on_literals
sides_of-file_data = refl

items_of-file_data : items_of file_data ≡ Ok (interaction ∷ [])
unfolding items_of serde_json_on_literals
items_of-file_data = refl

parts_at-interaction : parts_at 0 interaction ≡ Ok shelf
unfolding parts_at states_in all_of status_in serde_json_on_literals
parts_at-interaction = refl

HasHeaders-response_data : HasHeaders response_data []
unfolding headers_found serde_json_on_literals
HasHeaders-response_data = record { found = []; read = refl; apart = λ h. h; ordered = record { rising = tt; kept = λ x i. i; known = λ x i. i } }

RulesRead-response_data : RulesRead 0 response_data (Ok no_rules)
unfolding RulesRead serde_json_on_literals
RulesRead-response_data = (Ok no_rules, refl, refl)

InOrder-shelf : InOrder (shelf ∷ []) (Ok (shelf ∷ []))
InOrder-shelf = (
  λ clash. elim clash [ inl one ↦ one | inr more ↦ more ],
  record { rising = (tt, tt); kept = λ x i. i; known = λ x i. i },
)

InteractionsRead-file_data : InteractionsRead file_data (Ok (shelf ∷ []))
unfolding InteractionsRead InteractionRead EachRead
InteractionsRead-file_data = (
  Ok (interaction ∷ []),
  items_of-file_data,
  (
    Ok (shelf ∷ []),
    (Ok shelf, (Ok shelf, parts_at-interaction, (Ok [], HasHeaders-response_data, (Ok no_rules, RulesRead-response_data, refl))), (Ok [], refl, refl)),
    InOrder-shelf,
  ),
)

if_short-pact : if_short pact ≡ Ok pact
unfolding serde_json_on_literals digits
if_short-pact = refl

normal_text-pact : normal_text pact ≡ normal_form
unfolding serde_json_on_literals digits
normal_text-pact = refl

pub Reads-pact_file : broker_primitives.Reads pact_file (IsPact shop stock normal_form)
unfolding Normal
Reads-pact_file = (Ok pact, (Ok file_data, file_of-pact_file, (Ok (shop, stock), sides_of-file_data, (Ok (shelf ∷ []), InteractionsRead-file_data, if_short-pact))), ap (λ text. IsPact shop stock text) (sym normal_text-pact))
