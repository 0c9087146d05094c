-- What comes before the interactions of a pact file: its form, its version, and the two sides.
use Rattle.std.specs.Prelude.{ℕ, ◌||◌, ◌==◌, List, length, Bool, true, false, not, nat_eq, nat_le, Option, Some, None, option_map, option_and_then, unwrap_or, Result, Ok, ⊤, codes}
use Rattle.std.specs.List.{starts_with}
use Rattle.std.specs.Option.{ok_or, option_or}
use Rattle.std.specs.Str.{bytes_eq}
use Rattle.serde_json.specs.Data.{Data, Num, null, number, string, array, unsigned}
use Rattle.serde_json.specs.Events.{items_len}
use Rattle.serde_json.specs.Find.{get}
use Rattle.broker_names.specs.Name.{is_name}
use Rattle.pact_rules.specs.Outcome.{◌>>=◌, guard}
use Rattle.pact_file.specs.Objects.{object_of, with_fault}
use Rattle.pact_file.specs.Parts.{text_at, object_at, list_at, listed}
use Rattle.pact_file.specs.declared.fault.PactFault.{PactFault}
use Rattle.pact_file.specs.declared.fault.PactFault.TheVariants.{TooLong, NotJson, Shape, Version, Messages, Tree, TooMany, SelfContract, Memory}
use Rattle.pact_file.specs.declared.object.FileFault.{FileFault}
use Rattle.pact_file.specs.declared.object.FileFault.TheVariants as file_fault
use Rattle.pact_file.specs.declared.fault.Place.{Place}
use Rattle.pact_file.specs.declared.fault.Place.TheVariants.{File, Consumer, ConsumerName, Provider, ProviderName, Interactions}

abbrev pub most_bytes : ℕ
most_bytes = 1048576

abbrev pub most_interactions : ℕ
most_interactions = 512

-- ---- the file

-- the fault of a file as that of a pact file
abbrev pub as_file_fault : FileFault → PactFault
as_file_fault file_fault.NotJson = NotJson
as_file_fault (file_fault.Tree fault) = Tree fault
as_file_fault file_fault.NotObject = Shape File
as_file_fault file_fault.Memory = Memory

-- an object in a file that is not too long
unfoldable pub file_of : List ℕ → Result Data PactFault
file_of bytes = do
  short ← guard (nat_le (length bytes) most_bytes) TooLong
  with_fault as_file_fault (object_of bytes)

-- ---- version, messages and the two sides

abbrev pub number_is_3 : Num → Bool
number_is_3 (unsigned n) = n == 3
number_is_3 m = false

-- whether the text of a version, if it is a text or a number, has 3 before its first point
abbrev pub is_3 : Data → Option Bool
is_3 (number n) = Some (number_is_3 n)
is_3 (string s) = Some (bytes_eq s (codes "3") || starts_with nat_eq s (codes "3."))
is_3 d = None

abbrev pub version_under : List ℕ → Data → Option Bool
version_under key file =
    option_and_then is_3
    (option_and_then (get (codes "version")) (option_and_then (get key) (get (codes "metadata") file)))

-- a file that names no version is read as version 3
unfoldable pub is_version_3 : Data → Bool
is_version_3 file =
    unwrap_or
    (option_or (version_under (codes "pactSpecification") file) (version_under (codes "pact-specification") file))
    true

abbrev pub holds_nothing : Data → Bool
holds_nothing null = true
holds_nothing (array ds) = items_len ds == 0
holds_nothing d = false

-- message pacts are another kind of contract
unfoldable pub has_no_messages : Data → Bool
has_no_messages file = unwrap_or (option_map holds_nothing (get (codes "messages") file)) true

-- the name of one side
unfoldable pub side_of : List ℕ → Place → Place → Data → Result (List ℕ) PactFault
side_of key side its_name file = do
  found ← ok_or (object_at key file) (Shape side)
  name ← ok_or (text_at (codes "name") found) (Shape its_name)
  is ← guard (is_name name) (Shape its_name)
  Ok name

-- the names of the consumer and the provider
unfoldable pub sides_of : Data → Result (List ℕ × List ℕ) PactFault
sides_of file = do
  version ← guard (is_version_3 file) Version
  messages ← guard (has_no_messages file) Messages
  consumer ← side_of (codes "consumer") Consumer ConsumerName file
  provider ← side_of (codes "provider") Provider ProviderName file
  two ← guard (not (bytes_eq consumer provider)) SelfContract
  Ok (consumer, provider)

-- the values that are to be interactions
unfoldable pub items_of : Data → Result (List Data) PactFault
items_of file = do
  items ← ok_or (list_at (codes "interactions") file) (Shape Interactions)
  few ← guard (nat_le (items_len items) most_interactions) TooMany
  Ok (listed items)

-- what is looked at before any interaction is read
abbrev pub seen_of : Data → Result ⊤ PactFault
seen_of file = do
  sides ← sides_of file
  items ← items_of file
  Ok tt
