-- What is tested of a file of replies, and of a reply before its headers, in order.
use Rattle.std.specs.Prelude.{ℕ, List, is_some, Result, Ok, codes}
use Rattle.std.specs.Option.{ok_or}
use Rattle.serde_json.specs.Data.{Data}
use Rattle.serde_json.specs.Find.{as_object}
use Rattle.pact_rules.specs.Outcome.{◌>>=◌, guard}
use Rattle.pact_file.specs.Objects.{object_of, with_fault}
use Rattle.pact_file.specs.Parts.{text_at, object_at, list_at, states_in, listed}
use Rattle.pact_file.specs.declared.object.FileFault.{FileFault}
use Rattle.pact_file.specs.declared.object.FileFault.TheVariants as file_fault
use Rattle.reply_check.specs.Recorded.{Reply as Recorded, status_sent}
use Rattle.reply_check.specs.declared.fault.RepliesFault.{RepliesFault}
use Rattle.reply_check.specs.declared.fault.RepliesFault.TheVariants.{NotJson, Shape, Tree, Memory}
use Rattle.reply_check.specs.declared.fault.Place.TheVariants.{File, Replies, Reply}
use Rattle.pact_file.specs.declared.fault.Part.{Part}
use Rattle.pact_file.specs.declared.fault.Part.TheVariants.{Whole, Description, States, Response, Status}

-- the fault of a file as that of a file of replies
abbrev pub as_file_fault : FileFault → RepliesFault
as_file_fault file_fault.NotJson = NotJson
as_file_fault (file_fault.Tree fault) = Tree fault
as_file_fault file_fault.NotObject = Shape File
as_file_fault file_fault.Memory = Memory

-- an object in a file
abbrev pub file_of : List ℕ → Result Data RepliesFault
file_of bytes = with_fault as_file_fault (object_of bytes)

-- the values that are to be replies
unfoldable pub items_of : Data → Result (List Data) RepliesFault
items_of file = do
  items ← ok_or (list_at (codes "replies") file) (Shape Replies)
  Ok (listed items)

-- the part of the reply i isn't as it must be
abbrev pub at : ℕ → Part → RepliesFault
at i part = Shape (Reply i part)

unfoldable pub parts_at : ℕ → Data → Result Recorded RepliesFault
parts_at i d = do
  is ← guard (is_some (as_object d)) (at i Whole)
  description ← ok_or (text_at (codes "description") d) (at i Description)
  states ← ok_or (states_in d) (at i States)
  response ← ok_or (object_at (codes "response") d) (at i Response)
  status ← ok_or (status_sent response) (at i Status)
  Ok (record { description = description; states = states; response = response })
