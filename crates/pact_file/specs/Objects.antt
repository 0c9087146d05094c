-- A file of JSON that is one object without fractions, or its first fault; pact files and files of replies are such.
use Rattle.std.specs.Prelude.{ℕ, ◌<◌, List, length, is_some, Result, Ok, Err, if◌then◌else◌, ⊤}
use Rattle.std.specs.Option.{ok_or}
use Rattle.std.specs.Str.{IsUtf8, is_utf8}
use Rattle.serde_json.specs.Data.{Data}
use Rattle.serde_json.specs.Find.{as_object}
use Rattle.serde_json.specs.Read.{read}
use Rattle.pact_trees.specs.Checked.{checked_tree}
use Rattle.pact_trees.specs.declared.check.NoTree.{NoTree}
use Rattle.pact_rules.specs.Outcome.{◌>>=◌, guard}
use Rattle.pact_file.specs.declared.object.FileFault.{FileFault}
use Rattle.pact_file.specs.declared.object.FileFault.TheVariants.{NotJson, Tree, NotObject}

-- the same answer, with another fault for each
abbrev pub with_fault : {A F G : Type 0} → (F → G) → Result A F → Result A G
with_fault convert (Ok x) = Ok x
with_fault convert (Err e) = Err (convert e)

-- a text in UTF-8, and not the empty one: only for such bytes memory is taken
abbrev pub IsSomeText : List ℕ → Type 0
IsSomeText bytes = IsUtf8 bytes × (0 < length bytes)

-- the value that the bytes are, a text of JSON in UTF-8
unfoldable pub json_of : List ℕ → Result Data FileFault
json_of bytes = if is_utf8 bytes then ok_or (read bytes) NotJson else Err NotJson

abbrev pub tree_or_fault : Result ⊤ NoTree → Result ⊤ FileFault
tree_or_fault r = with_fault (λ fault. Tree fault) r

-- an object without fractions that nests not too deep
unfoldable pub object_of : List ℕ → Result Data FileFault
object_of bytes = do
  whole ← json_of bytes
  tree ← tree_or_fault (checked_tree whole)
  is ← guard (is_some (as_object whole)) NotObject
  Ok whole
