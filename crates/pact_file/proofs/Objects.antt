-- A file that is one object: its text as JSON, and that what is read is IsSound-of_kept.
use Rattle.std.specs.{Str.{IsUtf8, is_utf8}, Prelude.{⊤}, Option.{ok_or}}
use Rattle.std.proofs.Common.{◌≡◌, arith, Bool, true, false, cond, is_some, nat_le, leb-true, List, [], ◌∷◌, ℕ, Option, Some, None, Result, Ok, Err, refl, sym, ap, ◌∙◌, subst}
use Rattle.std.proofs.lemmas.Str.{is_utf8-from_IsUtf8, IsUtf8-from_is_utf8}
use Rattle.serde_json.specs.{Data.{Data, depth}, Read.{read}, Find.{as_object}, Written.{has_float}, View.{view}, declared.value.Value.{Value}}
use Rattle.serde_json.proofs.OnLiterals.{serde_json_on_literals}
use Rattle.pact_trees.specs.{declared.check.NoTree.TheVariants.{NotWhole, TooDeep}, Checked.{checked_tree}}
use Rattle.pact_rules.specs.Outcome.{guard, Gives}
use Rattle.pact_file.specs.{File.{as_file_fault}, Objects.{IsSomeText, json_of, tree_or_fault, object_of, with_fault}, Sound.{IsSound}}
use Rattle.pact_file.specs.{declared.fault.PactFault.{PactFault}, declared.fault.PactFault.TheVariants.{Memory as PactMemory}}
use Rattle.pact_file.specs.{declared.object.FileFault.{FileFault}, declared.object.FileFault.TheVariants.{NotJson, NotObject, Memory}}
use Rattle.pact_file.proofs.{ReadKept.{IsKept-read}, SoundData.{IsSound-of_kept}, Steps.{Result-bind_ok, ok_or-ok, Ok-injective, Err-injective, Ok-not_Err}}

-- ---- a text as JSON

pub json_of-ok : (bytes : List ℕ) (d : Data) → IsUtf8 bytes → read bytes ≡ Some d → json_of bytes ≡ Ok d
unfolding json_of
json_of-ok bytes d text h = rw (is_utf8-from_IsUtf8 bytes text, h) refl

json_of-not_json_case : (b : Bool) (bytes : List ℕ) → is_utf8 bytes ≡ b → (IsUtf8 bytes → read bytes ≡ None) → json_of bytes ≡ Err NotJson
unfolding json_of
json_of-not_json_case true bytes is h = rw (is, h (IsUtf8-from_is_utf8 bytes is)) refl
json_of-not_json_case false bytes is h = rw is refl

pub json_of-not_json : (bytes : List ℕ) → (IsUtf8 bytes → read bytes ≡ None) → json_of bytes ≡ Err NotJson
json_of-not_json bytes h = json_of-not_json_case (is_utf8 bytes) bytes refl h

-- ---- what is read is IsSound-of_kept

json_of-ok_parts : (t : Bool) (o : Option Data) (d : Data) → cond t (ok_or o NotJson) (Err NotJson) ≡ Ok d → (t ≡ true) × (o ≡ Some d)
json_of-ok_parts true o d h = (refl, ok_or-ok o NotJson d h)
json_of-ok_parts false o d h = absurd cc

tree_or_fault-ok : (deep float : Bool) (x : ⊤) → tree_or_fault (cond deep (cond float (Err NotWhole) (Ok tt)) (Err TooDeep)) ≡ Ok x → (deep ≡ true) × (float ≡ false)
tree_or_fault-ok true false x h = (refl, refl)
tree_or_fault-ok true true x h = absurd cc
tree_or_fault-ok false float x h = absurd cc

-- if a text reads as one object, that is IsSound-of_kept data, nesting at most 100
pub object_of-sound : (bytes : List ℕ) (d : Data) → object_of bytes ≡ Ok d → IsSound 100 d
unfolding object_of json_of
object_of-sound bytes d e =
    let json = Result-bind_ok (json_of bytes) _ d e in
    let tree = Result-bind_ok (tree_or_fault (checked_tree json.0)) _ d json.2 in
    let is = Result-bind_ok (guard (is_some (as_object json.0)) NotObject) _ d tree.2 in
    let found_text = json_of-ok_parts (is_utf8 bytes) (read bytes) json.0 json.1 in
    let found = tree_or_fault-ok (nat_le (depth json.0) 100) (has_float json.0) tree.0 tree.1 in
    subst (IsSound 100) (Ok-injective _ _ is.2)
    (IsSound-of_kept 100 json.0 (IsKept-read bytes json.0 (IsUtf8-from_is_utf8 bytes found_text.0) found_text.1) found.1 (leb-true (depth json.0) 100 found.0))

-- ---- what is read is a text

pub json_of-IsSomeText : (bytes : List ℕ) (d : Data) → json_of bytes ≡ Ok d → IsSomeText bytes
unfolding json_of serde_json_on_literals
json_of-IsSomeText [] d e = Ok-not_Err d NotJson (sym e ∙ json_of-not_json [] (λ text. refl))
json_of-IsSomeText (b ∷ bs) d e = (IsUtf8-from_is_utf8 (b ∷ bs) (json_of-ok_parts (is_utf8 (b ∷ bs)) (read (b ∷ bs)) d e).0, omega arith)

-- the text is read, of which the bytes are
pub json_of-of_text : (bytes text : List ℕ) (r : Result Value FileFault) → text ≡ bytes → IsUtf8 bytes → Gives Memory view r (ok_or (read text) NotJson) → Gives Memory view r (json_of bytes)
unfolding json_of
json_of-of_text bytes text r is utf8 h = rw (is_utf8-from_IsUtf8 bytes utf8) (subst (λ t. Gives Memory view r (ok_or (read t) NotJson)) is h)

-- what follows if reading the file ran out of memory, follows if the whole did
pub memory_as : {A B P : Type 0} (e : FileFault) (fault : PactFault) → fault ≡ as_file_fault e → (◌≡◌ {A = Result A FileFault} (Err e) (Err Memory) → P) → ◌≡◌ {A = Result B PactFault} (Err fault) (Err PactMemory) → P
memory_as Memory fault is h memory = h refl
memory_as e fault is h memory = let same : as_file_fault e ≡ PactMemory = sym is ∙ Err-injective fault PactMemory memory in absurd cc

-- ---- another fault for each

-- if an answer whose fault was renamed is a success, the answer itself was that success
pub with_fault-ok : {A F G : Type 0} (convert : F → G) (r : Result A F) (x : A) → with_fault convert r ≡ Ok x → r ≡ Ok x
with_fault-ok convert (Ok y) x h = ap Ok (Ok-injective y x h)
with_fault-ok convert (Err e) x h = absurd cc

-- what is given, under the other faults
pub fault_as : {A F G : Type 0} (convert : F → G) (memory : F) (other : G) (r : Result A F) (e : F) (fault : G) → convert memory ≡ other → fault ≡ convert e → (¬ (e ≡ memory) → r ≡ Err e)
    → ¬ (fault ≡ other) → with_fault convert r ≡ Err fault
fault_as convert memory other r e fault same is h apart =
    ap (with_fault convert) (h (λ k. apart (is ∙ ap convert k ∙ same))) ∙ ap Err (sym is)
