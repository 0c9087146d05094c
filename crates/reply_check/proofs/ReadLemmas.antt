-- What a reading of replies that succeeds went through, and that what is read is sound.
use Rattle.std.{specs.Option.{ok_or}, proofs.Common.{◌≡◌, ℕ, List, codes, is_some, option_and_then, Result, Ok, Err, refl, sym, ap, ◌∙◌, subst}}
use Rattle.serde_json.specs.{Data.{Data}, Find.{get, as_array, as_object}}
use Rattle.pact_rules.specs.{Outcome.{guard}, Reading.{GivesOne}}
use Rattle.pact_file.specs.{Pact.{states_data}, Parts.{text_at, object_at, states_in}, Sound.{IsSound}, Objects.{IsSomeText, json_of, object_of}}
use Rattle.pact_file.specs.{declared.object.FileFault.{FileFault}, declared.fault.Part.TheVariants.{Whole, Description, States, Response, Status}}
use Rattle.pact_file.proofs.{Objects.{with_fault-ok, object_of-sound, json_of-IsSomeText}, ReadLemmas.{AllSound, AllSound-listed}}
use Rattle.pact_file.proofs.SoundParts.{IsSound-get, AreSound-as_array, IsSound-states_data}
use Rattle.pact_file.proofs.Steps.{Result-bind_ok, ok_or-ok, Ok-injective, Err-injective, option_and_then-some}
use Rattle.reply_check.specs.{Recorded.{Reply as Recorded, status_sent}, ReplyParts.{as_file_fault, file_of, items_of, at, parts_at}}
use Rattle.reply_check.specs.{Replies.{FileRead, RepliesRead}, declared.fault.RepliesFault.{RepliesFault}}
use Rattle.reply_check.specs.{declared.fault.RepliesFault.TheVariants.{Shape, Memory}, declared.fault.Place.TheVariants.{Replies}}
use Rattle.pact_file.specs.declared.object.FileFault.TheVariants as file_fault

-- ---- soundness

pub file_of-sound : (bytes : List ℕ) (d : Data) → file_of bytes ≡ Ok d → IsSound 100 d
file_of-sound bytes d e = object_of-sound bytes d (with_fault-ok as_file_fault (object_of bytes) d e)

-- a file that is read is a text
pub file_of-IsSomeText : (bytes : List ℕ) (d : Data) → file_of bytes ≡ Ok d → IsSomeText bytes
unfolding object_of
file_of-IsSomeText bytes d e = let json = Result-bind_ok (json_of bytes) _ d (with_fault-ok as_file_fault (object_of bytes) d e) in json_of-IsSomeText bytes json.0 json.1

as_file_fault-memory : (e : FileFault) → as_file_fault e ≡ Memory → e ≡ file_fault.Memory
as_file_fault-memory file_fault.Memory h = refl
as_file_fault-memory e h = absurd cc

-- what follows if reading the file ran out of memory, follows if the whole did
pub memory_as : {A B P : Type 0} (e : FileFault) (fault : RepliesFault) → fault ≡ as_file_fault e → (◌≡◌ {A = Result A FileFault} (Err e) (Err file_fault.Memory) → P) → ◌≡◌ {A = Result B RepliesFault} (Err fault) (Err Memory) → P
memory_as e fault is h memory = h (ap Err (as_file_fault-memory e (sym is ∙ Err-injective fault Memory memory)))

pub RepliesRead-of_file : (bytes : List ℕ) (d : Data) (r : Result (List Recorded) RepliesFault) → file_of bytes ≡ Ok d → GivesOne Memory (λ r. r) r (FileRead d) → GivesOne Memory (λ r. r) r (RepliesRead bytes)
unfolding RepliesRead
RepliesRead-of_file bytes d (Ok rs) is h = (Ok d, is, h)
RepliesRead-of_file bytes d (Err e) is h = λ memory. (Ok d, is, h memory)

pub items_of-sound : (file : Data) (ds : List Data) → IsSound 100 file → items_of file ≡ Ok ds → AllSound ds
unfolding items_of
items_of-sound file ds h e =
    let items = Result-bind_ok (ok_or (option_and_then as_array (get (codes "replies") file)) (Shape Replies)) _ ds e in
    let found = option_and_then-some as_array (get (codes "replies") file) items.0 (ok_or-ok _ _ items.0 items.1) in
    subst AllSound (Ok-injective _ _ items.2) (AllSound-listed items.0 (AreSound-as_array 98 found.0 items.0 (IsSound-get 99 (codes "replies") file found.0 h found.1) found.2))

pub parts_at-sound : (i : ℕ) (d : Data) (r : Recorded) → IsSound 98 d → parts_at i d ≡ Ok r → IsSound 97 (states_data r.states)
unfolding parts_at
parts_at-sound i d r h e =
    let a = Result-bind_ok (guard (is_some (as_object d)) (at i Whole)) _ r e in
    let b = Result-bind_ok (ok_or (text_at (codes "description") d) (at i Description)) _ r a.2 in
    let s = Result-bind_ok (ok_or (states_in d) (at i States)) _ r b.2 in
    let q = Result-bind_ok (ok_or (object_at (codes "response") d) (at i Response)) _ r s.2 in
    let n = Result-bind_ok (ok_or (status_sent q.0) (at i Status)) _ r q.2 in
    let y : Recorded = record { description = b.0; states = s.0; response = q.0 } in
    let same : y ≡ r = Ok-injective _ _ n.2 in
    subst (λ (z : Recorded). IsSound 97 (states_data z.states)) {x = y} same (IsSound-states_data 95 d s.0 h (ok_or-ok _ _ s.0 s.1))
