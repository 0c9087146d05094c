-- What this broker keeps of tokens and of pact files is in UTF-8.
use Rattle.std.{specs.{Option.{ok_or}, Str.{IsUtf8, is_utf8}}, proofs.Common.{◌≡◌, true, false, Result, Ok, Err, refl, if◌then◌else◌, nat_le, length}}
use Rattle.std.proofs.lemmas.Str.{IsUtf8-from_is_utf8}
use Rattle.serde_json.specs.{Data.{Data}, Read.{read}}
use Rattle.pact_rules.specs.{Outcome.{guard}, Reading.{Follows}}
use Rattle.pact_file.specs.{File.{most_bytes, as_file_fault, file_of}, Normal.{Normal}, Objects.{json_of, object_of}, Pact.{Pact}}
use Rattle.pact_file.specs.{declared.fault.PactFault.{PactFault}, declared.fault.PactFault.TheVariants.{TooLong}}
use Rattle.pact_file.{specs.declared.object.FileFault.TheVariants.{NotJson}, proofs.{Objects.{with_fault-ok}, Steps.{Result-bind_ok}}}
use Rattle.broker_core.specs.{Contents.{ReadsAgain}, Machine.Reading.{IsPact}, SoundNames.{GivesDigests}, Text.{Text}}
use Rattle.command_facts.specs.{Readings.{reading_of}, Primitives.{broker_primitives}}
use Rattle.broker_tables.{specs.Laws.{KeepsUtf8}, proofs.ReadableSteps.{IsDigest-IsUtf8}}

json_of-utf8 : (text : Text) (d : Data) → json_of text ≡ Ok d → IsUtf8 text
unfolding json_of
json_of-utf8 text d is =
    elim (is_utf8 text) as (λ b. is_utf8 text ≡ b → (if b then ok_or (read text) NotJson else Err NotJson) ≡ Ok d → IsUtf8 text) [
      | true ↦ λ utf8 _. IsUtf8-from_is_utf8 text utf8
      | false ↦ λ _ none. absurd (cc)
    ] refl is

object_of-utf8 : (text : Text) (d : Data) → object_of text ≡ Ok d → IsUtf8 text
unfolding object_of
object_of-utf8 text d is = let json = Result-bind_ok (json_of text) _ d is in json_of-utf8 text json.0 json.1

file_of-utf8 : (text : Text) (d : Data) → file_of text ≡ Ok d → IsUtf8 text
unfolding file_of
file_of-utf8 text d is =
    let short = Result-bind_ok (guard (nat_le (length text) most_bytes) TooLong) _ d is in
    object_of-utf8 text d (with_fault-ok as_file_fault (object_of text) d short.2)

-- if the first part failed, no pact is read
Follows-utf8 : (text : Text) (p : Pact) (first : Result Data PactFault) (next : Data → Result Pact PactFault → Type 0) → file_of text ≡ first → Follows first next (Ok p) → IsUtf8 text
Follows-utf8 text p (Ok d) next is _ = file_of-utf8 text d is
Follows-utf8 text p (Err e) next is none = absurd (cc)

-- a text that is read as a pact is in UTF-8
pub Normal-utf8 : (text : Text) (p : Pact) → Normal text (Ok p) → IsUtf8 text
unfolding Normal
Normal-utf8 text p normal = Follows-utf8 text p normal.0 _ normal.1 normal.2

reading_of-utf8 : (text consumer provider normal : Text) (answer : Result Pact PactFault) → Normal text answer → IsPact consumer provider normal ≡ reading_of answer → IsUtf8 text
reading_of-utf8 text consumer provider normal (Ok p) read is = Normal-utf8 text p read
reading_of-utf8 text consumer provider normal (Err e) read is = absurd (cc)

pub KeepsUtf8-broker_primitives : GivesDigests broker_primitives → ReadsAgain broker_primitives → KeepsUtf8 broker_primitives
KeepsUtf8-broker_primitives digests again = record {
  digests = λ token. IsDigest-IsUtf8 (broker_primitives.digest_of token) (digests token);
  pacts = λ file consumer provider text reads. let it = again file consumer provider text reads in reading_of-utf8 text consumer provider text it.0 it.1 it.2;
}
