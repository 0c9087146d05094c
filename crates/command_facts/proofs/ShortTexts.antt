-- What a command stores is short: its names, the digest of its token, and the normal text of its pact.
use Rattle.std.specs.Prelude.{⊤, Option, Some, None, unwrap_or, IfSome}
use Rattle.std.proofs.{Common.{[], ◌≡◌, ◌≤◌, ◌^◌, ℕ, List, Bool, true, false, Result, Ok, Err, refl, length, nat_le, arith}, lemmas.Bool.{and_parts, leb-true}}
use Rattle.hex.{specs.Hex.{lower_digits}, proofs.HexLemmas.{length-encode_with}}
use Rattle.sha2.{specs.Sha256.{sha256}, proofs.Facts256.{length-sha256}}
use Rattle.serde_json.specs.Data.{Data}
use Rattle.pact_rules.specs.{Outcome.{guard}, Reading.{Follows}}
use Rattle.pact_file.specs.{File.{most_bytes, file_of}, Normal.{Normal}, Pact.{Pact}, declared.fault.PactFault.{PactFault}}
use Rattle.pact_file.{specs.declared.fault.PactFault.TheVariants.{TooLong}, proofs.Steps.{Result-bind_ok}}
use Rattle.command_facts.{specs.{Readings.{reading_of}, Primitives.{broker_primitives}}, proofs.Again.{ReadsAgain-broker_primitives}}
use Rattle.broker_names.specs.Name.{IsName, is_name}
use Rattle.broker_core.specs.{Machine.Reading.{IsPact}, Change.{instance_of}, Text.{Text}}

pub IsName-short : (name : List ℕ) → IsName name → length name ≤ 10 ^ 7
unfolding is_name
IsName-short name is =
    let parts = and_parts _ _ is in
    let few = leb-true (length name) 100 (and_parts _ _ parts.0).1 in
    omega (arith, few)

-- and so is a name that may be left out
pub IsName-optional_short : (name : Option (List ℕ)) → IfSome name IsName → length (unwrap_or name []) ≤ 10 ^ 7
IsName-optional_short None is = omega arith
IsName-optional_short (Some name) is = IsName-short name is

-- and an instance
pub instance_of-short : (name : Option (List ℕ)) → IfSome name IsName → length (instance_of name) ≤ 10 ^ 7
instance_of-short None is = omega arith
instance_of-short (Some name) is = IsName-short name is

pub digest_of-short : (token : List ℕ) → length (broker_primitives.digest_of token) ≤ 10 ^ 7
digest_of-short token = omega (arith, length-encode_with lower_digits (sha256 token), length-sha256 token)

guard-ok : (b : Bool) (u : ⊤) → guard {F = PactFault} b TooLong ≡ Ok u → b ≡ true
guard-ok true u h = refl
guard-ok false u h = absurd (cc)

-- a text that is read as JSON of a file is short
file_of-short : (text : Text) (d : Data) → file_of text ≡ Ok d → length text ≤ 10 ^ 7
unfolding file_of
file_of-short text d is =
    let read = Result-bind_ok (guard (nat_le (length text) most_bytes) TooLong) _ d is in
    omega (arith, leb-true (length text) most_bytes (guard-ok _ read.0 read.1))

Follows-short : (text : Text) (p : Pact) (first : Result Data PactFault) (next : Data → Result Pact PactFault → Type 0) → file_of text ≡ first → Follows first next (Ok p) → length text ≤ 10 ^ 7
Follows-short text p (Ok d) next is _ = file_of-short text d is
Follows-short text p (Err e) next is none = absurd (cc)

reading_of-short : (text consumer provider : Text) (answer : Result Pact PactFault) → Normal text answer → IsPact consumer provider text ≡ reading_of answer → length text ≤ 10 ^ 7
unfolding Normal
reading_of-short text consumer provider (Ok p) normal is = Follows-short text p normal.0 _ normal.1 normal.2
reading_of-short text consumer provider (Err e) normal is = absurd (cc)

-- the normal text of a pact reads as that pact, and so is short
pub Reads-short : (file consumer provider text : Text) → broker_primitives.Reads file (IsPact consumer provider text) → length text ≤ 10 ^ 7
Reads-short file consumer provider text reads = let it = ReadsAgain-broker_primitives file consumer provider text reads in reading_of-short text consumer provider it.0 it.1 it.2
