-- What is tested of an interaction before its headers and its rules, in order.
use Rattle.std.specs.Prelude.{ℕ, is_some, Result, Ok, codes}
use Rattle.std.specs.Option.{ok_or}
use Rattle.serde_json.specs.Data.{Data}
use Rattle.serde_json.specs.Find.{as_object}
use Rattle.pact_rules.specs.Outcome.{◌>>=◌, guard}
use Rattle.pact_file.specs.Pact.{Interaction}
use Rattle.pact_file.specs.Parts.{text_at, object_at, states_in, status_in}
use Rattle.pact_file.specs.declared.fault.PactFault.{PactFault}
use Rattle.pact_file.specs.declared.fault.PactFault.TheVariants.{Shape}
use Rattle.pact_file.specs.declared.fault.Place.TheVariants.{Interaction as Within}
use Rattle.pact_file.specs.declared.fault.Part.{Part}
use Rattle.pact_file.specs.declared.fault.Part.TheVariants.{Whole, Description, States, Request, Response, Status}

-- the part of the interaction i isn't as it must be
abbrev pub at : ℕ → Part → PactFault
at i part = Shape (Within i part)

unfoldable pub parts_at : ℕ → Data → Result Interaction PactFault
parts_at i d = do
  is ← guard (is_some (as_object d)) (at i Whole)
  description ← ok_or (text_at (codes "description") d) (at i Description)
  states ← ok_or (states_in d) (at i States)
  request ← ok_or (object_at (codes "request") d) (at i Request)
  response ← ok_or (object_at (codes "response") d) (at i Response)
  status ← ok_or (status_in response) (at i Status)
  Ok (record { description = description; states = states; request = request; response = response })
