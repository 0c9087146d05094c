-- For private clauses: the code's values as the definitions' values.
use Rattle.std.specs.Prelude.{◌≡◌, List, ℕ, Some, None, Result, Ok, Err}
use Rattle.serde_json.specs.Data.{Data}
use Rattle.serde_json.specs.View.{view}
use Rattle.broker_core.specs.declared.command.FormFault.{FormFault}
use Rattle.broker_core.specs.declared.command.FormFault.TheVariants as fault
use Rattle.http_requests.specs.Names.{CommandPart}
use Rattle.http_requests.specs.Bodies.{IsObject}
use Rattle.http_requests.specs.declared.bodies.Fields.{Fields}

abbrev pub object_in : Fields → Data
object_in fields = view fields.object

-- the fields are those of the body's object, or it is none
abbrev pub IsObjectRead : List ℕ → Result Fields FormFault → Type 0
IsObjectRead body (Ok fields) = IsObject body (Some (object_in fields))
IsObjectRead body (Err f) = IsObject body None × (f ≡ fault.Json)

-- a part that is read, with this beside it
abbrev pub IsBeside : {A B : Type 0} → B → CommandPart A → CommandPart (A × B)
IsBeside this IsPart (Ok pair) = IsPart (Ok pair.0) × (pair.1 ≡ this)
IsBeside this IsPart (Err f) = IsPart (Err f)
