-- Names in a path (escapes as in RFC 3986, section 2.1).
use Rattle.std.specs.Prelude.{◌≡◌, ℕ, IsUtf8, Option, Some, None, Result, ok_or}
use Rattle.percent_encoding.specs.Percent.{percent_decode}
use Rattle.broker_names.specs.Name.{IsName}
use Rattle.broker_core.specs.Text.{Text}
use Rattle.broker_core.specs.declared.command.FormFault.{FormFault}
use Rattle.broker_core.specs.declared.command.FormFault.TheVariants as fault
use Rattle.http_routes.specs.Routes.{segment}

-- a part of a command: what it is read as, or its fault
abbrev pub CommandPart : Type 0 → Type 1
CommandPart A = Result A FormFault → Type 0

-- the name that a text is, if it is one; bytes that aren't UTF-8 are none
abbrev pub IsNamed : Text → Option Text → Type 0
IsNamed text (Some name) = (name ≡ text) × IsUtf8 text × IsName text
IsNamed text None = IsUtf8 text → ¬ (IsName text)

-- the name in a segment of a path, its escapes decoded
abbrev pub IsPathName : ℕ → Text → CommandPart Text
IsPathName index path r =
    (name : Option Text) × IsNamed (percent_decode (segment index path)) name
    × (r ≡ ok_or name fault.Name)

-- the segment is a name once its escapes are decoded
abbrev pub HasPathName : ℕ → Text → Type 0
HasPathName index path = IsName (percent_decode (segment index path))
