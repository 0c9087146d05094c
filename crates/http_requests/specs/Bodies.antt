-- The fields of a body, which is an object of JSON (RFC 8259).
use Rattle.std.specs.Prelude.{◌≡◌, ℕ, ◌==◌, Bool, false, List, length, codes, IsUtf8, Option, Some, None, Ok, Err, if◌then◌else◌, is_some, ok_or, option_map, option_and_then}
use Rattle.serde_json.specs.Data.{Data}
use Rattle.serde_json.specs.Find.{get, as_null, as_str, as_bool, as_object}
use Rattle.serde_json.specs.Read.{read as read_text}
use Rattle.broker_names.specs.Name.{IsName, IsToken}
use Rattle.broker_core.specs.Text.{Text}
use Rattle.broker_core.specs.declared.command.FormFault.TheVariants as fault
use Rattle.http_requests.specs.Names.{CommandPart, IsNamed}

-- the JSON value that the bytes are, if they are one
abbrev pub IsData : List ℕ → Option Data → Type 0
IsData body (Some d) = IsUtf8 body × (read_text body ≡ Some d)
IsData body None = IsUtf8 body → read_text body ≡ None

-- a value that is an object
abbrev pub only_object : Option Data → Option Data
only_object = option_and_then (λ d. if is_some (as_object d) then Some d else None)

-- the object that a body is, if it is one
abbrev pub IsObject : List ℕ → Option Data → Type 0
IsObject body o = (d : Option Data) × IsData body d × (o ≡ only_object d)

-- a body of no bytes counts as an object without fields
abbrev pub or_empty : List ℕ → List ℕ
or_empty body = if length body == 0 then codes "{}" else body

-- a value that isn't null
abbrev pub non_null : Option Data → Option Data
non_null = option_and_then (λ d. if is_some (as_null d) then None else Some d)

-- the name that a text is, if there is one
abbrev pub IsTextNamed : Option Text → Option Text → Type 0
IsTextNamed None name = name ≡ None
IsTextNamed (Some text) name = IsNamed text name

-- there is a text, and it is a name
abbrev pub HasName : Option Text → Type 0
HasName text = (name : Text) × (text ≡ Some name) × IsName name

-- a name that must be there
abbrev pub IsNameField : Text → Data → CommandPart Text
IsNameField key d r =
    (name : Option Text) × IsTextNamed (option_and_then as_str (get key d)) name × (r ≡ ok_or name (fault.Field key))

-- a name that may be absent or null
abbrev pub IsGivenName : Text → Option Data → CommandPart (Option Text)
IsGivenName key None r = r ≡ Ok None
IsGivenName key (Some value) r =
    (name : Option Text) × IsTextNamed (as_str value) name × (r ≡ ok_or (option_map Some name) (fault.Field key))

abbrev pub IsOptionalName : Text → Data → CommandPart (Option Text)
IsOptionalName key d = IsGivenName key (non_null (get key d))

-- the token that a text is: a text of a wrong form is another fault than none
abbrev pub IsTokenText : Option Text → CommandPart Text
IsTokenText None r = r ≡ Err (fault.Field (codes "token"))
IsTokenText (Some text) (Ok token) = (token ≡ text) × IsToken text
IsTokenText (Some text) (Err f) = (f ≡ fault.Token) × (¬ (IsToken text))

abbrev pub IsTokenField : Data → CommandPart Text
IsTokenField d = IsTokenText (option_and_then as_str (get (codes "token") d))

-- a truth value that must be there
abbrev pub IsTruthField : Text → Data → CommandPart Bool
IsTruthField key d r = r ≡ ok_or (option_and_then as_bool (get key d)) (fault.Field key)

-- a truth value that may be absent or null, which counts as false
abbrev pub IsGivenTruth : Text → Option Data → CommandPart Bool
IsGivenTruth key None r = r ≡ Ok false
IsGivenTruth key (Some value) r = r ≡ ok_or (as_bool value) (fault.Field key)

abbrev pub IsOptionalTruth : Text → Data → CommandPart Bool
IsOptionalTruth key d = IsGivenTruth key (non_null (get key d))
