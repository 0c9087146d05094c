-- The headers that a response has: texts, in the order of their names in lower case, no two of one name.
use Rattle.std.specs.Prelude.{◌≡◌, List, Some, Result, Ok, Err, ⊤}
use Rattle.serde_json.specs.Data.{Data}
use Rattle.pact_file.specs.Pact.{Header, name_cmp}
use Rattle.pact_file.specs.Parts.{headers_found}
use Rattle.pact_file.specs.Sets.{IsSetInOrder, HasClash}

-- two of one name, with any values
abbrev pub HasTwins : List Header → Type 0
HasTwins found = HasClash name_cmp (λ x y. ⊤) found

pub record HasHeaders (response : Data) (headers : List Header) : Type 0 where
  pub found : List Header
  pub read : headers_found response ≡ Some found
  pub apart : ¬ HasTwins found
  pub ordered : IsSetInOrder name_cmp found headers

-- the headers aren't as they must be
abbrev pub LacksHeaders : Data → Type 0
LacksHeaders response = (headers : List Header) → ¬ HasHeaders response headers

-- reading them gives the headers, or this fault if they aren't as they must be
abbrev pub HeadersRead : {F : Type 0} → F → Data → Result (List Header) F → Type 0
HeadersRead fault response (Ok headers) = HasHeaders response headers
HeadersRead fault response (Err found) = LacksHeaders response × (found ≡ fault)
