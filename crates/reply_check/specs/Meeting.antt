-- When a recorded reply meets an interaction (this project's own choice): the status is equal, each expected header
-- was sent with a value that fits, and the body meets the expected one. Other headers are allowed.
use Rattle.std.specs.Prelude.{◌≡◌, ℕ, true, false, List, Option, Some, None, IsTrue}
use Rattle.serde_json.specs.Data.{Data, string}
use Rattle.pact_rules.specs.Rules.{Rules, Entry, has_regex}
use Rattle.pact_rules.specs.Tables.{header_entry}
use Rattle.pact_rules.specs.Matching.{entry_holds}
use Rattle.pact_file.specs.Pact.{Header, Interaction}
use Rattle.pact_file.specs.Parts.{status_in, body_in, headers_found}
use Rattle.pact_file.specs.Rules.{IsRulesOf}
use Rattle.pact_rules.specs.Lists.{IsIn}
use Rattle.reply_check.specs.Bodies.{MeetsBody}
use Rattle.reply_check.specs.HeaderValues.{HasValue}
use Rattle.reply_check.specs.Recorded.{Reply, status_sent}

-- ---- headers

-- one of the headers of a response: its name in lower case, and its value
abbrev pub HasHeader : Data → Header → Type 0
HasHeader response h = (found : List Header) × (headers_found response ≡ Some found) × IsIn h found

-- the entry holds on the two texts; without one the values are the same but for what doesn't count
abbrev pub FitsBy : Option Entry → List ℕ → List ℕ → List ℕ → Type 0
FitsBy None name expected sent = HasValue name expected sent
FitsBy (Some entry) name expected sent = IsTrue (entry_holds entry (string expected) (string sent) false)

-- what was sent under the name of an expected header fits
abbrev pub FitsHeader : Rules → Header → List ℕ → Type 0
FitsHeader rules h sent = FitsBy (header_entry rules.headers h.name) h.name h.value sent

-- ---- the whole

pub record Meets (x : Interaction) (r : Reply) : Type 0 where
  pub status : (n : ℕ) × (status_in x.response ≡ Some n) × (status_sent r.response ≡ Some n)
  pub rules : Rules
  pub has_rules : IsRulesOf x.response rules
  pub headers : (h : Header) → HasHeader x.response h
      → (sent : List ℕ) × HasHeader r.response (record { name = h.name; value = sent }) × FitsHeader rules h sent
  pub body : MeetsBody rules (body_in x.response) (body_in r.response)

-- the rules of an interaction have a pattern, in an entry of its body or of a header
abbrev pub HasPattern : Interaction → Type 0
HasPattern x = (rules : Rules) × IsRulesOf x.response rules × (has_regex rules ≡ true)
