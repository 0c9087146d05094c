-- A recorded reply: what a provider answered (this project's own choice).
use Rattle.std.specs.Prelude.{ℕ, List, Option, option_and_then, codes, refl}
use Rattle.std.specs.Coded.{Coded, code_by, coded_ℕ, coded_list, coded×}
use Rattle.serde_json.specs.Data.{Data}
use Rattle.serde_json.specs.Find.{get}
use Rattle.pact_file.specs.DataCode.{data_code}
use Rattle.pact_file.specs.Pact.{State, state_code}
use Rattle.pact_file.specs.Parts.{status_at}

-- for the interaction of this description and these states; the response is the data as it is in the file
pub record Reply : Type 0 where
  pub description : List ℕ
  pub states : List State
  pub response : Data

abbrev pub reply_with : List ℕ → List State → Data → Reply
reply_with description states response = record { description = description; states = states; response = response }

-- the status, which has to be there
unfoldable pub status_sent : Data → Option ℕ
status_sent response = option_and_then status_at (get (codes "status") response)

-- how the logic stores a reply
abbrev pub reply_code : Coded Reply
reply_code =
    code_by (List ℕ × (List State × Data))
    (coded× (coded_list coded_ℕ) (coded× (coded_list state_code) data_code))
    (λ r. (r.description, (r.states, r.response)))
    (λ p. record { description = p.0; states = p.1.0; response = p.1.1 }) (λ _. refl)
