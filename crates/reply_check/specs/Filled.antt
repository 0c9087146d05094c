-- For private clauses: what is kept with a reply is what its definitions give.
use Rattle.std.specs.Prelude.{◌≡◌, ℕ, List, Some}
use Rattle.serde_json.specs.Written.{compact_text}
use Rattle.pact_file.specs.Headers.{HasHeaders}
use Rattle.pact_file.specs.Pact.{Header, states_data}
use Rattle.pact_file.specs.Sound.{IsSound}
use Rattle.reply_check.specs.Recorded.{Reply, status_sent}

pub record IsFilled (r : Reply) (status : ℕ) (headers : List Header) (states_text : List ℕ) : Type 0 where
  pub sound : IsSound 97 (states_data r.states)
  pub has_status : status_sent r.response ≡ Some status
  pub has_headers : HasHeaders r.response headers
  pub has_states_text : states_text ≡ compact_text (states_data r.states)
