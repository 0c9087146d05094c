-- For private clauses: what is kept with an interaction is what its definitions give.
use Rattle.std.specs.Prelude.{◌≡◌, ℕ, List, Option, Some}
use Rattle.serde_json.specs.Written.{compact_text}
use Rattle.serde_json.specs.Data.{Data}
use Rattle.pact_rules.specs.Rules.{Rules}
use Rattle.pact_file.specs.Headers.{HasHeaders}
use Rattle.pact_file.specs.Pact.{Header, Interaction, states_data, interaction_data}
use Rattle.pact_file.specs.Parts.{status_in, body_in}
use Rattle.pact_file.specs.Rules.{IsRulesOf}
use Rattle.pact_file.specs.Sound.{IsSound}

pub record IsFilled (x : Interaction) (status : ℕ) (headers : List Header) (body : Option Data) (rules : Rules)
    (states_text text : List ℕ) : Type 0 where
  pub sound : IsSound 98 (interaction_data x)
  pub has_status : status_in x.response ≡ Some status
  pub has_headers : HasHeaders x.response headers
  pub has_body : body ≡ body_in x.response
  pub has_rules : IsRulesOf x.response rules
  pub has_states_text : states_text ≡ compact_text (states_data x.states)
  pub has_text : text ≡ compact_text (interaction_data x)
