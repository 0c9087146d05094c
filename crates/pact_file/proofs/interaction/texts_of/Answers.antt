use Rattle.std.proofs.Common.{◌≡◌, string_bytes, ap, ◌∙◌}
use Rattle.pact_file.{specs.{Pact.{states_data}, PartsView.{parts_view}}, proofs.{NormalTexts.{compact_text-interaction_data}, SoundData.{IsSound-no_floats}}}
use Rattle.serde_json.specs.{View.{view}, Written.{compact_text}}
use Rattle.pact_file.proofs.interaction.texts_of.Goals as goal

pub states_text-requires : goal.states_text-requires
states_text-requires c = rw c.as_slice.ensures.value (IsSound-no_floats 97 (states_data c.args.parts.now.states.items) c.requires.2.1)

pub parts_text-requires-clause-request : goal.parts_text-requires-clause-request
parts_text-requires-clause-request c = IsSound-no_floats 97 (view c.args.parts.now.request.now) c.requires.2.2.1

pub parts_text-requires-clause-response : goal.parts_text-requires-clause-response
parts_text-requires-clause-response c = IsSound-no_floats 97 (view c.args.parts.now.response.now) c.requires.2.2.2.1

pub returns-clause-whole : goal.returns-clause-whole
returns-clause-whole c =
    let states : string_bytes c.in_ok-states.states ≡ compact_text (states_data c.args.parts.now.states.items) = c.in_ok-states.ensures
    ∙ ap (λ ss. compact_text (states_data ss)) c.as_slice.ensures.value in
    compact_text-interaction_data (parts_view c.args.parts.now) _ _ _ c.as_str.ensures.value (c.as_str-2.ensures.value ∙ states) c.in_ok-whole.ensures
