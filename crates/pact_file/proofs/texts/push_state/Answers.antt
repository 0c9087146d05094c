use Rattle.json.specs.Print.{quoted}
use Rattle.serde_json.specs.{View.{view}, Written.{compact_text}}
use Rattle.pact_file.{specs.Pact.{State}, proofs.NormalTexts.{state_data-text, state_data-text_with_params, has_float-params, OnOk-pushed}}
use Rattle.std.proofs.Common.{◌≡◌, ◌++◌, codes, Some, string_bytes, ap, ap₂, ◌∙◌}
use Rattle.pact_file.proofs.texts.push_state.Goals as goal

pub returns-in-None : goal.returns-in-None
returns-in-None c =
    let text = string_bytes c.args.text.now in
    let n = string_bytes c.state.inside.name in
    let named = c.in_ok-push_quoted.ensures ∙ ap₂ (λ t s. t ++ quoted s) c.in_ok-push_str.ensures.bytes c.as_str.ensures.value in
    OnOk-pushed c.push_str-in-None.result _ _ _ _ c.push_str-in-None.ensures.bytes
    (ap (λ t. t ++ codes "}") named ∙ state_data-text text n c.args.state.now (rw c.in-None.is at c.state.view_is))

pub returns-in_ok-push_str-in-Some-2 : goal.returns-in_ok-push_str-in-Some-2
returns-in_ok-push_str-in-Some-2 c =
    let text = string_bytes c.args.text.now in
    let n = string_bytes c.state.inside.name in
    let d = view c.in-Some.params in
    let is : ◌≡◌ {A = State} (record { name = n; params = Some d }) c.args.state.now = rw c.in-Some.is at c.state.view_is in
    let named = c.in_ok-push_quoted.ensures ∙ ap₂ (λ t s. t ++ quoted s) c.in_ok-push_str.ensures.bytes c.as_str.ensures.value in
    let with = c.in_ok-push_str-in-Some.ensures.bytes ∙ ap (λ t. t ++ codes ",\"params\":") named in
    let params = c.as_str-in-Some.ensures.value ∙ c.in_ok-params-in-Some.ensures.text (has_float-params n d c.args.state.now is c.requires) in
    let whole = c.in_ok-push_str-in-Some-2.ensures.bytes ∙ ap₂ (λ t p. t ++ p) with params in
    OnOk-pushed c.push_str-in-Some-3.result _ _ _ _ c.push_str-in-Some-3.ensures.bytes
    (ap (λ t. t ++ codes "}") whole ∙ state_data-text_with_params text n d c.args.state.now is)
