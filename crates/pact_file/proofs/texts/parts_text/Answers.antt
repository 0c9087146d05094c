use Rattle.json.specs.Print.{quoted}
use Rattle.serde_json.specs.View.{view}
use Rattle.pact_file.proofs.NormalTexts.{text_of_parts-pushed}
use Rattle.std.proofs.Common.{◌++◌, codes, ap, ap₂, ◌∙◌}
use Rattle.pact_file.proofs.texts.parts_text.Goals as goal

pub returns : goal.returns
returns c =
    let description = c.args.description.now in
    let states = c.args.states_text.now in
    let head = c.in_ok-push_str.ensures.bytes ∙ ap (λ t. t ++ codes "{\"description\":") c.in_ok-text.ensures.bytes in
    let described = c.in_ok-push_quoted.ensures ∙ ap (λ t. t ++ quoted description) head in
    let given = c.in_ok-push_str-3.ensures.bytes ∙ ap (λ t. t ++ states) (c.in_ok-push_str-2.ensures.bytes ∙ ap (λ t. t ++ codes ",\"providerStates\":") described) in
    let asked = c.in_ok-push_str-5.ensures.bytes
    ∙ ap₂ (λ t p. t ++ p) (c.in_ok-push_str-4.ensures.bytes ∙ ap (λ t. t ++ codes ",\"request\":") given) (c.as_str.ensures.value ∙ c.in_ok-request.ensures.text c.requires.request) in
    let answered = c.in_ok-push_str-7.ensures.bytes
    ∙ ap₂ (λ t p. t ++ p) (c.in_ok-push_str-6.ensures.bytes ∙ ap (λ t. t ++ codes ",\"response\":") asked) (c.as_str-2.ensures.value ∙ c.in_ok-response.ensures.text c.requires.response) in
    c.in_ok-push_str-8.ensures.bytes ∙ ap (λ t. t ++ codes "}") answered ∙ text_of_parts-pushed description states (view c.args.request.now) (view c.args.response.now)
