use Rattle.json.specs.Print.{quoted}
use Rattle.pact_file.{specs.{Pact.{normal_text}, Texts.{interactions_text}}, proofs.NormalTexts.{normal_text-pushed}}
use Rattle.std.proofs.Common.{◌++◌, codes, string_bytes, ap, ap₂, ◌∙◌}
use Rattle.pact_file.proofs.texts.text_of_pact.Goals as goal

pub returns : goal.returns
returns c =
    let pact = c.pact.inside in
    let head = c.in_ok-push_str.ensures.bytes ∙ ap (λ t. t ++ codes "{\"consumer\":{\"name\":") c.in_ok-text.ensures.bytes in
    let consumer = c.in_ok-push_quoted.ensures ∙ ap₂ (λ t s. t ++ quoted s) head c.as_str.ensures.value in
    let list = c.in_ok-push_str-2.ensures.bytes ∙ ap (λ t. t ++ codes "},\"interactions\":[") consumer in
    let items = c.in_ok-push_interactions.ensures ∙ ap₂ (λ t xs. t ++ interactions_text xs) list c.as_slice.ensures.value in
    let side = c.in_ok-push_str-3.ensures.bytes ∙ ap (λ t. t ++ codes ",\"provider\":{\"name\":") items in
    let provider = c.in_ok-push_quoted-2.ensures ∙ ap₂ (λ t s. t ++ quoted s) side c.as_str-2.ensures.value in
    c.in_ok-push_str-4.ensures.bytes ∙ ap (λ t. t ++ codes "}}") provider
    ∙ normal_text-pushed (string_bytes pact.consumer) (string_bytes pact.provider) pact.interactions.items ∙ ap normal_text c.pact.view_is
