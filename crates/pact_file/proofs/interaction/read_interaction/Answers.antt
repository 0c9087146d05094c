use Rattle.serde_json.specs.View.{view}
use Rattle.pact_file.specs.{Filled.{IsFilled}, Interactions.{at}, Normal.{InteractionRead}, Parts.{body_in}, PartsView.{parts_view}}
use Rattle.pact_file.{specs.declared.fault.Part.TheVariants.{Headers}, proofs.ReadLemmas.{parts_at-sound, parts_at-response}}
use Rattle.pact_file.proofs.NormalTexts.{interaction_of_text-same}
use Rattle.std.proofs.{Common.{Ok, Err, option_map, option_and_then, string_bytes, refl, sym, ap, ◌∙◌, subst}, lemmas.Result.{err_from_is_err_and}}
use Rattle.pact_file.proofs.interaction.read_interaction.Goals as goal

pub returns-in_err-parts : goal.returns-in_err-parts
unfolding InteractionRead
returns-in_err-parts c =
    let p = err_from_is_err_and c.from_residual.result c.from_residual.ensures.1 in
    rw (p.1, p.2) (λ memory. (Err c.in_err-parts.field-0.0, c.in_err-parts.ensures.parts memory, refl))

pub returns-in_err-rules-in-Some : goal.returns-in_err-rules-in-Some
unfolding InteractionRead
returns-in_err-rules-in-Some c =
    let p = err_from_is_err_and c.from_residual-in_err-rules-in-Some.result c.from_residual-in_err-rules-in-Some.ensures.1 in
    rw (p.1, p.2) (λ memory.
    (Ok (parts_view c.in_ok-parts.parts), c.in_ok-parts.ensures.parts, (Ok c.in-Some.headers.items, rw c.in-Some.is at c.in_ok-read_headers.ensures, (Err c.in_err-rules-in-Some.field-0.0, c.in_err-rules-in-Some.ensures.read memory, refl))))

pub returns-in-None : goal.returns-in-None
unfolding InteractionRead
returns-in-None c = λ memory. (Ok (parts_view c.in_ok-parts.parts), c.in_ok-parts.ensures.parts, (Err (at c.args.index Headers), (rw c.in-None.is at c.in_ok-read_headers.ensures, refl), ap Err c.fault_at.ensures))

pub texts_of-requires : goal.texts_of-requires
texts_of-requires c = parts_at-sound c.args.index (view c.args.value) (parts_view c.in_ok-parts.parts) c.requires c.in_ok-parts.ensures.parts

pub returns-in_ok-texts-in-Some : goal.returns-in_ok-texts-in-Some
unfolding InteractionRead
returns-in_ok-texts-in-Some c =
    (Ok (parts_view c.in_ok-parts.parts), c.in_ok-parts.ensures.parts, (Ok c.in-Some.headers.items, rw c.in-Some.is at c.in_ok-read_headers.ensures, (Ok c.in_ok-rules-in-Some.rules, c.in_ok-rules-in-Some.ensures.read, ap Ok (sym (interaction_of_text-same (parts_view c.in_ok-parts.parts) (string_bytes c.in_ok-texts-in-Some.texts.whole) (parts_at-sound c.args.index (view c.args.value) (parts_view c.in_ok-parts.parts) c.requires c.in_ok-parts.ensures.parts) c.in_ok-texts-in-Some.ensures.whole)))))

pub invariant_of-result : goal.invariant_of-result
invariant_of-result c =
    let x = parts_view c.in_ok-parts.parts in
    let parts = c.in_ok-parts.ensures.parts in
    let sound = parts_at-sound c.args.index (view c.args.value) x c.requires parts in
    let texts = c.in_ok-texts-in-Some in
    let whole = texts.ensures.whole in
    subst (λ y. IsFilled y c.in_ok-parts.parts.status c.in-Some.headers.items (option_map view c.take_body-body.result) c.in_ok-rules-in-Some.rules (string_bytes texts.texts.states) (string_bytes texts.texts.whole))
    (sym (interaction_of_text-same x (string_bytes texts.texts.whole) sound whole))
    (record {
      sound = sound;
      has_status = c.in_ok-parts.ensures.status;
      has_headers = rw c.in-Some.is at c.in_ok-read_headers.ensures;
      has_body = c.take_body-body.ensures ∙ ap (option_and_then body_in) (parts_at-response c.args.index (view c.args.value) x parts);
      has_rules = c.in_ok-rules-in-Some.ensures.table;
      has_states_text = texts.ensures.states;
      has_text = whole;
    })
