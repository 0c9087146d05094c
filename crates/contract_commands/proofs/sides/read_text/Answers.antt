use Rattle.std.proofs.Common.{◌≡◌, ◌<◌, ◌^◌, ℕ, List, arith, Ok, Some, None, Option, option_map, string_bytes, sym, ap, ◌∙◌}
use Rattle.table_access.proofs.CallLemmas.{CallsBetween-then_Ok}
use Rattle.content_store.proofs.Held.{QueriesBetween-contents}
use Rattle.contract_commands.proofs.sides.read_text.Goals as goal

pub returns-in-Some-clause-answers : goal.returns-in-Some-clause-answers
returns-in-Some-clause-answers g c =
    let low : c.args.content < 2 ^ 63 = omega arith in
    CallsBetween-then_Ok _ _ c.in-Ok.value c.new.result _ _ (λ h s held. let it = h s held in (sym (it.0.0 low) ∙ ap (option_map string_bytes) c.in-Some.is ∙ ap Some (sym c.new.ensures), it.1))
    (QueriesBetween-contents _ _ (Ok c.in-Ok.value) _ c.in-Ok.ensures.call)

pub returns-in-None-clause-failure : goal.returns-in-None-clause-failure
returns-in-None-clause-failure g c = λ clean s here has.
    let low : c.args.content < 2 ^ 63 = omega arith in
    let read = QueriesBetween-contents _ _ (Ok c.in-Ok.value) _ c.in-Ok.ensures.call in
    let clash : ◌≡◌ {A = Option (List ℕ)} None (Some has.0) = sym (ap (option_map string_bytes) c.in-None.is) ∙ (read.ok clean s here.held).0.0 low ∙ has.1 in
    absurd cc
