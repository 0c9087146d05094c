use Rattle.std.proofs.Common.{Some, None, ap, ◌∙◌, subst}
use Rattle.broker_core.specs.Text.{Text}
use Rattle.registry_tables.specs.Registry.{IsNewestBelow}
use Rattle.broker_tables.proofs.QueryLemmas.{LooksUpBetween-other_answer, LooksUpBetween-from_both}
use Rattle.contract_commands.proofs.branch_pact.next_below.Goals as goal

pub returns-in-Ok-contract_of-clause-read : goal.returns-in-Ok-contract_of-clause-read
returns-in-Ok-contract_of-clause-read g c =
    let number = c.in-Some.number in
    let content = c.in-Ok-contract_of.value in
    LooksUpBetween-from_both _ _ _ (Some number) content (Some (record { number = number; content = content })) _ _ _
    (λ s newest contract. (
      subst (λ (b : Text). IsNewestBelow s c.args.consumer.now b c.args.bound (Some number)) c.as_str-2.ensures
          (subst (λ (p : Text). IsNewestBelow s p c.as_str-2.result.now c.args.bound (Some number)) c.as_str.ensures newest),
      λ v is. contract v is ∙ ap (λ (p : Text). s.contracts (v, p)) c.as_str-then-number-bound.ensures,
    )) (rw c.in-Some.is at c.in-Ok.ensures) c.in-Ok-contract_of.ensures.answers

pub returns-in-None-clause-read : goal.returns-in-None-clause-read
returns-in-None-clause-read g c =
    LooksUpBetween-other_answer _ _ None None _ _
    (λ s newest. subst (λ (b : Text). IsNewestBelow s c.args.consumer.now b c.args.bound None) c.as_str-2.ensures
    (subst (λ (p : Text). IsNewestBelow s p c.as_str-2.result.now c.args.bound None) c.as_str.ensures newest)) (rw c.in-None.is at c.in-Ok.ensures)
