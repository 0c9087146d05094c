use Rattle.deploy_tables.proofs.{NeedLemmas.{IsWantedNeed-both}, MatrixLoop.{LooksUpBetween-then_failed, LooksUpBetween-from_both}}
use Rattle.deploy_tables.proofs.selected_needs.selected_needs.Goals as goal

pub returns-clause-answers : goal.returns-clause-answers
returns-clause-answers g c =
    LooksUpBetween-from_both _ _ _ _ _ _ _ _ _ (λ s own others number. IsWantedNeed-both s c.args.question.now own.0 _ _ _ c.new-found.ensures.items (own.1 number) (others number))
    c.in-Ok.ensures.answers c.in-Ok-needs_of_others.ensures

pub returns-in-Err-needs_of_others-clause-answers : goal.returns-in-Err-needs_of_others-clause-answers
returns-in-Err-needs_of_others-clause-answers g c = LooksUpBetween-then_failed _ _ _ _ _ _ _ _ c.in-Ok.ensures.answers c.in-Err-needs_of_others.ensures
