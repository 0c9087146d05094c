use Rattle.std.proofs.{Common.{inl, inr}, lemmas.Result.{IfErr-weaker}}
use Rattle.broker_database.proofs.{MakeLemmas.{looked}, OpenFailures.{ReportsNothing-of_look_up}}
use Rattle.broker_database.proofs.opening.find_format.Goals as goal

pub returns-clause-failure : goal.returns-clause-failure
returns-clause-failure g c clean fresh is =
    elim (ReportsNothing-of_look_up _ _ _ _ _ _ c.undo.result
    (looked _ _ _ _ _ c.format_to_open-found.result c.undo.result c.in-Ok.ensures.begun c.begin.ensures.survives c.format_to_open-found.ensures.finds c.undo.ensures) clean fresh
    (λ _. ⊥) (λ worked unlimited. IfErr-weaker c.format_to_open-found.result _ _ (λ fault why. inl why) (c.format_to_open-found.ensures.cause worked unlimited)) (λ found it never. never) is) [ inl why ↦ why | inr never ↦ absurd never ]
