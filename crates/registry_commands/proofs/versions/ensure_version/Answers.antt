use Rattle.std.{specs.Prelude.{is_some, if◌then◌else◌}, proofs.Common.{◌≡◌, ◌++◌, ◌∷◌, [], Bool, true, false, sym, ap, ◌∙◌}}
use Rattle.table_access.proofs.CallLemmas.{CallsBetween-weaken}
use Rattle.broker_core.specs.{Change.{on_branch}, Request.{is_known}}
use Rattle.command_facts.proofs.PerformLemmas.{ChangesAndAnswersBetween-unchanged}
use Rattle.registry_commands.proofs.versions.ensure_version.Goals as goal

pub returns-in-Some-clause-changes : goal.returns-in-Some-clause-changes
returns-in-Some-clause-changes g c =
    let v = c.args.version.now in
    ChangesAndAnswersBetween-unchanged _ _ _ _ (λ s can.
    let some : is_some c.args.number ≡ true = ap is_some c.in-Some.is in (
      sym (ap (λ (b : Bool). if b then s else record s { versions = s.versions ++ v ∷ [] }) (can.known_is ∙ some)),
      can.number_is ∙ c.in-Some.is,
      λ b is. sym (ap (on_branch s v) is) ∙ can.apart some,
    ))

pub returns-in-None-clause-changes : goal.returns-in-None-clause-changes
returns-in-None-clause-changes g c =
    let v = c.args.version.now in
    CallsBetween-weaken _ _ _ _ _ (λ number adds s held can.
    let none : is_some c.args.number ≡ false = ap is_some c.in-None.is in
    let unknown : is_known s v ≡ false = can.known_is ∙ none in
    let it = adds s held ((unknown, can.owned, can.room none), can.count_is) in
    (it.0, (it.1.0 ∙ sym (ap (λ (b : Bool). if b then s else record s { versions = s.versions ++ v ∷ [] }) unknown), it.1.2, λ b is. it.1.3 b), it.2)) c.add_after.ensures.changes
