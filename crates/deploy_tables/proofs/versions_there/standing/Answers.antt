use Rattle.std.proofs.Common.{map, ap, subst, arith, ◌∙◌, ◌++◌}
use Rattle.sqlite.specs.{Held.{state}, Effect.{Database}, State.{HasCleanDisk}}
use Rattle.broker_tables.proofs.AnyTables.{CanBeAsked-unchanged}
use Rattle.deploy_tables.specs.{Listings.{deployed_version}, AnyThere.{EachReleasedIsThere}}
use Rattle.deploy_tables.proofs.{MatrixLoop.{LooksUpBetween-then_failed, LooksUpBetween-both, LooksUpBetween-other_answer}, VersionsThere.{Lists-IsPresent}}
use Rattle.deploy_tables.proofs.versions_there.standing.Goals as goal

pub returns-clause-answers : goal.returns-clause-answers
returns-clause-answers g c =
    LooksUpBetween-other_answer _ _ _ c.each_version_once.result _ _
    (λ s both. Lists-IsPresent s c.args.environment.now _ _ _ _ both.0 both.1
    (c.in-Ok-add.ensures.added ∙ ap (λ xs. xs ++ c.in-Ok-released.value.items)
    (c.in-Ok-deployed_versions.ensures ∙ ap (map deployed_version) c.deref.ensures.value)) c.each_version_once.ensures)
    (LooksUpBetween-both _ _ _ _ _ _ _ c.in-Ok.ensures.answers c.in-Ok-released.ensures.answers)

pub returns-in-Err-released-clause-answers : goal.returns-in-Err-released-clause-answers
returns-in-Err-released-clause-answers g c = LooksUpBetween-then_failed _ _ _ _ _ _ _ _ c.in-Ok.ensures.answers c.in-Err-released.ensures.answers

-- what is released was looked up in the same database
pub returns-clause-named : goal.returns-clause-named
returns-clause-named g c clean asked =
    let old = state g.S.Store c.args.conn.now in
    let mid = state g.S.Store c.deployed.new.conn in
    let mid_clean : HasCleanDisk mid = omega (arith, c.in-Ok-released.ensures.answers.call.survives.clean, clean) in
    let same = c.in-Ok.ensures.stays mid_clean asked in (
      c.in-Ok.ensures.named mid_clean asked,
      subst (λ (db : Database). EachReleasedIsThere c.args.environment.now db) same.0.now_is
          (c.in-Ok-released.ensures.named clean (CanBeAsked-unchanged old mid same c.in-Ok.ensures.answers.call.survives.limit asked)),
    )
