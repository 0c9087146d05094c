use Rattle.std.proofs.{Common.{Some, subst, arith}, lemmas.Result.{IfOk-weaker}}
use Rattle.sqlite.specs.{Held.{state}, Effect.{Database}, State.{HasCleanDisk}}
use Rattle.broker_tables.proofs.AnyTables.{CanBeAsked-unchanged}
use Rattle.deploy_tables.{specs.AnyThere.{EachReleasedIsThere}, proofs.{MatrixLoop.{LooksUpBetween-then}, VersionNames.{IsOfNumber-of_version}}}
use Rattle.deploy_tables.proofs.all_needs.needs.Goals as goal

pub returns-in-Some-clause-answers : goal.returns-in-Some-clause-answers
returns-in-Some-clause-answers g c =
    let v = c.in-Some.version in
    LooksUpBetween-then _ _ _ (Some v) c.needs_numbered.result _ _ _ (λ s known found listed. IsOfNumber-of_version s c.args.number v _ _ known (listed known))
    (rw c.in-Some.is at c.in-Ok.ensures.answers) c.needs_numbered.ensures.answers

-- the names were looked up of the same database
pub returns-in-Some-clause-named : goal.returns-in-Some-clause-named
returns-in-Some-clause-named g c clean asked =
    let old = state g.S.Store c.args.conn.now in
    let mid = state g.S.Store c.find_version.new.conn in
    let mid_clean : HasCleanDisk mid = omega (arith, c.needs_numbered.ensures.answers.call.survives.clean, clean) in
    let same = c.in-Ok.ensures.stays mid_clean asked in
    IfOk-weaker c.needs_numbered.result _ _ (λ found each of_a_version. subst (λ (db : Database). EachReleasedIsThere c.args.environment.now db) same.0.now_is each)
    (c.needs_numbered.ensures.named clean (CanBeAsked-unchanged old mid same c.in-Ok.ensures.answers.call.survives.limit asked))
