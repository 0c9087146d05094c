use Rattle.std.proofs.Common.{Bool, Err, refl, false}
use Rattle.sqlite.specs.Held.{state}
use Rattle.table_access.proofs.CallLemmas.{CallsBetween-then_Ok}
use Rattle.broker_tables.proofs.{QueryLemmas.{FailsOnlyBy-of_cause}, Removed.{FailsToRun-delete}}
use Rattle.broker_core.specs.{Text.{put_at, same_pair, same_text, same_version}, State.{State}}
use Rattle.deploy_tables.proofs.ReleasedRows.{HoldsAfter-release_ended, Executes-end_release_count, ending}
use Rattle.deploy_tables.proofs.releases.end_support.Goals as goal

pub returns-clause-ended : goal.returns-clause-ended
returns-clause-ended g c =
    let e = c.args.environment.now in
    let n = c.args.number in
    let count = c.in-Ok.value in
    CallsBetween-then_Ok _ _ count _ _ _ (λ h s held version.
    let t : State = record s { released = put_at (same_pair same_text same_version) s.released (e, version.0) false } in
    (t, ((version.0, version.1, refl), λ v is. Executes-end_release_count e n _ _ count s v held is h), HoldsAfter-release_ended e n _ _ count s version.0 held version.1 h))
    (rw (c.params-to_sql.ensures, c.params-to_sql-2.ensures) at c.in-Ok.ensures.leaves)

pub returns-in-Err-clause-failure : goal.returns-in-Err-clause-failure
returns-in-Err-clause-failure g c =
    let old = state g.S.Store c.args.conn.now in
    let new = state g.S.Store c.change_counted.new.conn in
    FailsOnlyBy-of_cause {A = Bool} old new (Err c.in-Err.fault) _ _ (λ s here. FailsToRun-delete (ending c.args.environment.now c.args.number) old new here.held.broker here.unlimited)
    (rw (c.params-to_sql.ensures, c.params-to_sql-2.ensures) at c.in-Err.ensures.cause)
