use Rattle.std.proofs.lemmas.Result.{IfOk-weaker}
use Rattle.broker_tables.proofs.Alters.{CallsStoreBetween-alters, IfErr-failure}
use Rattle.registry_tables.proofs.EnvironmentRows.{environment_put, strict_stays, EndsFrom-AddsEnvironment}
use Rattle.registry_tables.proofs.environments.put_environment.Goals as goal

pub returns-clause-changes : goal.returns-clause-changes
returns-clause-changes g c =
    CallsStoreBetween-alters (environment_put c.args.environment.now c.args.gated _ _) (rw (c.params-to_sql.ensures, c.params-to_sql-2.ensures, c.number_for-mark.ensures) at c.change.ensures.leaves)

pub returns-clause-strict : goal.returns-clause-strict
returns-clause-strict g c =
    let said = rw (c.params-to_sql.ensures, c.params-to_sql-2.ensures, c.number_for-mark.ensures) at c.change.ensures.leaves in
    λ clean. IfOk-weaker c.change.result _ _ (λ _ h s held free. strict_stays c.args.environment.now c.args.gated _ _ s held h.0 h.1) (said.ok clean)

pub returns-clause-failure : goal.returns-clause-failure
returns-clause-failure g c =
    IfErr-failure c.change.result (EndsFrom-AddsEnvironment c.args.environment.now c.args.gated _ _) (rw (c.params-to_sql.ensures, c.params-to_sql-2.ensures, c.number_for-mark.ensures) at c.change.ensures.cause)
