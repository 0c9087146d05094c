use Rattle.broker_tables.proofs.TableQuery.{LooksUpBetween-number}
use Rattle.registry_tables.proofs.VersionRows.{known, IsShown-version_number, EachReads-version_number}
use Rattle.registry_tables.proofs.versions.version_of.Goals as goal

pub returns : goal.returns
returns g c =
    let said = rw (c.params-to_sql.ensures, c.params-to_sql-2.ensures) at c.find_number.ensures in
    LooksUpBetween-number (known c.args.pacticipant.now c.args.version.now) _ _ (λ s held rows h found read. IsShown-version_number c.args.pacticipant.now c.args.version.now _ rows s found held h read)
    (EachReads-version_number c.args.pacticipant.now c.args.version.now _) said.leaves said.cause
