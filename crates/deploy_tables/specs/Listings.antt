-- How the rows of the listings read.
use Rattle.std.specs.Prelude.{◌≡◌, ◌↔◌}
use Rattle.sqlite.specs.Order.{Row, column}
use Rattle.sqlite.specs.declared.types.Value.TheVariants.{Text}
use Rattle.table_access.specs.declared.StoreFault.{StoreFault}
use Rattle.table_access.specs.declared.StoreFault.TheVariants.{Store}
use Rattle.table_access.specs.Reading.{IsTextAt}
use Rattle.broker_core.specs.declared.command.Version.{Version}
use Rattle.broker_core.specs.declared.answer.DeployedItem.{DeployedItem}
use Rattle.broker_core.specs.Text.{version}
use Rattle.broker_tables.specs.Names.{IsNameAt}

-- the columns are the pacticipant, the instance and the version's name
abbrev pub IsDeployedRow : Row → DeployedItem → Type 0
IsDeployedRow row item = (column row 0 ≡ Text item.pacticipant) × (column row 1 ≡ Text item.instance)
    × (column row 2 ≡ Text item.version)

-- the columns are the pacticipant and the version's name
abbrev pub IsReleasedRow : Row → Version → Type 0
IsReleasedRow row version = (column row 0 ≡ Text version.pacticipant) × (column row 1 ≡ Text version.name)

-- the row reads as something that is deployed
abbrev pub ReadsAsDeployed : Row → Type 0
ReadsAsDeployed row = IsNameAt 0 row × IsTextAt 1 row × IsNameAt 2 row

-- the row reads as a version that is released
abbrev pub ReadsAsReleased : Row → Type 0
ReadsAsReleased row = IsNameAt 0 row × IsNameAt 1 row

-- Store if and only if the row doesn't read, for any of its columns
abbrev pub FailsAsDeployed : Row → StoreFault → Type 0
FailsAsDeployed row fault = (fault ≡ Store) ↔ (¬ ReadsAsDeployed row)

abbrev pub FailsAsReleased : Row → StoreFault → Type 0
FailsAsReleased row fault = (fault ≡ Store) ↔ (¬ ReadsAsReleased row)

-- the version that is deployed
abbrev pub deployed_version : DeployedItem → Version
deployed_version item = version item.pacticipant item.version
