-- What is said of an environment in any database with the broker's tables, with any CHECKs, keys and references: a
-- row of it may have no version, or one that isn't there.
use Rattle.std.specs.Prelude.{◌≡◌, ◌⊎◌, ℕ, pos, codes, Result, IfOk}
use Rattle.sqlite.specs.declared.types.Value.{Value}
use Rattle.sqlite.specs.declared.types.Value.TheVariants as value
use Rattle.sqlite.specs.Order.{Row, column}
use Rattle.sqlite.specs.Effect.{Database}
use Rattle.sqlite.specs.Held.{Held, state}
use Rattle.sqlite.specs.State.{HasCleanDisk, IsUnchanged}
use Rattle.sqlite_trees.specs.declared.store.Store.{Ghosts}
use Rattle.sqlite_rules.specs.Lists.{Has}
use Rattle.table_access.specs.declared.StoreFault.{StoreFault}
use Rattle.broker_core.specs.Text.{Text}
use Rattle.broker_tables.specs.Schema.{in_versions, in_deployed, in_released}
use Rattle.broker_tables.specs.Rows.{rows_of}
use Rattle.broker_tables.specs.Asking.{CanBeAsked}
use Rattle.contract_tables.specs.LatestRows.{AreEqual}

-- a row of what is deployed in the environment, of what is released there
abbrev pub IsDeployedRowIn : Text → Database → Row → Type 0
IsDeployedRowIn e db d = Has (rows_of db (codes "deployed")) d × (column d in_deployed.environment ≡ value.Text e)

abbrev pub IsReleasedRowIn : Text → Database → Row → Type 0
IsReleasedRowIn e db r = Has (rows_of db (codes "released")) r × (column r in_released.environment ≡ value.Text e)

-- a version has this number
abbrev pub IsOfAVersion : Database → Value → Type 0
IsOfAVersion db number =
    (v : Row) × Has (rows_of db (codes "versions")) v × AreEqual (column v in_versions.number) number

-- each row of what is deployed there names a version that is there, and each of what is released
abbrev pub EachDeployedIsThere : Text → Database → Type 0
EachDeployedIsThere e db = (d : Row) → IsDeployedRowIn e db d → IsOfAVersion db (column d in_deployed.version_number)

abbrev pub EachReleasedIsThere : Text → Database → Type 0
EachReleasedIsThere e db = (r : Row) → IsReleasedRowIn e db r → IsOfAVersion db (column r in_released.version_number)

-- the number is a version's, unless this is so
abbrev pub IsOfAVersionUnless : Type 0 → ℕ → Database → Type 0
IsOfAVersionUnless Other number db = Other ⊎ IsOfAVersion db (value.Int (pos number))

-- a row of what is deployed there has NULL in place of a version
abbrev pub HasNull : Text → Database → Type 0
HasNull e db = (d : Row) × IsDeployedRowIn e db d × (column d in_deployed.version_number ≡ value.Null)

-- if the tables can be asked, the answer is so by what the database held
module _ {X A : Type 0} (store : Ghosts X) (old new : Held X) (r : Result A StoreFault) where
  abbrev pub AnswersAsIn : (A → Database → Type 0) → Type 0
  AnswersAsIn P =
      HasCleanDisk (state store new) → CanBeAsked (state store old) → IfOk r (λ a. P a (state store old).now)

  -- and there is one only if this is so of that
  abbrev pub AnswersOnlyIf : (Database → Type 0) → Type 0
  AnswersOnlyIf P = AnswersAsIn (λ _. P)

  -- and what the database holds is as it was
  abbrev pub LeavesUnchanged : Type 0
  LeavesUnchanged = HasCleanDisk (state store new) → CanBeAsked (state store old)
      → IfOk r (λ _. IsUnchanged (state store old) (state store new))
