-- No row names a version that isn't there, by the tables' REFERENCES.
use Rattle.std.proofs.Common.{◌≡◌, ◌∙◌, ℕ, List, Some, codes, refl, inl, inr, sym, ap}
use Rattle.sqlite.specs.{declared.types.Value.TheVariants.{Int}, Effect.{Database}, Order.{Row, column}, Table.{Table}, Tree.{rowid}}
use Rattle.sqlite_rules.{specs.Lists.{Has}, proofs.TableLemmas.{int_is}}
use Rattle.table_access.proofs.SoundLemmas.{at_has}
use Rattle.broker_tables.specs.{Schema.{to, numbers, in_versions, in_branches, in_contracts, in_results, in_latest, in_deployed, in_released}, Holds.{IsBroker}}
use Rattle.broker_tables.proofs.References.{references-version}
use Rattle.broker_tables.proofs.Placed.{Placed, column_at, listed, Placed-IsNumbered, column-whole_numbers, at_versions, at_branches, at_contracts, at_results, at_latest, at_deployed, at_released}
use Rattle.broker_database.specs.Laws.{RowsNameVersions}

module _ (db : Database) (broker : IsBroker db) where
  references-name_version : {t : Table} (at : Placed t) (p : ℕ) {name : List ℕ} → column_at t p ≡ Some (numbers name) → Has t.references (to p (codes "versions") (codes "number")) → (r : Row) → Has (db.trees t.tree) r
      → (v : Row) × Has (db.trees in_versions.tree) v × (column v in_versions.number ≡ column r p)
  references-name_version {t} at p {name} is among r has =
      let typed = column-whole_numbers at db broker p is r has in
      let it = references-version db broker t (listed at db broker) p among r has typed in
      (it.0, it.1, int_is (rowid it.0) (at_has _ _ it.0 (Placed-IsNumbered at_versions db broker).1 it.1) ∙ ap Int it.2 ∙ sym typed)

pub rows_name_versions : RowsNameVersions
rows_name_versions db broker = (
  references-name_version db broker at_deployed in_deployed.version_number refl (inr (inr (inl refl))),
  references-name_version db broker at_released in_released.version_number refl (inr (inl refl)),
  references-name_version db broker at_contracts in_contracts.version_number refl (inl refl),
  references-name_version db broker at_branches in_branches.version_number refl (inl refl),
  references-name_version db broker at_results in_results.provider_version refl (inr (inr (inl refl))),
  references-name_version db broker at_latest in_latest.provider_version refl (inr (inl refl)),
)
