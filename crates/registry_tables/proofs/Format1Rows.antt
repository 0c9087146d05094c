-- The rows of the tables of format 1, as a database of that format becomes one of format 2.
use Rattle.std.proofs.Common.{◌≡◌, ◌∙◌, ◌++◌, ◌∷◌, [], subst}
use Rattle.sqlite.specs.{Change.{KeepsRows}, Effect.{Database}, Schema.{Schema}}
use Rattle.sqlite_keyed.proofs.ListLemmas.{all_both}
use Rattle.table_access.{specs.Statements.{Creates}, proofs.Creation.{AllByRecursion-front}}
use Rattle.broker_tables.specs.{Format1.{format_1_tables}, Schema.{checked_results, strict_environments, in_checked_results, schema_of}}
use Rattle.broker_tables.proofs.Format1.{KeepsOthers}
use Rattle.registry_tables.specs.Format.{KeepsFormat1Rows}

module _ (old mid new : Database) where
  -- they stay if all of them stayed before
  pub KeepsFormat1Rows-after_KeepsRows : KeepsRows (schema_of format_1_tables).tables old.trees mid.trees → KeepsFormat1Rows mid new → KeepsFormat1Rows old new
  KeepsFormat1Rows-after_KeepsRows = all_both (λ t. mid.trees t.tree ≡ old.trees t.tree) (KeepsOthers mid.trees new.trees) (KeepsOthers old.trees new.trees) (λ t same still other. still other ∙ same) (schema_of format_1_tables).tables

  -- they stay too if the table of strict environments was made before
  pub KeepsFormat1Rows-after_Creates : old.schema ≡ schema_of (format_1_tables ++ checked_results ∷ []) → Creates old mid strict_environments → KeepsFormat1Rows mid new → KeepsFormat1Rows old new
  KeepsFormat1Rows-after_Creates is made =
      KeepsFormat1Rows-after_KeepsRows (AllByRecursion-front (λ t. mid.trees t.tree ≡ old.trees t.tree) (schema_of format_1_tables).tables (record checked_results { tree = in_checked_results.tree } ∷ [])
      (subst (λ (c : Schema). KeepsRows c.tables old.trees mid.trees) is made.others))
