-- The texts that make the tables and the indexes define them.
use Rattle.std.proofs.Common.{ℕ, List, refl, take, inl, inr}
use Rattle.sqlite.specs.{Listing.{understood}, Table.{Table}}
use Rattle.sqlite_tied.specs.Compute.{everything}
use Rattle.sqlite_trees.specs.Sound.{fits_kind, is_free_name, same_name, begins}
use Rattle.sqlite_value.specs.Order.{value_cmp}
use Rattle.table_access.specs.Statements.{indexed_by}
use Rattle.broker_tables.specs.{Schema.{no_schema, schema_of, all_tables, all_indexes}, Making.{table_texts, index_texts}}
use Rattle.broker_tables.specs.declared.create.TheConstants.{META, TEAMS, PACTICIPANTS, VERSIONS, BRANCHES, ENVIRONMENTS, GRANTS, CONTENTS, CONTRACTS, RESULTS, LATEST, DEPLOYED, RELEASED, CHECKED_RESULTS, STRICT_ENVIRONMENTS, CONTENTS_BY_DIGEST, CONTRACTS_BY_CONTENT, LATEST_BY_PROVIDER_VERSION, VERSIONS_BY_PACTICIPANT}
use Rattle.broker_tables.proofs.{CreationRefused.{DefinesTable, DefinesIndex}, Written.{AreDefinedTables, AreDefinedIndexes}}
use Rattle.std.specs.Float.Ieee
use Rattle.broker_tables.specs.Schema as schema

-- what unfolds as SQLite judges a row of its list of tables and indexes
unfoldable listed : Unit {0}
unfolding fits_kind is_free_name same_name begins value_cmp Ieee.is_nan Ieee.lt
listed = tt

-- the text defines the table over the schema of those before it
abbrev Defines : ℕ → List ℕ → Table → Type 0
Defines before = DefinesTable (schema_of (take before all_tables))

Defines-each_table : Defines 0 META.now schema.meta
    × Defines 1 TEAMS.now schema.teams
    × Defines 2 PACTICIPANTS.now schema.pacticipants
    × Defines 3 VERSIONS.now schema.versions
    × Defines 4 BRANCHES.now schema.branches
    × Defines 5 ENVIRONMENTS.now schema.environments
    × Defines 6 GRANTS.now schema.grants
    × Defines 7 CONTENTS.now schema.contents
    × Defines 8 CONTRACTS.now schema.contracts
    × Defines 9 RESULTS.now schema.results
    × Defines 10 LATEST.now schema.latest
    × Defines 11 DEPLOYED.now schema.deployed
    × Defines 12 RELEASED.now schema.released
    × Defines 13 CHECKED_RESULTS.now schema.checked_results
    × Defines 14 STRICT_ENVIRONMENTS.now schema.strict_environments
unfolding understood everything listed
Defines-each_table = (
  record { alone = record { means = record { is = refl; plain = (refl, refl); unlisted = refl }; whole = refl; text = refl }; defined = refl; uncounted = refl; new = record { written = refl; named = refl; free = refl; own = refl; room = refl; short = refl }; keys_free = refl; formed = refl; fit = refl; whole_numbers = refl },
  record { alone = record { means = record { is = refl; plain = (refl, refl); unlisted = refl }; whole = refl; text = refl }; defined = refl; uncounted = refl; new = record { written = refl; named = refl; free = refl; own = refl; room = refl; short = refl }; keys_free = refl; formed = refl; fit = refl; whole_numbers = refl },
  record { alone = record { means = record { is = refl; plain = (refl, refl); unlisted = refl }; whole = refl; text = refl }; defined = refl; uncounted = refl; new = record { written = refl; named = refl; free = refl; own = refl; room = refl; short = refl }; keys_free = refl; formed = refl; fit = refl; whole_numbers = refl },
  record { alone = record { means = record { is = refl; plain = (refl, refl); unlisted = refl }; whole = refl; text = refl }; defined = refl; uncounted = refl; new = record { written = refl; named = refl; free = refl; own = refl; room = refl; short = refl }; keys_free = refl; formed = refl; fit = refl; whole_numbers = refl },
  record { alone = record { means = record { is = refl; plain = (refl, refl); unlisted = refl }; whole = refl; text = refl }; defined = refl; uncounted = refl; new = record { written = refl; named = refl; free = refl; own = refl; room = refl; short = refl }; keys_free = refl; formed = refl; fit = refl; whole_numbers = refl },
  record { alone = record { means = record { is = refl; plain = (refl, refl); unlisted = refl }; whole = refl; text = refl }; defined = refl; uncounted = refl; new = record { written = refl; named = refl; free = refl; own = refl; room = refl; short = refl }; keys_free = refl; formed = refl; fit = refl; whole_numbers = refl },
  record { alone = record { means = record { is = refl; plain = (refl, refl); unlisted = refl }; whole = refl; text = refl }; defined = refl; uncounted = refl; new = record { written = refl; named = refl; free = refl; own = refl; room = refl; short = refl }; keys_free = refl; formed = refl; fit = refl; whole_numbers = refl },
  record { alone = record { means = record { is = refl; plain = (refl, refl); unlisted = refl }; whole = refl; text = refl }; defined = refl; uncounted = refl; new = record { written = refl; named = refl; free = refl; own = refl; room = refl; short = refl }; keys_free = refl; formed = refl; fit = refl; whole_numbers = refl },
  record { alone = record { means = record { is = refl; plain = (refl, refl); unlisted = refl }; whole = refl; text = refl }; defined = refl; uncounted = refl; new = record { written = refl; named = refl; free = refl; own = refl; room = refl; short = refl }; keys_free = refl; formed = refl; fit = refl; whole_numbers = refl },
  record { alone = record { means = record { is = refl; plain = (refl, refl); unlisted = refl }; whole = refl; text = refl }; defined = refl; uncounted = refl; new = record { written = refl; named = refl; free = refl; own = refl; room = refl; short = refl }; keys_free = refl; formed = refl; fit = refl; whole_numbers = refl },
  record { alone = record { means = record { is = refl; plain = (refl, refl); unlisted = refl }; whole = refl; text = refl }; defined = refl; uncounted = refl; new = record { written = refl; named = refl; free = refl; own = refl; room = refl; short = refl }; keys_free = refl; formed = refl; fit = refl; whole_numbers = refl },
  record { alone = record { means = record { is = refl; plain = (refl, refl); unlisted = refl }; whole = refl; text = refl }; defined = refl; uncounted = refl; new = record { written = refl; named = refl; free = refl; own = refl; room = refl; short = refl }; keys_free = refl; formed = refl; fit = refl; whole_numbers = refl },
  record { alone = record { means = record { is = refl; plain = (refl, refl); unlisted = refl }; whole = refl; text = refl }; defined = refl; uncounted = refl; new = record { written = refl; named = refl; free = refl; own = refl; room = refl; short = refl }; keys_free = refl; formed = refl; fit = refl; whole_numbers = refl },
  record { alone = record { means = record { is = refl; plain = (refl, refl); unlisted = refl }; whole = refl; text = refl }; defined = refl; uncounted = refl; new = record { written = refl; named = refl; free = refl; own = refl; room = refl; short = refl }; keys_free = refl; formed = refl; fit = refl; whole_numbers = refl },
  record { alone = record { means = record { is = refl; plain = (refl, refl); unlisted = refl }; whole = refl; text = refl }; defined = refl; uncounted = refl; new = record { written = refl; named = refl; free = refl; own = refl; room = refl; short = refl }; keys_free = refl; formed = refl; fit = refl; whole_numbers = refl },
)

DefinesIndex-each_index : DefinesIndex (indexed_by (schema_of all_tables) (take 0 all_indexes)) CONTENTS_BY_DIGEST.now schema.contents_by_digest
    × DefinesIndex (indexed_by (schema_of all_tables) (take 1 all_indexes)) CONTRACTS_BY_CONTENT.now schema.contracts_by_content
    × DefinesIndex (indexed_by (schema_of all_tables) (take 2 all_indexes)) LATEST_BY_PROVIDER_VERSION.now schema.latest_by_provider_version
    × DefinesIndex (indexed_by (schema_of all_tables) (take 3 all_indexes)) VERSIONS_BY_PACTICIPANT.now schema.versions_by_pacticipant
unfolding understood everything listed
DefinesIndex-each_index = (
  record { at = 7; alone = record { means = record { is = refl; plain = (refl, refl); unlisted = refl }; whole = refl; text = refl }; there = refl; defined = refl; new = record { written = refl; named = refl; free = refl; own = refl; room = refl; short = refl }; parent = refl; fit = refl; whole_numbers = refl; repeats = refl; known = inl refl; few = refl },
  record { at = 8; alone = record { means = record { is = refl; plain = (refl, refl); unlisted = refl }; whole = refl; text = refl }; there = refl; defined = refl; new = record { written = refl; named = refl; free = refl; own = refl; room = refl; short = refl }; parent = refl; fit = refl; whole_numbers = refl; repeats = refl; known = inr (inl refl); few = refl },
  record { at = 10; alone = record { means = record { is = refl; plain = (refl, refl); unlisted = refl }; whole = refl; text = refl }; there = refl; defined = refl; new = record { written = refl; named = refl; free = refl; own = refl; room = refl; short = refl }; parent = refl; fit = refl; whole_numbers = refl; repeats = refl; known = inr (inr (inl refl)); few = refl },
  record { at = 3; alone = record { means = record { is = refl; plain = (refl, refl); unlisted = refl }; whole = refl; text = refl }; there = refl; defined = refl; new = record { written = refl; named = refl; free = refl; own = refl; room = refl; short = refl }; parent = refl; fit = refl; whole_numbers = refl; repeats = refl; known = inr (inr (inr (inl refl))); few = refl },
)

pub AreDefinedTables-table_texts : AreDefinedTables no_schema table_texts
AreDefinedTables-table_texts =
    let e = Defines-each_table in
    (e.0, (e.1, (e.2, (e.3, (e.4, (e.5, (e.6, (e.7, (e.8, (e.9, (e.10, (e.11, (e.12, (e.13, (e.14, tt)))))))))))))))

pub AreDefinedIndexes-index_texts : AreDefinedIndexes (schema_of all_tables) index_texts
AreDefinedIndexes-index_texts = let e = DefinesIndex-each_index in (e.0, (e.1, (e.2, (e.3, tt))))
