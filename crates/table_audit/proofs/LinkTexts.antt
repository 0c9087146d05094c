-- What is asked about the rows of two tables: each row beside the one that it names, or that names it.
use Rattle.std.proofs.Common.{List, [], ◌∷◌, codes, refl}
use Rattle.sqlite.specs.{Collation.TheVariants.{Binary}, Listing.{understood}, Term.{Term, col, op2}}
use Rattle.sqlite_sql.specs.{declared.ops.BinaryOp.TheVariants.{Compare}, declared.ops.CompareOp.TheVariants.{Eq}}
use Rattle.sqlite_tied.specs.Compute.{everything}
use Rattle.table_access.specs.Statements.{from_both}
use Rattle.broker_tables.{specs.Schema.{in_versions, in_results, in_latest, in_deployed}, proofs.TableQuery.{TableQuery}}
use Rattle.deploy_tables.proofs.{LeftRows.{from_left_by}, VersionRows.{on_number}}

abbrev pub providers_shown : List Term
providers_shown = col 1 0 ∷ col 1 in_results.provider ∷ col 2 in_versions.pacticipant ∷ []

pub providers : TableQuery (codes "SELECT r.number, r.provider, v.pacticipant FROM results r JOIN versions v ON v.number = r.provider_version") []
    (from_both in_results.tree in_versions.tree (on_number in_results.provider_version ∷ []) providers_shown [])
unfolding understood everything
providers = record { names = _; means = record { is = refl; plain = (refl, refl); unlisted = refl }; runs = record { whole = refl; typed = refl; sumless = refl } }

abbrev pub named_shown : List Term
named_shown = col 1 0 ∷ col 1 in_latest.content ∷ col 2 in_results.content ∷ col 1 in_latest.provider_version ∷ col 2 in_results.provider_version ∷ []

pub named : TableQuery (codes "SELECT l.rowid, l.content, r.content, l.provider_version, r.provider_version FROM latest l JOIN results r ON r.number = l.result") []
    (from_both in_latest.tree in_results.tree (on_number in_latest.result ∷ []) named_shown [])
unfolding understood everything
named = record { names = _; means = record { is = refl; plain = (refl, refl); unlisted = refl }; runs = record { whole = refl; typed = refl; sumless = refl } }

abbrev pub deployed_shown : List Term
deployed_shown = col 1 0 ∷ col 1 in_deployed.pacticipant ∷ col 2 in_versions.pacticipant ∷ col 1 in_deployed.instance ∷ []

pub deployed : TableQuery (codes "SELECT d.rowid, d.pacticipant, v.pacticipant, d.instance FROM deployed d JOIN versions v ON v.number = d.version_number") []
    (from_both in_deployed.tree in_versions.tree (on_number in_deployed.version_number ∷ []) deployed_shown [])
unfolding understood everything
deployed = record { names = _; means = record { is = refl; plain = (refl, refl); unlisted = refl }; runs = record { whole = refl; typed = refl; sumless = refl } }

-- ON the content and the version of a result
abbrev pub of_pair : List Term
of_pair = op2 (Compare Eq Binary) (col 2 in_latest.content) (col 1 in_results.content)
    ∷ op2 (Compare Eq Binary) (col 2 in_latest.provider_version) (col 1 in_results.provider_version) ∷ []

abbrev pub newest_shown : List Term
newest_shown = col 1 0 ∷ col 2 in_latest.result ∷ []

pub newest : TableQuery (codes "SELECT r.number, l.result FROM results r LEFT JOIN latest l ON l.content = r.content AND l.provider_version = r.provider_version") []
    (from_left_by in_results.tree in_latest.tree of_pair [] newest_shown [])
unfolding understood everything
newest = record { names = _; means = record { is = refl; plain = (refl, refl); unlisted = refl }; runs = record { whole = refl; typed = refl; sumless = refl } }
