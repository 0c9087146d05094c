-- What is asked about the rows of one table: the number of each, and one or two of its columns.
use Rattle.std.proofs.Common.{ℕ, List, [], ◌∷◌, codes, refl}
use Rattle.sqlite.specs.{Listing.{understood}, Term.{Term, col}}
use Rattle.sqlite_tied.specs.Compute.{everything}
use Rattle.table_access.specs.Statements.{from_table}
use Rattle.broker_tables.{specs.Schema.{in_meta, in_teams, in_pacticipants, in_versions, in_contents, in_results}, proofs.TableQuery.{TableQuery}}

-- the row's number, and one column more; and two
abbrev pub with_one : ℕ → List Term
with_one p = col 1 0 ∷ col 1 p ∷ []

abbrev pub with_two : ℕ → ℕ → List Term
with_two p q = col 1 0 ∷ col 1 p ∷ col 1 q ∷ []

pub office : TableQuery (codes "SELECT one, format, office_digest FROM meta") [] (from_table in_meta.tree [] (with_two in_meta.format in_meta.office_digest) [])
unfolding understood everything
office = record { names = _; means = record { is = refl; plain = (refl, refl); unlisted = refl }; runs = record { whole = refl; typed = refl; sumless = refl } }

pub teams : TableQuery (codes "SELECT rowid, name, token_digest FROM teams") [] (from_table in_teams.tree [] (with_two in_teams.name in_teams.token_digest) [])
unfolding understood everything
teams = record { names = _; means = record { is = refl; plain = (refl, refl); unlisted = refl }; runs = record { whole = refl; typed = refl; sumless = refl } }

pub pacticipants : TableQuery (codes "SELECT rowid, name, team FROM pacticipants") [] (from_table in_pacticipants.tree [] (with_two in_pacticipants.name in_pacticipants.team) [])
unfolding understood everything
pacticipants = record { names = _; means = record { is = refl; plain = (refl, refl); unlisted = refl }; runs = record { whole = refl; typed = refl; sumless = refl } }

pub versions : TableQuery (codes "SELECT number, pacticipant, version FROM versions") [] (from_table in_versions.tree [] (with_two in_versions.pacticipant in_versions.version) [])
unfolding understood everything
versions = record { names = _; means = record { is = refl; plain = (refl, refl); unlisted = refl }; runs = record { whole = refl; typed = refl; sumless = refl } }

pub contents : TableQuery (codes "SELECT number, digest, body FROM contents") [] (from_table in_contents.tree [] (with_two in_contents.digest in_contents.body) [])
unfolding understood everything
contents = record { names = _; means = record { is = refl; plain = (refl, refl); unlisted = refl }; runs = record { whole = refl; typed = refl; sumless = refl } }

pub results : TableQuery (codes "SELECT number, run FROM results") [] (from_table in_results.tree [] (with_one in_results.run) [])
unfolding understood everything
results = record { names = _; means = record { is = refl; plain = (refl, refl); unlisted = refl }; runs = record { whole = refl; typed = refl; sumless = refl } }

-- whether meta has a row
pub any_office : TableQuery (codes "SELECT one FROM meta") [] (from_table in_meta.tree [] (col 1 0 ∷ []) [])
unfolding understood everything
any_office = record { names = _; means = record { is = refl; plain = (refl, refl); unlisted = refl }; runs = record { whole = refl; typed = refl; sumless = refl } }
