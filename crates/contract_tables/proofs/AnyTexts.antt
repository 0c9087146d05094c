-- What the statements for latest results ask in any schema that has the broker's tables, with any CHECKs, keys and
-- references, STRICT or not: for a column that isn't STRICT, SQLite takes a parameter as a number if it can.
use Rattle.std.specs.{Prelude.{if◌then◌else◌}, List.{AllZip}}
use Rattle.std.proofs.Common.{◌≡◌, ◌==◌, ◌∙◌, ℕ, pos, codes, List, [], ◌∷◌, Bool, true, false, Some, None, refl, sym, ap, subst}
use Rattle.sqlite.specs.{declared.types.Value.TheVariants.{Int}, Order.{Row}, Term.{Term, col, op1, op2}, Query.{Query}, Table.{Table}, Schema.{Schema}}
use Rattle.sqlite.specs.{Collation.TheVariants.{Binary}, Listing.{understood}}
use Rattle.sqlite_sql.specs.{declared.ops.BinaryOp.TheVariants.{Compare}, declared.ops.CompareOp.TheVariants.{Eq}, declared.ops.UnaryOp.TheVariants.{ToNumeric}}
use Rattle.sqlite_schema.specs.declared.schema.Column.{Column}
use Rattle.sqlite_tied.specs.Compute.{everything}
use Rattle.table_access.specs.Statements.{from_table, from_both}
use Rattle.broker_tables.specs.Schema.{broker_schema, numbers, results, latest, checked_results, in_results, in_latest, in_checked_results}
use Rattle.broker_tables.specs.Asking.{HasColumns, HasBrokerTables}
use Rattle.broker_tables.proofs.AnyTables.{laid_out, laid_out-of_HasColumns, named_as, set_out, set_out-of_IsColumnLike, AsksOf}
use Rattle.contract_tables.proofs.VersionResults.{passes_project, marks_project, order}

-- ---- the schema

-- tables that have the broker's names and places, of which three are these
abbrev with_results : Schema → (ℕ → Table) → Table → Table → Table → Schema
with_results s given t u w = record s {
  tables = laid_out broker_schema.tables (λ n. if n == 9 then t else (if n == 10 then u else (if n == 13 then w else given n)));
}

-- the columns of latest are STRICT or not, each of them
abbrev declared : Schema → (ℕ → Table) → (ℕ → Column) → (ℕ → Column) → (ℕ → Column) → Bool → Bool → Bool → Schema
declared s given rs ls cs x y z = with_results s given
    (record (given 9) { columns = set_out results.columns rs; key = Some 0 })
    (record (given 10) {
      columns = record (named_as (numbers (codes "content")) (ls 0)) { is_strict = x }
          ∷ record (named_as (numbers (codes "provider_version")) (ls 1)) { is_strict = y }
          ∷ record (named_as (numbers (codes "result")) (ls 2)) { is_strict = z } ∷ [];
      key = None;
    })
    (record (given 13) { columns = set_out checked_results.columns cs; key = Some 0 })

-- a schema that has the tables is such a one
pub HasBrokerTables-declared_results : (s : Schema) → HasBrokerTables s → (given : ℕ → Table) × (rs ls cs : ℕ → Column)
    × (s ≡ declared s given rs ls cs (ls 0).is_strict (ls 1).is_strict (ls 2).is_strict)
HasBrokerTables-declared_results s h =
    let all = laid_out-of_HasColumns broker_schema.tables s.tables h in
    let from_results = (subst (AllZip HasColumns broker_schema.tables) all.1 h).1.1.1.1.1.1.1.1.1 in
    let rs = set_out-of_IsColumnLike results.columns (all.0 9).columns from_results.0.3 in
    let ls = set_out-of_IsColumnLike latest.columns (all.0 10).columns from_results.1.0.3 in
    let cs = set_out-of_IsColumnLike checked_results.columns (all.0 13).columns from_results.1.1.1.1.0.3 in (
      all.0,
      rs.0,
      ls.0,
      cs.0,
      ap (λ ts. record s { tables = ts }) all.1 ∙ (λ i. with_results s all.0
          (record (all.0 9) { columns = rs.1 i; key = from_results.0.2 i })
          (record (all.0 10) { columns = ls.1 i; key = from_results.1.0.2 i })
          (record (all.0 13) { columns = cs.1 i; key = from_results.1.1.1.1.0.2 i })),
    )

-- ---- the texts

-- a parameter, beside a column that is STRICT or not
abbrev pub given_to : Bool → Term → Term
given_to true t = t
given_to false t = op1 ToNumeric t

-- ON the row's number is the result, WHERE the content and the version are the parameters
abbrev pub pair_terms : Bool → Bool → List Term
pair_terms x y = op2 (Compare Eq Binary) (col 2 0) (col 1 in_latest.result)
    ∷ op2 (Compare Eq Binary) (col 1 in_latest.content) (given_to x (col 0 0))
    ∷ op2 (Compare Eq Binary) (col 1 in_latest.provider_version) (given_to y (col 0 1)) ∷ []

-- the version is the parameter
abbrev pub version_terms : Bool → List Term
version_terms y = op2 (Compare Eq Binary) (col 2 0) (col 1 in_latest.result)
    ∷ op2 (Compare Eq Binary) (col 1 in_latest.provider_version) (given_to y (col 0 0)) ∷ []

abbrev pub pair_sql : List ℕ
pair_sql = codes "SELECT r.number, r.pass, l.content, r.content, l.provider_version, r.provider_version FROM latest l JOIN results r ON r.number = l.result WHERE l.content = ?1 AND l.provider_version = ?2"

abbrev pub passes_sql : List ℕ
passes_sql = codes "SELECT r.number, r.pass, l.content, r.content, l.provider_version, r.provider_version FROM latest l JOIN results r ON r.number = l.result WHERE l.provider_version = ?1 ORDER BY l.content"

abbrev pub marks_sql : List ℕ
marks_sql = codes "SELECT l.content FROM latest l JOIN checked_results c ON c.result = l.result WHERE l.provider_version = ?1 ORDER BY l.content"

abbrev pub checked_sql : List ℕ
checked_sql = codes "SELECT result FROM checked_results WHERE result = ?1"

abbrev pub pair_params : ℕ → ℕ → Row
pair_params c n = Int (pos c) ∷ Int (pos n) ∷ []

abbrev pub one_param : ℕ → Row
one_param n = Int (pos n) ∷ []

abbrev pub pair_query : Bool → Bool → Query
pair_query x y = from_both in_latest.tree in_results.tree (pair_terms x y) passes_project []

abbrev pub passes_query : Bool → Query
passes_query y = from_both in_latest.tree in_results.tree (version_terms y) passes_project order

abbrev pub marks_query : Bool → Query
marks_query y = from_both in_latest.tree in_checked_results.tree (version_terms y) marks_project order

abbrev pub checked_query : Query
checked_query = from_table in_checked_results.tree (op2 (Compare Eq Binary) (col 1 0) (col 0 0) ∷ []) (col 1 0 ∷ []) []

module _ (s : Schema) (given : ℕ → Table) (rs ls cs : ℕ → Column) where
  declared-pair_sql : (x y z : Bool) (c n : ℕ) → AsksOf (declared s given rs ls cs x y z) pair_sql (pair_params c n) (pair_query x y)
  unfolding understood everything
  declared-pair_sql true true true c n = record { names = _; means = record { is = refl; plain = (refl, refl); unlisted = refl }; runs = record { whole = refl; typed = refl; sumless = refl } }
  declared-pair_sql true true false c n = record { names = _; means = record { is = refl; plain = (refl, refl); unlisted = refl }; runs = record { whole = refl; typed = refl; sumless = refl } }
  declared-pair_sql true false true c n = record { names = _; means = record { is = refl; plain = (refl, refl); unlisted = refl }; runs = record { whole = refl; typed = refl; sumless = refl } }
  declared-pair_sql true false false c n = record { names = _; means = record { is = refl; plain = (refl, refl); unlisted = refl }; runs = record { whole = refl; typed = refl; sumless = refl } }
  declared-pair_sql false true true c n = record { names = _; means = record { is = refl; plain = (refl, refl); unlisted = refl }; runs = record { whole = refl; typed = refl; sumless = refl } }
  declared-pair_sql false true false c n = record { names = _; means = record { is = refl; plain = (refl, refl); unlisted = refl }; runs = record { whole = refl; typed = refl; sumless = refl } }
  declared-pair_sql false false true c n = record { names = _; means = record { is = refl; plain = (refl, refl); unlisted = refl }; runs = record { whole = refl; typed = refl; sumless = refl } }
  declared-pair_sql false false false c n = record { names = _; means = record { is = refl; plain = (refl, refl); unlisted = refl }; runs = record { whole = refl; typed = refl; sumless = refl } }

  declared-passes_sql : (x y z : Bool) (n : ℕ) → AsksOf (declared s given rs ls cs x y z) passes_sql (one_param n) (passes_query y)
  unfolding understood everything
  declared-passes_sql x true true n = record { names = _; means = record { is = refl; plain = (refl, refl); unlisted = refl }; runs = record { whole = refl; typed = refl; sumless = refl } }
  declared-passes_sql x true false n = record { names = _; means = record { is = refl; plain = (refl, refl); unlisted = refl }; runs = record { whole = refl; typed = refl; sumless = refl } }
  declared-passes_sql x false true n = record { names = _; means = record { is = refl; plain = (refl, refl); unlisted = refl }; runs = record { whole = refl; typed = refl; sumless = refl } }
  declared-passes_sql x false false n = record { names = _; means = record { is = refl; plain = (refl, refl); unlisted = refl }; runs = record { whole = refl; typed = refl; sumless = refl } }

  declared-marks_sql : (x y z : Bool) (n : ℕ) → AsksOf (declared s given rs ls cs x y z) marks_sql (one_param n) (marks_query y)
  unfolding understood everything
  declared-marks_sql x true true n = record { names = _; means = record { is = refl; plain = (refl, refl); unlisted = refl }; runs = record { whole = refl; typed = refl; sumless = refl } }
  declared-marks_sql x true false n = record { names = _; means = record { is = refl; plain = (refl, refl); unlisted = refl }; runs = record { whole = refl; typed = refl; sumless = refl } }
  declared-marks_sql x false true n = record { names = _; means = record { is = refl; plain = (refl, refl); unlisted = refl }; runs = record { whole = refl; typed = refl; sumless = refl } }
  declared-marks_sql x false false n = record { names = _; means = record { is = refl; plain = (refl, refl); unlisted = refl }; runs = record { whole = refl; typed = refl; sumless = refl } }

  declared-checked_sql : (x y z : Bool) (n : ℕ) → AsksOf (declared s given rs ls cs x y z) checked_sql (one_param n) checked_query
  unfolding understood everything
  declared-checked_sql x y z n = record { names = _; means = record { is = refl; plain = (refl, refl); unlisted = refl }; runs = record { whole = refl; typed = refl; sumless = refl } }

-- ---- what they ask

module _ (s : Schema) (h : HasBrokerTables s) where
  -- whether a column of latest is STRICT
  abbrev pub is_strict : ℕ → Bool
  is_strict n = ((HasBrokerTables-declared_results s h).2 n).is_strict

  pub AsksOf-pair_sql : (c n : ℕ) → AsksOf s pair_sql (pair_params c n) (pair_query (is_strict 0) (is_strict 1))
  AsksOf-pair_sql c n =
      let it = HasBrokerTables-declared_results s h in
      subst (λ t. AsksOf t pair_sql (pair_params c n) (pair_query (is_strict 0) (is_strict 1))) (sym it.4) (declared-pair_sql s it.0 it.1 it.2 it.3 _ _ _ c n)

  pub AsksOf-passes_sql : (n : ℕ) → AsksOf s passes_sql (one_param n) (passes_query (is_strict 1))
  AsksOf-passes_sql n =
      let it = HasBrokerTables-declared_results s h in
      subst (λ t. AsksOf t passes_sql (one_param n) (passes_query (is_strict 1))) (sym it.4) (declared-passes_sql s it.0 it.1 it.2 it.3 _ _ _ n)

  pub AsksOf-marks_sql : (n : ℕ) → AsksOf s marks_sql (one_param n) (marks_query (is_strict 1))
  AsksOf-marks_sql n =
      let it = HasBrokerTables-declared_results s h in
      subst (λ t. AsksOf t marks_sql (one_param n) (marks_query (is_strict 1))) (sym it.4) (declared-marks_sql s it.0 it.1 it.2 it.3 _ _ _ n)

  pub AsksOf-checked_sql : (n : ℕ) → AsksOf s checked_sql (one_param n) checked_query
  AsksOf-checked_sql n =
      let it = HasBrokerTables-declared_results s h in
      subst (λ t. AsksOf t checked_sql (one_param n) checked_query) (sym it.4) (declared-checked_sql s it.0 it.1 it.2 it.3 _ _ _ n)
