-- What the statements for an environment ask and show in any schema that has the broker's tables, with any CHECKs, keys
-- and references, STRICT or not.
use Rattle.std.specs.{Prelude.{if◌then◌else◌, ◌↔◌}, List.{AllZip}}
use Rattle.std.proofs.Common.{◌≡◌, ◌==◌, ◌∙◌, ℕ, pos, codes, List, [], ◌∷◌, Bool, true, false, Option, Some, None, refl, sym, ap, subst, length, ◌<◌, arith, ◌&&◌}
use Rattle.sqlite.specs.{declared.types.Value.TheVariants.{Null, Int, Text}, Order.{Row, column}, Term.{eval_all}, Query.{Query}, Table.{Table}}
use Rattle.sqlite.specs.{Schema.{Schema}, Collation.TheVariants.{Binary}, State.{State, Shown}, Listing.{understood}}
use Rattle.sqlite_sql.specs.{declared.ops.BinaryOp.TheVariants.{Compare}, declared.ops.CompareOp.TheVariants.{Eq}, Ops.{binary, is_true}}
use Rattle.sqlite_schema.specs.declared.schema.Column.{Column}
use Rattle.sqlite_tied.specs.Compute.{everything}
use Rattle.table_access.specs.{Reading.{AreRead}, Statements.{from_table}}
use Rattle.broker_core.specs.{declared.answer.DeployedItem.{DeployedItem}, declared.command.Version.{Version}}
use Rattle.broker_tables.specs.Schema.{broker_schema, texts, numbers, versions, contracts, deployed, released, in_versions, in_contracts, in_deployed, in_released}
use Rattle.broker_tables.specs.Asking.{HasColumns, HasBrokerTables}
use Rattle.broker_tables.proofs.AnyTables.{laid_out, laid_out-of_HasColumns, named_as, set_out, set_out-of_IsColumnLike, AsksOf, Shown-Answers_query, Shown-first_kept, Shown-none_kept}
use Rattle.broker_tables.proofs.{Listed.{AreRead-complete}, VersionRows.{binary-Eq_same_Text}}
use Rattle.contract_tables.{specs.{Listings.{IsNumberedName}, declared.listings.NumberedName.{NumberedName}}, proofs.ItemLists.{and-true_test}}
use Rattle.deploy_tables.specs.{Listings.{IsDeployedRow, IsReleasedRow}, AnyThere.{HasNull, IsOfAVersion, EachDeployedIsThere, EachReleasedIsThere}}
use Rattle.deploy_tables.specs.{ContractsThere.{IsContractIfAny}, declared.contracts_there.NumberedContract.{NumberedContract}}
use Rattle.deploy_tables.proofs.{LeftRows.{from_left, rows-not_null_goes_with, rows-has_some_env}, VersionRows.{on_number, in_environment}}
use Rattle.deploy_tables.proofs.{ContractsThere.{if_any_sql, if_any_query, ons, if_any, IsContractIfAny-first_number}, VersionNames.{by_number, name_project}}
use Rattle.deploy_tables.proofs.DeployedState as deployed_list
use Rattle.deploy_tables.proofs.ReleasedRows as released_list

-- ---- the schema

-- tables that have the broker's names and places, of which four are these
abbrev with_places : Schema → (ℕ → Table) → Table → Table → Table → Table → Schema
with_places s given v c d r = record s {
  tables = laid_out broker_schema.tables (λ n. if n == 3 then v else (if n == 8 then c else (if n == 11 then d else (if n == 12 then r else given n))));
}

-- the columns, of which those that are compared are STRICT or not
abbrev contract_columns : (ℕ → Column) → Bool → Bool → List Column
contract_columns cs x y = record (named_as (numbers (codes "version_number")) (cs 0)) { is_strict = x } ∷ record (named_as (texts (codes "provider")) (cs 1)) { is_strict = y }
    ∷ named_as (numbers (codes "content")) (cs 2) ∷ []

abbrev deployed_columns : (ℕ → Column) → Bool → Bool → List Column
deployed_columns ds x y = record (named_as (texts (codes "environment")) (ds 0)) { is_strict = x } ∷ named_as (texts (codes "pacticipant")) (ds 1)
    ∷ named_as (texts (codes "instance")) (ds 2) ∷ record (named_as (numbers (codes "version_number")) (ds 3)) { is_strict = y } ∷ []

abbrev released_columns : (ℕ → Column) → Bool → Bool → List Column
released_columns rs x y = record (named_as (texts (codes "environment")) (rs 0)) { is_strict = x } ∷ record (named_as (numbers (codes "version_number")) (rs 1)) { is_strict = y } ∷ []

abbrev declared : Schema → (ℕ → Table) → (ℕ → Column) → (ℕ → Column) → (ℕ → Column) → (ℕ → Column) → Bool → Bool → Bool → Bool → Bool → Bool → Schema
declared s given vs cs ds rs a b x y z w = with_places s given
    (record (given 3) { columns = set_out versions.columns vs; key = Some 0 })
    (record (given 8) { columns = contract_columns cs a b; key = None })
    (record (given 11) { columns = deployed_columns ds x y; key = None })
    (record (given 12) { columns = released_columns rs z w; key = None })

-- a schema that has the tables is such a one
HasBrokerTables-declared_there : (s : Schema) → HasBrokerTables s → (given : ℕ → Table) × (vs cs ds rs : ℕ → Column)
    × (s ≡ declared s given vs cs ds rs (cs 0).is_strict (cs 1).is_strict (ds 0).is_strict (ds 3).is_strict (rs 0).is_strict (rs 1).is_strict)
HasBrokerTables-declared_there s h =
    let all = laid_out-of_HasColumns broker_schema.tables s.tables h in
    let from_versions = (subst (AllZip HasColumns broker_schema.tables) all.1 h).1.1.1 in
    let from_contracts = from_versions.1.1.1.1.1 in
    let from_deployed = from_contracts.1.1.1 in
    let vs = set_out-of_IsColumnLike versions.columns (all.0 3).columns from_versions.0.3 in
    let cs = set_out-of_IsColumnLike contracts.columns (all.0 8).columns from_contracts.0.3 in
    let ds = set_out-of_IsColumnLike deployed.columns (all.0 11).columns from_deployed.0.3 in
    let rs = set_out-of_IsColumnLike released.columns (all.0 12).columns from_deployed.1.0.3 in (
      all.0,
      vs.0,
      cs.0,
      ds.0,
      rs.0,
      ap (λ ts. record s { tables = ts }) all.1 ∙ (λ i. with_places s all.0
          (record (all.0 3) { columns = vs.1 i; key = from_versions.0.2 i })
          (record (all.0 8) { columns = cs.1 i; key = from_contracts.0.2 i })
          (record (all.0 11) { columns = ds.1 i; key = from_deployed.0.2 i })
          (record (all.0 12) { columns = rs.1 i; key = from_deployed.1.0.2 i })),
    )

-- ---- the texts

abbrev pub deployed_sql : List ℕ
deployed_sql = codes "SELECT d.pacticipant, d.instance, v.version FROM deployed d LEFT JOIN versions v ON v.number = d.version_number WHERE d.environment = ?1 ORDER BY d.pacticipant, d.instance"

abbrev pub deployed_query : Query
deployed_query = from_left in_deployed.tree in_versions.tree (on_number in_deployed.version_number) in_environment deployed_list.list_project deployed_list.list_order

abbrev pub released_sql : List ℕ
released_sql = codes "SELECT v.pacticipant, v.version FROM released r LEFT JOIN versions v ON v.number = r.version_number WHERE r.environment = ?1 ORDER BY v.pacticipant, v.version"

abbrev pub released_query : Query
released_query = from_left in_released.tree in_versions.tree (on_number in_released.version_number) in_environment released_list.list_project released_list.list_order

abbrev numbers_sql : List ℕ
numbers_sql = codes "SELECT r.version_number, v.pacticipant FROM released r LEFT JOIN versions v ON v.number = r.version_number WHERE r.environment = ?1"

abbrev numbers_query : Query
numbers_query = from_left in_released.tree in_versions.tree (on_number in_released.version_number) in_environment released_list.number_project []

abbrev names_sql : List ℕ
names_sql = codes "SELECT pacticipant, version FROM versions WHERE number = ?1"

abbrev names_query : Query
names_query = from_table in_versions.tree by_number name_project []

module _ (s : Schema) (given : ℕ → Table) (vs cs ds rs : ℕ → Column) where
  declared-if_any_sql : (a b x y z w : Bool) (e p : List ℕ) → AsksOf (declared s given vs cs ds rs a b x y z w) if_any_sql (Text e ∷ Text p ∷ []) if_any_query
  unfolding understood everything
  declared-if_any_sql true true true true z w e p = record { names = _; means = record { is = refl; plain = (refl, refl); unlisted = refl }; runs = record { whole = refl; typed = refl; sumless = refl } }
  declared-if_any_sql true true true false z w e p = record { names = _; means = record { is = refl; plain = (refl, refl); unlisted = refl }; runs = record { whole = refl; typed = refl; sumless = refl } }
  declared-if_any_sql true true false true z w e p = record { names = _; means = record { is = refl; plain = (refl, refl); unlisted = refl }; runs = record { whole = refl; typed = refl; sumless = refl } }
  declared-if_any_sql true true false false z w e p = record { names = _; means = record { is = refl; plain = (refl, refl); unlisted = refl }; runs = record { whole = refl; typed = refl; sumless = refl } }
  declared-if_any_sql true false true true z w e p = record { names = _; means = record { is = refl; plain = (refl, refl); unlisted = refl }; runs = record { whole = refl; typed = refl; sumless = refl } }
  declared-if_any_sql true false true false z w e p = record { names = _; means = record { is = refl; plain = (refl, refl); unlisted = refl }; runs = record { whole = refl; typed = refl; sumless = refl } }
  declared-if_any_sql true false false true z w e p = record { names = _; means = record { is = refl; plain = (refl, refl); unlisted = refl }; runs = record { whole = refl; typed = refl; sumless = refl } }
  declared-if_any_sql true false false false z w e p = record { names = _; means = record { is = refl; plain = (refl, refl); unlisted = refl }; runs = record { whole = refl; typed = refl; sumless = refl } }
  declared-if_any_sql false true true true z w e p = record { names = _; means = record { is = refl; plain = (refl, refl); unlisted = refl }; runs = record { whole = refl; typed = refl; sumless = refl } }
  declared-if_any_sql false true true false z w e p = record { names = _; means = record { is = refl; plain = (refl, refl); unlisted = refl }; runs = record { whole = refl; typed = refl; sumless = refl } }
  declared-if_any_sql false true false true z w e p = record { names = _; means = record { is = refl; plain = (refl, refl); unlisted = refl }; runs = record { whole = refl; typed = refl; sumless = refl } }
  declared-if_any_sql false true false false z w e p = record { names = _; means = record { is = refl; plain = (refl, refl); unlisted = refl }; runs = record { whole = refl; typed = refl; sumless = refl } }
  declared-if_any_sql false false true true z w e p = record { names = _; means = record { is = refl; plain = (refl, refl); unlisted = refl }; runs = record { whole = refl; typed = refl; sumless = refl } }
  declared-if_any_sql false false true false z w e p = record { names = _; means = record { is = refl; plain = (refl, refl); unlisted = refl }; runs = record { whole = refl; typed = refl; sumless = refl } }
  declared-if_any_sql false false false true z w e p = record { names = _; means = record { is = refl; plain = (refl, refl); unlisted = refl }; runs = record { whole = refl; typed = refl; sumless = refl } }
  declared-if_any_sql false false false false z w e p = record { names = _; means = record { is = refl; plain = (refl, refl); unlisted = refl }; runs = record { whole = refl; typed = refl; sumless = refl } }

  declared-deployed_sql : (a b x y z w : Bool) (e : List ℕ) → AsksOf (declared s given vs cs ds rs a b x y z w) deployed_sql (Text e ∷ []) deployed_query
  unfolding understood everything
  declared-deployed_sql a b true true z w e = record { names = _; means = record { is = refl; plain = (refl, refl); unlisted = refl }; runs = record { whole = refl; typed = refl; sumless = refl } }
  declared-deployed_sql a b true false z w e = record { names = _; means = record { is = refl; plain = (refl, refl); unlisted = refl }; runs = record { whole = refl; typed = refl; sumless = refl } }
  declared-deployed_sql a b false true z w e = record { names = _; means = record { is = refl; plain = (refl, refl); unlisted = refl }; runs = record { whole = refl; typed = refl; sumless = refl } }
  declared-deployed_sql a b false false z w e = record { names = _; means = record { is = refl; plain = (refl, refl); unlisted = refl }; runs = record { whole = refl; typed = refl; sumless = refl } }

  declared-released_sql : (a b x y z w : Bool) (e : List ℕ) → AsksOf (declared s given vs cs ds rs a b x y z w) released_sql (Text e ∷ []) released_query
  unfolding understood everything
  declared-released_sql a b x y true true e = record { names = _; means = record { is = refl; plain = (refl, refl); unlisted = refl }; runs = record { whole = refl; typed = refl; sumless = refl } }
  declared-released_sql a b x y true false e = record { names = _; means = record { is = refl; plain = (refl, refl); unlisted = refl }; runs = record { whole = refl; typed = refl; sumless = refl } }
  declared-released_sql a b x y false true e = record { names = _; means = record { is = refl; plain = (refl, refl); unlisted = refl }; runs = record { whole = refl; typed = refl; sumless = refl } }
  declared-released_sql a b x y false false e = record { names = _; means = record { is = refl; plain = (refl, refl); unlisted = refl }; runs = record { whole = refl; typed = refl; sumless = refl } }

  numbers_declared : (a b x y z w : Bool) (e : List ℕ) → AsksOf (declared s given vs cs ds rs a b x y z w) numbers_sql (Text e ∷ []) numbers_query
  unfolding understood everything
  numbers_declared a b x y true true e = record { names = _; means = record { is = refl; plain = (refl, refl); unlisted = refl }; runs = record { whole = refl; typed = refl; sumless = refl } }
  numbers_declared a b x y true false e = record { names = _; means = record { is = refl; plain = (refl, refl); unlisted = refl }; runs = record { whole = refl; typed = refl; sumless = refl } }
  numbers_declared a b x y false true e = record { names = _; means = record { is = refl; plain = (refl, refl); unlisted = refl }; runs = record { whole = refl; typed = refl; sumless = refl } }
  numbers_declared a b x y false false e = record { names = _; means = record { is = refl; plain = (refl, refl); unlisted = refl }; runs = record { whole = refl; typed = refl; sumless = refl } }

  names_declared : (a b x y z w : Bool) (n : ℕ) → AsksOf (declared s given vs cs ds rs a b x y z w) names_sql (Int (pos n) ∷ []) names_query
  unfolding understood everything
  names_declared a b x y z w n = record { names = _; means = record { is = refl; plain = (refl, refl); unlisted = refl }; runs = record { whole = refl; typed = refl; sumless = refl } }

module _ (s : Schema) (h : HasBrokerTables s) (e : List ℕ) where
  pub AsksOf-if_any_sql : (p : List ℕ) → AsksOf s if_any_sql (Text e ∷ Text p ∷ []) if_any_query
  AsksOf-if_any_sql p = let it = HasBrokerTables-declared_there s h in subst (λ t. AsksOf t if_any_sql (Text e ∷ Text p ∷ []) if_any_query) (sym it.5) (declared-if_any_sql s it.0 it.1 it.2 it.3 it.4 _ _ _ _ _ _ e p)

  pub AsksOf-deployed_sql : AsksOf s deployed_sql (Text e ∷ []) deployed_query
  AsksOf-deployed_sql = let it = HasBrokerTables-declared_there s h in subst (λ t. AsksOf t deployed_sql (Text e ∷ []) deployed_query) (sym it.5) (declared-deployed_sql s it.0 it.1 it.2 it.3 it.4 _ _ _ _ _ _ e)

  pub AsksOf-released_sql : AsksOf s released_sql (Text e ∷ []) released_query
  AsksOf-released_sql = let it = HasBrokerTables-declared_there s h in subst (λ t. AsksOf t released_sql (Text e ∷ []) released_query) (sym it.5) (declared-released_sql s it.0 it.1 it.2 it.3 it.4 _ _ _ _ _ _ e)

  pub numbers_asks : AsksOf s numbers_sql (Text e ∷ []) numbers_query
  numbers_asks = let it = HasBrokerTables-declared_there s h in subst (λ t. AsksOf t numbers_sql (Text e ∷ []) numbers_query) (sym it.5) (numbers_declared s it.0 it.1 it.2 it.3 it.4 _ _ _ _ _ _ e)

pub names_asks : (s : Schema) → HasBrokerTables s → (n : ℕ) → AsksOf s names_sql (Int (pos n) ∷ []) names_query
names_asks s h n = let it = HasBrokerTables-declared_there s h in subst (λ t. AsksOf t names_sql (Int (pos n) ∷ []) names_query) (sym it.5) (names_declared s it.0 it.1 it.2 it.3 it.4 _ _ _ _ _ _ n)

-- ---- the rows

-- versions are listed if and only if a row of the versions has the number
pub version_there : (n : ℕ) (old new : State) (h : HasBrokerTables old.now.schema) (rows : List Row) → Shown names_sql (Int (pos n) ∷ []) old new rows → (items : List Version) → AreRead IsReleasedRow rows items
    → (0 < length items) ↔ IsOfAVersion old.now (Int (pos n))
version_there n old new h [] shown [] read = (λ low. absurd (omega (arith, low)), λ it. absurd (Shown-none_kept old new (names_asks old.now.schema h n) [] shown refl it.0 it.1 ((and-true_test (λ t. t, λ t. t)).1 it.2)))
version_there n old new h (r ∷ rows) shown (x ∷ items) read = (
  λ low. let it = Shown-first_kept old new (names_asks old.now.schema h n) (r ∷ rows) shown r refl in (it.0, it.1, (and-true_test (λ t. t, λ t. t)).0 it.2),
  λ it. omega arith,
)
version_there n old new h _ shown _ read = absurd read

module _ (e : List ℕ) (old new : State) (h : HasBrokerTables old.now.schema) (rows : List Row) where
  binary-Eq_environment : (r : Row) → column r in_deployed.environment ≡ Text e → is_true (binary (Compare Eq Binary) (column r in_deployed.environment) (Text e)) ≡ true
  binary-Eq_environment r is = (binary-Eq_same_Text (column r in_deployed.environment) (Text e) e e is refl).1 refl

  -- a list of what is deployed is read only if each names a version
  pub EachDeployedIsThere-read : (items : List DeployedItem) → Shown deployed_sql (Text e ∷ []) old new rows → AreRead IsDeployedRow rows items → EachDeployedIsThere e old.now
  EachDeployedIsThere-read items shown read d is =
      rows-not_null_goes_with old.now (Text e ∷ []) in_deployed.tree in_versions.tree (on_number in_deployed.version_number) in_environment deployed_list.list_project deployed_list.list_order rows
      (Shown-Answers_query old new (AsksOf-deployed_sql old.now.schema h e) rows shown) d is.0 (ap (λ b. b && true) (binary-Eq_environment d is.1))
      (λ has. let it = AreRead-complete IsDeployedRow rows items _ read has in let clash : Null ≡ Text it.0.version = it.2.2 in cc)

  pub EachReleasedIsThere-read : (items : List Version) → Shown released_sql (Text e ∷ []) old new rows → AreRead IsReleasedRow rows items → EachReleasedIsThere e old.now
  EachReleasedIsThere-read items shown read r is =
      rows-not_null_goes_with old.now (Text e ∷ []) in_released.tree in_versions.tree (on_number in_released.version_number) in_environment released_list.list_project released_list.list_order rows
      (Shown-Answers_query old new (AsksOf-released_sql old.now.schema h e) rows shown) r is.0 (ap (λ b. b && true) (binary-Eq_environment r is.1))
      (λ has. let it = AreRead-complete IsReleasedRow rows items _ read has in let clash : Null ≡ Text it.0.name = it.2.1 in cc)

  -- the numbers of what is released are read only if each names a version
  pub numbers_there : (items : List NumberedName) → Shown numbers_sql (Text e ∷ []) old new rows → AreRead IsNumberedName rows items → EachReleasedIsThere e old.now
  numbers_there items shown read r is =
      rows-not_null_goes_with old.now (Text e ∷ []) in_released.tree in_versions.tree (on_number in_released.version_number) in_environment released_list.number_project [] rows
      (Shown-Answers_query old new (numbers_asks old.now.schema h e) rows shown) r is.0 (ap (λ b. b && true) (binary-Eq_environment r is.1))
      (λ has. let it = AreRead-complete IsNumberedName rows items _ read has in let clash : Null ≡ Text it.0.name = it.2.1 in cc)

  -- what each deployed version has as a contract is read only if none of them is NULL
  pub HasNull-never_read : (p : List ℕ) (items : List (Option NumberedContract)) → Shown if_any_sql (Text e ∷ Text p ∷ []) old new rows → AreRead IsContractIfAny rows items → ¬ (HasNull e old.now)
  HasNull-never_read p items shown read d =
      let row = rows-has_some_env old.now (Text e ∷ Text p ∷ []) in_deployed.tree in_contracts.tree ons in_environment if_any [] rows
      (Shown-Answers_query old new (AsksOf-if_any_sql old.now.schema h e p) rows shown) d.0 d.1.0 (λ s. ap (λ b. b && true) (binary-Eq_environment d.0 d.1.1)) in
      let it = AreRead-complete IsContractIfAny rows items (eval_all if_any ((Text e ∷ Text p ∷ []) ∷ d.0 ∷ row.0 ∷ [])) read row.1 in
      let number = IsContractIfAny-first_number (eval_all if_any ((Text e ∷ Text p ∷ []) ∷ d.0 ∷ row.0 ∷ [])) it.0 it.2 in
      let clash : Null ≡ Int (pos number.0) = sym d.2 ∙ number.1 in
      cc
