-- The rows of each query of these tables can be read, if the state that the database holds can.
use Rattle.std.{specs.{Prelude.{IsUtf8}, List.{list_all}}, proofs.Common.{◌≡◌, ◌⊎◌, inl, inr, ℕ, List, [], ◌∷◌, true, refl, sym, ap, subst, arith}}
use Rattle.sqlite_rules.specs.Lists.{Has}
use Rattle.table_access.specs.{Columns.{text, whole_at}, Reading.{IsNumberRow}, Statements.{shows, from_table, from_both, keeps_both}}
use Rattle.table_access.proofs.Answered.{pair_shown}
use Rattle.broker_core.specs.State.{State as Broker}
use Rattle.broker_tables.specs.{Schema.{in_versions, in_contracts, in_deployed, in_released}, Holds.{Holds}, Readable.{IsReadable, IsNamed}}
use Rattle.broker_tables.proofs.TableQuery.{TableQuery, IsShown, EachShown, EachReads, EachShown-of_both, EachShown-of_table, EachShown-IsNumberRow}
use Rattle.broker_tables.proofs.Placed.{contracts, at_contracts, deployed, at_deployed, released, at_released, listed, column-whole_numbers}
use Rattle.broker_tables.proofs.ReadableRows.{IsNumberAt-of_column, IsNameAt-of_column, to_version_low, IsNamed-version, IsNamed-reference}
use Rattle.broker_tables.proofs.VersionRows.{column-version_pacticipant, names}
use Rattle.deploy_tables.specs.{Listings.{ReadsAsDeployed, ReadsAsReleased}, ContractsThere.{ReadsAsContractIfAny}}
use Rattle.deploy_tables.proofs.{ContractsThere.{project, ons, if_any, of_deployed}, VersionNames.{names_of, name_project}, VersionRows.{in_environment}}
use Rattle.deploy_tables.proofs.LeftRows.{rows-of_env}
use Rattle.sqlite.specs.{declared.types.Value.TheVariants.{Text}, Order.{Row, column}, Term.{Term, col, holds, eval_all}, Query.{Query}}
use Rattle.sqlite.specs.Effect.{Database, Answers}
use Rattle.sqlite_value.specs.declared.keys.Key.{Key}
use Rattle.contract_tables.{specs.Listings.{ReadsAsNumbers, ReadsAsMarked}, proofs.ReadableRows.{IsLowAt, IsLowAt-contract_content}}
use Rattle.deploy_tables.proofs.DeployedRows as deployed_rows
use Rattle.deploy_tables.proofs.DeployedState as deployed_list
use Rattle.deploy_tables.proofs.ReleasedRows as released_list

-- ---- the columns of the tables

module _ (db : Database) (s : Broker) (held : Holds db s) (readable : IsReadable s) where
  IsLowAt-deployed_number : IsLowAt db in_deployed.tree in_deployed.version_number
  IsLowAt-deployed_number r has =
      let typed = deployed_rows.numbers db held.broker r has in
      (typed, to_version_low db s held readable deployed (listed at_deployed db held.broker) in_deployed.version_number r has typed (inr (inr (inl refl))))

  IsNamed-deployed : (r : Row) → Has (db.trees in_deployed.tree) r → IsNamed (text in_deployed.pacticipant r)
  IsNamed-deployed r has = IsNamed-reference db s held readable deployed (listed at_deployed db held.broker) in_deployed.pacticipant (inr (inl refl)) r has
      (deployed_rows.pacticipants db held.broker r has)

  -- an instance is a text in UTF-8
  IsUtf8-deployed_instance : (r : Row) → Has (db.trees in_deployed.tree) r → IsUtf8 (text in_deployed.instance r)
  IsUtf8-deployed_instance r has = let name = deployed_list.deployed-of_row db s held (text in_deployed.environment r) r has refl in readable.instances (text in_deployed.environment r) (text in_deployed.pacticipant r) (text in_deployed.instance r) name.0 name.1

  IsLowAt-released_number : IsLowAt db in_released.tree in_released.version_number
  IsLowAt-released_number r has =
      let typed = released_list.numbers db held.broker r has in
      (typed, to_version_low db s held readable released (listed at_released db held.broker) in_released.version_number r has typed (inr (inl refl)))

  IsLowAt-contract_version : IsLowAt db in_contracts.tree in_contracts.version_number
  IsLowAt-contract_version r has =
      let typed = column-whole_numbers at_contracts db held.broker in_contracts.version_number refl r has in
      (typed, to_version_low db s held readable contracts (listed at_contracts db held.broker) in_contracts.version_number r has typed (inl refl))

-- ---- of a LEFT JOIN that shows what the JOIN shows

EachShown-of_joined : {sql : List ℕ} {params : Row} {query : Query} {terms project : List Term} {order : List (Term × Key)} {t u : ℕ} (asked : TableQuery sql params query) (db : Database) (Is : Row → Type 0)
    → ((rows : List Row) → IsShown asked db rows → Answers db (record { lets = []; body = from_both t u terms project order }) params rows)
    → ((r q : Row) → Has (db.trees t) r → Has (db.trees u) q → keeps_both terms params r q ≡ true → Is (eval_all project (params ∷ r ∷ q ∷ []))) → EachShown asked db Is
EachShown-of_joined {params = params} {terms = terms} {project = project} {order = order} {t = t} {u = u} asked db Is joined is rows h row has =
    let it = pair_shown db params t u terms project order rows (joined rows h) row has in
    subst Is (sym it.4) (is it.0 it.1 it.2 it.3 it.5)

-- ---- what is deployed

pub EachReads-deployed_numbers : {sql : List ℕ} {params : Row} {terms : List Term}
    (asked : TableQuery sql params (from_table in_deployed.tree terms (col 1 in_deployed.version_number ∷ []) [])) (db : Database) → EachReads asked db IsNumberRow
EachReads-deployed_numbers asked db s held readable = EachShown-IsNumberRow asked db (IsLowAt-deployed_number db s held readable)

pub EachReads-deployments : (e : List ℕ) (db : Database) → EachReads (deployed_list.deployments e) db ReadsAsDeployed
EachReads-deployments e db s held readable = EachShown-of_joined (deployed_list.deployments e) db _ (λ rows h. deployed_list.IsShown-deployments_as_join db s held e rows h) (λ d v hd hv kept.
    let shown : Row = eval_all (col 1 in_deployed.pacticipant ∷ col 1 in_deployed.instance ∷ col 2 in_versions.version ∷ []) ([] ∷ d ∷ v ∷ []) in (
      IsNameAt-of_column shown 0 (text in_deployed.pacticipant d) (omega arith) (deployed_rows.pacticipants db held.broker d hd) (IsNamed-deployed db s held readable d hd),
      (omega arith, (text in_deployed.instance d, deployed_rows.column-deployed_instance db held.broker d hd, IsUtf8-deployed_instance db s held readable d hd)),
      IsNameAt-of_column shown 2 (text in_versions.version v) (omega arith) (names db held.broker v hv) (IsNamed-version db s held readable v hv).1,
    ))

-- ---- what is released

pub EachReads-releases : (e : List ℕ) (db : Database) → EachReads (released_list.releases e) db ReadsAsReleased
EachReads-releases e db s held readable = EachShown-of_joined (released_list.releases e) db _ (λ rows h. released_list.IsShown-releases_as_join db s held e rows h) (λ r v hr hv kept.
    let named = IsNamed-version db s held readable v hv in
    let shown : Row = eval_all (col 2 in_versions.pacticipant ∷ col 2 in_versions.version ∷ []) ([] ∷ r ∷ v ∷ []) in
    (IsNameAt-of_column shown 0 (text in_versions.pacticipant v) (omega arith) (column-version_pacticipant db held.broker v hv) named.0, IsNameAt-of_column shown 1 (text in_versions.version v) (omega arith) (names db held.broker v hv) named.1))

pub EachReads-release_numbers : (e : List ℕ) (db : Database) → EachReads (released_list.release_numbers e) db ReadsAsMarked
EachReads-release_numbers e db s held readable = EachShown-of_joined (released_list.release_numbers e) db _ (λ rows h. released_list.IsShown-release_numbers_as_join db s held e rows h) (λ r v hr hv kept.
    let number = IsLowAt-released_number db s held readable r hr in
    let shown : Row = eval_all (col 1 in_released.version_number ∷ col 2 in_versions.pacticipant ∷ []) ([] ∷ r ∷ v ∷ []) in
    (IsNumberAt-of_column shown 0 (whole_at in_released.version_number r) (omega arith) number.0 number.1, IsNameAt-of_column shown 1 (text in_versions.pacticipant v) (omega arith) (column-version_pacticipant db held.broker v hv) (IsNamed-version db s held readable v hv).0))

-- ---- the names of a version

pub EachReads-names_of : (n : ℕ) (db : Database) → EachReads (names_of n) db ReadsAsReleased
EachReads-names_of n db s held readable = EachShown-of_table (names_of n) db _ (λ v has kept.
    let named = IsNamed-version db s held readable v has in
    let shown : Row = shows name_project [] v in
    (IsNameAt-of_column shown 0 (text in_versions.pacticipant v) (omega arith) (column-version_pacticipant db held.broker v has) named.0, IsNameAt-of_column shown 1 (text in_versions.version v) (omega arith) (names db held.broker v has) named.1))

-- ---- the contracts of what is there

module _ (e p : List ℕ) (db : Database) (s : Broker) (held : Holds db s) (readable : IsReadable s) where
  abbrev params : Row
  params = Text e ∷ Text p ∷ []

  -- what is shown of a row beside its contract, or NULL
  abbrev if_any_row : Row → Row → Row
  if_any_row r c = eval_all if_any (params ∷ r ∷ c ∷ [])

  ReadsAsContractIfAny-row : (r c : Row) → Has (db.trees in_deployed.tree) r → Has (db.trees in_contracts.tree) c × (list_all (holds (params ∷ r ∷ c ∷ [])) ons ≡ true) ⊎ (c ≡ [])
      → ReadsAsContractIfAny (if_any_row r c)
  ReadsAsContractIfAny-row r c hr beside =
      let number = IsLowAt-deployed_number db s held readable r hr in (
        IsNumberAt-of_column (if_any_row r c) 0 (whole_at in_deployed.version_number r) (omega arith) number.0 number.1,
        elim beside [
          | inl with ↦ let content = IsLowAt-contract_content db s held readable c with.0 in inr (IsNumberAt-of_column (if_any_row r c) 2 (whole_at in_contracts.content c) (omega arith) content.0 content.1)
          | inr null ↦ inl (ap (λ q. column q in_contracts.version_number) null)
        ],
      )

  pub EachShown-ReadsAsContractIfAny : EachShown (of_deployed e p) db ReadsAsContractIfAny
  EachShown-ReadsAsContractIfAny rows h row has =
      let it = rows-of_env db params in_deployed.tree in_contracts.tree ons in_environment if_any [] rows h row has in
      subst ReadsAsContractIfAny (sym it.5) (ReadsAsContractIfAny-row it.0 it.1 it.2 it.3)

-- each row that a JOIN with contracts shows
pub EachReads-contracts : {sql : List ℕ} {params : Row} {terms : List Term} {t : ℕ} (asked : TableQuery sql params (from_both t in_contracts.tree terms project []))
    (db : Database) → EachReads asked db ReadsAsNumbers
EachReads-contracts asked db s held readable = EachShown-of_both asked db _ (λ r c hr hc kept.
    let number = IsLowAt-contract_version db s held readable c hc in
    let content = IsLowAt-contract_content db s held readable c hc in
    let shown : Row = eval_all project ([] ∷ r ∷ c ∷ []) in (
      IsNumberAt-of_column shown 0 (whole_at in_contracts.version_number c) (omega arith) number.0 number.1,
      IsNumberAt-of_column shown 1 (whole_at in_contracts.content c) (omega arith) content.0 content.1,
    ))
