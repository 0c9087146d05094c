-- The contracts with a provider of the versions that are in an environment: rows of deployed, each beside the contract
-- of its version or NULL, and rows of released that have one.
use Rattle.std.specs.{Prelude.{Contains, ◌↔◌, filter_map}, List.{list_all}}
use Rattle.std.proofs.Common.{◌≡◌, ◌++◌, inl, inr, ℕ, ℤ, pos, codes, List, [], ◌∷◌, Bool, true, refl, sym, ap, subst, ◌∙◌, Option, Some, None}
use Rattle.sqlite_rules.specs.Lists.{Has}
use Rattle.sqlite_tied.specs.Compute.{everything}
use Rattle.broker_tables.specs.{Schema.{in_versions, in_contracts, in_deployed, in_released}, Numbers.{number_of}, Holds.{Holds}}
use Rattle.broker_tables.proofs.{TableQuery.{TableQuery, IsShown}, VersionRows.{binary-Eq_same_Int, binary-Eq_same_Text, number_of-version_row}}
use Rattle.broker_tables.proofs.{References.{references-version}, Listed.{AreRead-sound, AreRead-complete}, Placed.{contracts, at_contracts, listed}}
use Rattle.deploy_tables.specs.declared.contracts_there.NumberedContract.{NumberedContract}
use Rattle.deploy_tables.specs.ContractsThere.{IsDeployedIn, IsReleasedIn, IsContractThere, ReportsContracts, ReportsContractsIfAny, IsNumberedRow, IsContractIfAny}
use Rattle.deploy_tables.proofs.{DeployedState.{Names-IsDeployedIn}, LeftRows.{from_left_by, rows-has_env, rows-of_env, beside-has}}
use Rattle.deploy_tables.proofs.{ReleasedRows.{Names-IsReleasedIn}, VersionRows.{pos-injective, Names, in_environment}, MatrixLoop.{iff-trans, Contains-append}}
use Rattle.contract_tables.proofs.{ItemLists.{and-two_tests, and-true_test}, JoinRows.{items-of_kept_pair, items-has_kept_pair}}
use Rattle.sqlite.specs.{Edit.{id_in}, declared.types.Value.TheVariants.{Null, Int, Text}, Order.{Row, column}, Term.{Term, col, op2, holds, eval_all}}
use Rattle.sqlite.specs.{Query.{Query}, Collation.TheVariants.{Binary}, Effect.{Database}, Listing.{understood}}
use Rattle.sqlite_sql.specs.{declared.ops.BinaryOp.TheVariants.{Compare}, declared.ops.CompareOp.TheVariants.{Eq}}
use Rattle.table_access.{specs.{Columns.{text, whole_at}, Statements.{from_both, keeps_both}, Reading.{AreRead}}, proofs.Members.{pairs-sound, pairs-complete}}
use Rattle.broker_core.specs.{declared.command.Version.{Version}, Text.{Text as Words, version}, State.{State as Broker}, Gate.{IsPresent}}
use Rattle.broker_core.proofs.Lists.{Contains-from_filter_map, Contains-filter_map}
use Rattle.contract_tables.proofs.ContractRows as contract_rows

-- ---- the two statements

-- the contract's version is the one at this place
abbrev of_version : ℕ → Term
of_version place = op2 (Compare Eq Binary) (col 2 in_contracts.version_number) (col 1 place)

-- the provider and the environment are the parameters. The environment is at the same place in deployed and in released
abbrev with_provider : Term
with_provider = op2 (Compare Eq Binary) (col 2 in_contracts.provider) (col 0 1)

abbrev terms : List Term
terms = of_version in_released.version_number ∷ op2 (Compare Eq Binary) (col 1 in_released.environment) (col 0 0) ∷ with_provider ∷ []

abbrev pub project : List Term
project = col 2 in_contracts.version_number ∷ col 2 in_contracts.content ∷ []

abbrev pub ons : List Term
ons = of_version in_deployed.version_number ∷ with_provider ∷ []

abbrev pub if_any : List Term
if_any = col 1 in_deployed.version_number ∷ col 2 in_contracts.version_number ∷ col 2 in_contracts.content ∷ []

abbrev pub if_any_sql : List ℕ
if_any_sql = codes "SELECT d.version_number, c.version_number, c.content FROM deployed d LEFT JOIN contracts c ON c.version_number = d.version_number AND c.provider = ?2 WHERE d.environment = ?1"

abbrev pub if_any_query : Query
if_any_query = from_left_by in_deployed.tree in_contracts.tree ons in_environment if_any []

pub of_deployed : (e p : Words) → TableQuery if_any_sql (Text e ∷ Text p ∷ []) if_any_query
unfolding understood everything
of_deployed e p = record { names = _; means = record { is = refl; plain = (refl, refl); unlisted = refl }; runs = record { whole = refl; typed = refl; sumless = refl } }

pub of_released : (e p : Words)
    → TableQuery (codes "SELECT c.version_number, c.content FROM released r JOIN contracts c ON c.version_number = r.version_number WHERE r.environment = ?1 AND c.provider = ?2")
    (Text e ∷ Text p ∷ []) (from_both in_released.tree in_contracts.tree terms project [])
unfolding understood everything
of_released e p = record { names = _; means = record { is = refl; plain = (refl, refl); unlisted = refl }; runs = record { whole = refl; typed = refl; sumless = refl } }

-- ---- rows of a table that name an environment and a version, joined with the contracts

-- the same contract
NumberedContract-same : (x y : NumberedContract) → pos y.number ≡ pos x.number → pos y.content ≡ pos x.content → y ≡ x
NumberedContract-same x y number content i = record { number = pos-injective y.number x.number number i; content = pos-injective y.content x.content content i }

-- a number is read first, even if there is no contract
pub IsContractIfAny-first_number : (row : Row) (found : Option NumberedContract) → IsContractIfAny row found → (n : ℕ) × (column row 0 ≡ Int (pos n))
IsContractIfAny-first_number row None read = read.0
IsContractIfAny-first_number row (Some x) read = (x.number, read.0)

-- what is read of the row of a contract is that contract
IsContractIfAny-Some : (row : Row) (x : NumberedContract) (n : ℤ) (found : Option NumberedContract) → column row 1 ≡ Int n → id_in (column row 0) ≡ pos x.number
    → id_in (column row 2) ≡ pos x.content → IsContractIfAny row found → found ≡ Some x
IsContractIfAny-Some row x n None there number content read = let clash : Null ≡ Int n = sym read.1 ∙ there in absurd cc
IsContractIfAny-Some row x n (Some y) there number content read = ap Some (NumberedContract-same x y (sym (ap id_in read.0) ∙ number) (sym (ap id_in read.2) ∙ content))

module _ (db : Database) (s : Broker) (held : Holds db s) (e p : Words) where
  abbrev params : Row
  params = Text e ∷ Text p ∷ []

  -- what a row of a contract says: its version is there
  contracts-version_of_row : (c : Row) → Has (db.trees in_contracts.tree) c → text in_contracts.provider c ≡ p → (w : Version) × ((n : ℕ) × (number_of s.versions w ≡ Some n) × (whole_at in_contracts.version_number c ≡ pos n) × ((content : ℕ) → whole_at in_contracts.content c ≡ pos content → s.contracts (w, p) ≡ Some content))
  contracts-version_of_row c has provider =
      let v = references-version db held.broker contracts (listed at_contracts db held.broker) in_contracts.version_number (inl refl) c has (contract_rows.column-contract_version_number db held.broker c has) in
      let it = number_of-version_row db held.broker s.versions held.versions v.0 v.1 in
      let w = version (text in_versions.pacticipant v.0) (text in_versions.version v.0) in
      let number : whole_at in_contracts.version_number c ≡ pos it.0 = sym v.2 ∙ it.2 in
      (w, (it.0, it.1, number, λ content value. contract_rows.contracts-of_row db s held w it.0 it.1 c p content has number provider value))

  -- what is tested of a contract
  holds-with_provider : (r c : Row) → Has (db.trees in_contracts.tree) c → (holds (params ∷ r ∷ c ∷ []) with_provider ≡ true) ↔ (text in_contracts.provider c ≡ p)
  holds-with_provider r c has = binary-Eq_same_Text (column c in_contracts.provider) (Text p) (text in_contracts.provider c) p (contract_rows.column-contract_provider db held.broker c has) refl

  module _ (t place : ℕ) (Is : Version → Type 0) (names : Names db s t place e Is) where
    is_of_version : (r c : Row) → Has (db.trees t) r → Has (db.trees in_contracts.tree) c
        → (holds (params ∷ r ∷ c ∷ []) (of_version place) ≡ true) ↔ (whole_at in_contracts.version_number c ≡ whole_at place r)
    is_of_version r c hr hc =
        binary-Eq_same_Int (column c in_contracts.version_number) (column r place) (whole_at in_contracts.version_number c) (whole_at place r)
        (contract_rows.column-contract_version_number db held.broker c hc) (names.numbers r hr)

    is_there : (r c : Row) → Has (db.trees t) r → (holds (params ∷ r ∷ c ∷ []) (op2 (Compare Eq Binary) (col 1 in_deployed.environment) (col 0 0)) ≡ true) ↔ (text in_deployed.environment r ≡ e)
    is_there r c has = binary-Eq_same_Text (column r in_deployed.environment) (Text e) (text in_deployed.environment r) e (names.environments r has) refl

    -- the two rows of a contract
    contract_there : (x : NumberedContract) (r c : Row) → Has (db.trees t) r → Has (db.trees in_contracts.tree) c → whole_at in_contracts.version_number c ≡ whole_at place r
        → text in_deployed.environment r ≡ e → text in_contracts.provider c ≡ p → whole_at place r ≡ pos x.number → whole_at in_contracts.content c ≡ pos x.content → IsContractThere s p Is x
    contract_there x r c hr hc same there provider number content =
        let of = contracts-version_of_row c hc provider in
        let known = of.1.1 ∙ ap Some (pos-injective of.1.0 x.number (sym of.1.2 ∙ same ∙ number)) in
        (of.0, names.row_is r of.0 x.number hr there known number, known, of.1.3 x.content content)

    there_contract : (x : NumberedContract) → IsContractThere s p Is x
        → (r c : Row) × Has (db.trees t) r × Has (db.trees in_contracts.tree) c × (text in_deployed.environment r ≡ e) × (whole_at place r ≡ pos x.number)
        × (whole_at in_contracts.version_number c ≡ pos x.number) × (text in_contracts.provider c ≡ p) × (whole_at in_contracts.content c ≡ pos x.content)
    there_contract x is =
        let r = names.is_row is.0 x.number is.2 is.1 in
        let c = contract_rows.contracts-has_content_row db s held is.0 x.number is.2 p x.content is.3 in
        (r.0, c.0, r.1, c.1, r.2, r.3, c.2, c.3, c.4)

  -- what is deployed, beside its contract or NULL
  abbrev deployed : Names db s in_deployed.tree in_deployed.version_number e (IsDeployedIn s e)
  deployed = Names-IsDeployedIn db s held e

  list_all-holds_ons : (r c : Row) → Has (db.trees in_deployed.tree) r → Has (db.trees in_contracts.tree) c
      → (list_all (holds (params ∷ r ∷ c ∷ [])) ons ≡ true) ↔ ((whole_at in_contracts.version_number c ≡ whole_at in_deployed.version_number r) × (text in_contracts.provider c ≡ p))
  list_all-holds_ons r c hr hc = and-two_tests (is_of_version in_deployed.tree in_deployed.version_number (IsDeployedIn s e) deployed r c hr hc) (and-true_test (holds-with_provider r c hc))

  list_all-holds_in_environment : (r c : Row) → Has (db.trees in_deployed.tree) r → (list_all (holds (params ∷ r ∷ c ∷ [])) in_environment ≡ true) ↔ (text in_deployed.environment r ≡ e)
  list_all-holds_in_environment r c has = and-true_test (is_there in_deployed.tree in_deployed.version_number (IsDeployedIn s e) deployed r c has)

  pub ReportsContractsIfAny-deployed : (rows : List Row) (items : List (Option NumberedContract)) → IsShown (of_deployed e p) db rows → AreRead IsContractIfAny rows items
      → ReportsContractsIfAny s p (IsDeployedIn s e) items
  ReportsContractsIfAny-deployed rows items h read x = (
    λ c.
        let row = AreRead-sound IsContractIfAny rows items (Some x) read c in
        let it = rows-of_env db params in_deployed.tree in_contracts.tree ons in_environment if_any [] rows h row.0 row.1 in
        elim it.3 [
          | inl with ↦
              let join = (list_all-holds_ons it.0 it.1 it.2 with.0).0 with.1 in
              contract_there in_deployed.tree in_deployed.version_number (IsDeployedIn s e) deployed x it.0 it.1 it.2 with.0 join.0 ((list_all-holds_in_environment it.0 it.1 it.2).0 it.4) join.1
              (ap id_in (sym (ap (λ row. column row 0) it.5) ∙ row.2.0)) (ap id_in (sym (ap (λ row. column row 2) it.5) ∙ row.2.2))
          | inr null ↦ absurd (row.2.1 (ap (λ row. column row 1) it.5 ∙ ap (λ row. column row in_contracts.version_number) null))
        ],
    λ is.
        let it = there_contract in_deployed.tree in_deployed.version_number (IsDeployedIn s e) deployed x is in
        let beside = beside-has db params in_deployed.tree in_contracts.tree ons in_environment if_any [] rows h it.0 it.1 it.3 ((list_all-holds_ons it.0 it.1 it.2 it.3).1 (it.6 ∙ sym it.5, it.7)) in
        let shown = rows-has_env db params in_deployed.tree in_contracts.tree ons in_environment if_any [] rows h it.0 it.1 it.2 beside ((list_all-holds_in_environment it.0 it.1 it.2).1 it.4) in
        let y = AreRead-complete IsContractIfAny rows items (eval_all if_any (params ∷ it.0 ∷ it.1 ∷ [])) read shown in
        subst (Contains items) (IsContractIfAny-Some (eval_all if_any (params ∷ it.0 ∷ it.1 ∷ [])) x (whole_at in_contracts.version_number it.1) y.0
        (contract_rows.column-contract_version_number db held.broker it.1 it.3) it.5 it.8 y.2) y.1,
  )

  -- what is released, joined with its contract
  abbrev released : Names db s in_released.tree in_released.version_number e (IsReleasedIn s e)
  released = Names-IsReleasedIn db s held e

  abbrev joins : Row → Row → Bool
  joins = keeps_both terms params

  joins-parts : (r c : Row) → Has (db.trees in_released.tree) r → Has (db.trees in_contracts.tree) c
      → (joins r c ≡ true) ↔ ((whole_at in_contracts.version_number c ≡ whole_at in_released.version_number r) × ((text in_released.environment r ≡ e) × (text in_contracts.provider c ≡ p)))
  joins-parts r c hr hc =
      and-two_tests (is_of_version in_released.tree in_released.version_number (IsReleasedIn s e) released r c hr hc)
      (and-two_tests (is_there in_released.tree in_released.version_number (IsReleasedIn s e) released r c hr) (and-true_test (holds-with_provider r c hc)))

  pub ReportsContracts-released : (rows : List Row) (items : List NumberedContract) → IsShown (of_released e p) db rows → AreRead IsNumberedRow rows items → ReportsContracts s p (IsReleasedIn s e) items
  ReportsContracts-released rows items h read x = (
    λ c.
        let q = items-of_kept_pair db params terms project IsNumberedRow rows items read in_released.tree in_contracts.tree h x c in
        let it = pairs-sound joins (db.trees in_contracts.tree) (db.trees in_released.tree) q.0 q.1 in
        let join = (joins-parts q.0.0 q.0.1 it.0 it.1).0 it.2 in
        contract_there in_released.tree in_released.version_number (IsReleasedIn s e) released x q.0.0 q.0.1 it.0 it.1 join.0 join.1.0 join.1.1 (sym join.0 ∙ ap id_in q.2.0) (ap id_in q.2.1),
    λ is.
        let it = there_contract in_released.tree in_released.version_number (IsReleasedIn s e) released x is in
        let kept = pairs-complete joins (db.trees in_contracts.tree) (db.trees in_released.tree) it.0 it.1 it.2 it.3 ((joins-parts it.0 it.1 it.2 it.3).1 (it.6 ∙ sym it.5, (it.4, it.7))) in
        let y = items-has_kept_pair db params terms project IsNumberedRow rows items read in_released.tree in_contracts.tree h (it.0, it.1) kept in
        subst (Contains items) (NumberedContract-same x y.0 (sym (ap id_in y.2.0) ∙ it.6) (sym (ap id_in y.2.1) ∙ it.8)) y.1,
  )

-- ---- those that there are

pub ReportsContracts-filter_map : (s : Broker) (p : Words) (Is : Version → Type 0) (found : List (Option NumberedContract)) (those : List NumberedContract) → those ≡ filter_map (λ one. one) found
    → ReportsContractsIfAny s p Is found → ReportsContracts s p Is those
ReportsContracts-filter_map s p Is found those are returned x = iff-trans (
  λ c.
      let it = Contains-from_filter_map (λ one. one) found x (subst (λ xs. Contains xs x) are c) in
      subst (Contains found) it.2 it.1,
  λ c. subst (λ xs. Contains xs x) (sym are) (Contains-filter_map (λ one. one) found (Some x) x c refl),
) (returned x)

-- ---- both

pub ReportsContracts-append : (s : Broker) (e p : Words) (one two all : List NumberedContract) → ReportsContracts s p (IsDeployedIn s e) one → ReportsContracts s p (IsReleasedIn s e) two → all ≡ one ++ two → ReportsContracts s p (IsPresent s e) all
ReportsContracts-append s e p one two all is_one is_two same x = iff-trans (Contains-append one two all same x (is_one x) (is_two x)) (
  λ found. elim found [ inl first ↦ (first.0, inl first.1, first.2, first.3) | inr second ↦ (second.0, inr second.1, second.2, second.3) ],
  λ is. elim is.1 [ inl there ↦ inl (is.0, there, is.2, is.3) | inr there ↦ inr (is.0, there, is.2, is.3) ],
)
