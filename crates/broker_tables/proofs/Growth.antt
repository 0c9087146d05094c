-- What a new version leaves of the state that the database holds.
use Rattle.std.specs.{Prelude.{option_map, option_and_then}, Option.{option_map_or}, List.{enumerate_from}, Ordering.{is_eq, int_cmp, eq_by_cmp, ordering_then}}
use Rattle.std.proofs.Common.{◌≡◌, ℕ, ℤ, pos, ◌+◌, List, [], ◌∷◌, ◌++◌, map, length, false, cond, ◌||◌, refl, sym, ap, ◌∙◌, Some, None, Option, codes, inl, inr, Ordering, Equal}
use Rattle.sqlite.specs.{Order.{Row}, Effect.{Database}, Table.{Table}}
use Rattle.sqlite_rules.specs.Lists.{Has}
use Rattle.table_access.specs.Columns.{text, text_cmp, whole_at, by_both}
use Rattle.broker_core.specs.{declared.command.Version.{Version}, Text.{Text, version}, State.{State as Broker, Verification}, Request.{is_known}}
use Rattle.broker_tables.specs.Schema.{numbers, to, in_branches, in_contracts, in_results, in_latest, in_deployed, in_released}
use Rattle.broker_tables.specs.{Rows.{rows_of, value_at, has_row_at}, Numbers.{numbered, number_of}}
use Rattle.broker_tables.specs.Holds.{Holds, AreVersions, AreBranches, AreContracts, AreResults, AreLatest, AreDeployed, AreReleased, ResultRow, result_in, result_of}
use Rattle.broker_tables.proofs.{Frames.{Frame, Holds-next, same}, NumberLemmas.{number_of-append_unseen, number_of-append_same as stays_numbered}}
use Rattle.broker_tables.proofs.References.{references-not_next_version}
use Rattle.broker_tables.proofs.Placed.{Placed, at_branches, at_contracts, at_latest, at_released, column_at, listed, column-whole_numbers}

-- ---- no row has the key

module _ {K V : Type 0} (R : K → K → Ordering) (key : Row → K) (value : Row → V) (k : K) where
  -- no row has a key, if no row's key ties with it
  pub has_row_at-none : (rows : List Row) → ((r : Row) → Has rows r → eq_by_cmp R k (key r) ≡ false) → has_row_at R key rows k ≡ false
  has_row_at-none [] apart = refl
  has_row_at-none (r ∷ rows) apart = ap (λ b. b || has_row_at R key rows k) (apart r (inl refl)) ∙ has_row_at-none rows (λ x has. apart x (inr has))

  pub value_at-none : (rows : List Row) → ((r : Row) → Has rows r → eq_by_cmp R k (key r) ≡ false) → value_at R key value rows k ≡ None
  value_at-none [] apart = refl
  value_at-none (r ∷ rows) apart = ap (λ b. cond b (Some (value r)) (value_at R key value rows k)) (apart r (inl refl)) ∙ value_at-none rows (λ x has. apart x (inr has))

ordering_then-first_apart : (x y : Ordering) → is_eq x ≡ false → is_eq (ordering_then x y) ≡ false
ordering_then-first_apart Equal y e = absurd cc
ordering_then-first_apart _ y e = refl

ordering_then-second_apart : (x y : Ordering) → is_eq y ≡ false → is_eq (ordering_then x y) ≡ false
ordering_then-second_apart Equal y e = e
ordering_then-second_apart _ y e = refl

-- ---- results name versions that are there

module _ (versions : List Version) (v : Version) (checked : List Row) where
  result_of-append : (r : Row) (q : Verification) → result_in checked r ≡ result_of versions q → result_of versions q ≡ result_of (versions ++ v ∷ []) q
  result_of-append r q is = go (number_of versions q.version) refl
    where
      go : (o : Option ℕ) → number_of versions q.version ≡ o → result_of versions q ≡ result_of (versions ++ v ∷ []) q
      go None e = absurd (let there : Some (whole_at in_results.provider_version r) ≡ option_map pos (number_of versions q.version) = ap (λ (x : ResultRow). x.version) is in let none : Some (whole_at in_results.provider_version r) ≡ None = there ∙ ap (option_map pos) e in cc)
      go (Some k) e = ap (λ (o : Option ℤ). record (result_of versions q) { version = o }) (ap (option_map pos) e ∙ ap (option_map pos) (sym (stays_numbered versions v q.version k e)))

  result_of-append_each : (n : ℕ) (rows : List Row) (rs : List Verification) → map {B = ℤ × ResultRow} (λ r. (whole_at in_results.number r, result_in checked r)) rows ≡ map (λ e. (pos e.0, e.1)) (enumerate_from n (map (result_of versions) rs))
      → map (result_of versions) rs ≡ map (result_of (versions ++ v ∷ [])) rs
  result_of-append_each n rows [] is = refl
  result_of-append_each n [] (q ∷ rs) is = absurd (let e = is in cc)
  result_of-append_each n (r ∷ rows) (q ∷ rs) is =
      let pair : ◌≡◌ {A = ℤ × ResultRow} (whole_at in_results.number r, result_in checked r) (pos n, result_of versions q) = cc in
      let later : map {B = ℤ × ResultRow} (λ r. (whole_at in_results.number r, result_in checked r)) rows ≡ map (λ e. (pos e.0, e.1)) (enumerate_from (n + 1) (map (result_of versions) rs)) = cc in
      λ i. result_of-append r q (ap (λ (x : ℤ × ResultRow). x.1) pair) i ∷ result_of-append_each (n + 1) rows rs later i

-- ---- each table that names versions

module _ (db : Database) (s : Broker) (held : Holds db s) (v : Version) (free : is_known s v ≡ false) where
  abbrev next : ℕ
  next = length s.versions + 1

  -- no row of a table names the next version
  apart : {t : Table} (at : Placed t) (place : ℕ) {name : List ℕ} → column_at t place ≡ Some (numbers name) → Has t.references (to place (codes "versions") (codes "number"))
      → (r : Row) → Has (db.trees t.tree) r → is_eq (int_cmp (pos next) (whole_at place r)) ≡ false
  apart {t} at place is among r has =
      references-not_next_version db held.broker s.versions held.versions t (listed at db held.broker) place among r has (column-whole_numbers at db held.broker place is r has)

  abbrev more : List Version
  more = s.versions ++ v ∷ []

  AreBranches-append_version : AreBranches more s.branches (rows_of db (codes "branches"))
  AreBranches-append_version w b =
      number_of-append_unseen (λ o. option_map_or (λ n. has_row_at (by_both int_cmp text_cmp) (λ r. (whole_at in_branches.version_number r, text in_branches.branch r)) (db.trees in_branches.tree) (pos n, b)) o false) s.versions v w free
      (has_row_at-none (by_both int_cmp text_cmp) (λ r. (whole_at in_branches.version_number r, text in_branches.branch r)) (text in_branches.branch) (pos next, b)
      (db.trees in_branches.tree)
      (λ r has. ordering_then-first_apart _ _ (apart at_branches in_branches.version_number refl (inl refl) r has)))
      ∙ held.branches w b

  AreContracts-append_version : AreContracts more s.contracts (rows_of db (codes "contracts"))
  AreContracts-append_version w p =
      number_of-append_unseen (λ o. option_and_then (λ n. value_at (by_both int_cmp text_cmp) (λ r. (whole_at in_contracts.version_number r, text in_contracts.provider r)) (whole_at in_contracts.content) (db.trees in_contracts.tree) (pos n, p)) o) s.versions v w free
      (value_at-none (by_both int_cmp text_cmp) (λ r. (whole_at in_contracts.version_number r, text in_contracts.provider r)) (whole_at in_contracts.content)
      (pos next, p) (db.trees in_contracts.tree)
      (λ r has. ordering_then-first_apart _ _ (apart at_contracts in_contracts.version_number refl (inl refl) r has)))
      ∙ held.contracts w p

  AreResults-append_version : AreResults more s.results (rows_of db (codes "results")) (rows_of db (codes "checked_results"))
  AreResults-append_version = held.results ∙ ap numbered (result_of-append_each s.versions v (rows_of db (codes "checked_results")) 1 (rows_of db (codes "results")) s.results held.results)

  AreLatest-append_version : AreLatest (record s { versions = more }) (rows_of db (codes "latest"))
  AreLatest-append_version content w =
      number_of-append_unseen (λ o. option_and_then (λ n. value_at (by_both int_cmp int_cmp) (λ r. (whole_at in_latest.content r, whole_at in_latest.provider_version r)) (whole_at in_latest.result) (db.trees in_latest.tree) (pos content, pos n)) o) s.versions v w free
      (value_at-none (by_both int_cmp int_cmp) (λ r. (whole_at in_latest.content r, whole_at in_latest.provider_version r)) (whole_at in_latest.result) (pos content, pos next) (db.trees in_latest.tree)
      (λ r has. ordering_then-second_apart _ _ (apart at_latest in_latest.provider_version refl (inr (inl refl)) r has)))
      ∙ held.latest content w

  AreDeployed-append_version : AreDeployed more s.deployed (rows_of db (codes "deployed"))
  AreDeployed-append_version e p instance = go (s.deployed (e, p, instance)) (held.deployed e p instance)
    where
      found : Option ℤ
      found = value_at (by_both text_cmp (by_both text_cmp text_cmp)) (λ r. (text in_deployed.environment r, (text in_deployed.pacticipant r, text in_deployed.instance r))) (whole_at in_deployed.version_number) (db.trees in_deployed.tree) (e, (p, instance))

      inner : (o : Option ℤ) (name : Text) (k : Option ℕ) → number_of s.versions (version p name) ≡ k → option_map Some o ≡ Some (option_map pos k) → option_map Some o ≡ Some (option_map pos (number_of more (version p name)))
      inner None name k e is = absurd cc
      inner (Some x) name None e is = absurd cc
      inner (Some x) name (Some k) e is = is ∙ ap (λ t. Some (option_map pos t)) (sym (stays_numbered s.versions v (version p name) k e))

      go : (d : Option Text) → option_map Some found ≡ option_map (λ name. option_map pos (number_of s.versions (version p name))) d → option_map Some found ≡ option_map (λ name. option_map pos (number_of more (version p name))) d
      go None is = is
      go (Some name) is = inner found name (number_of s.versions (version p name)) refl is

  AreReleased-append_version : AreReleased more s.released (rows_of db (codes "released"))
  AreReleased-append_version e w =
      number_of-append_unseen (λ o. option_map_or (λ n. has_row_at (by_both text_cmp int_cmp) (λ r. (text in_released.environment r, whole_at in_released.version_number r)) (db.trees in_released.tree) (e, pos n)) o false) s.versions v w free
      (has_row_at-none (by_both text_cmp int_cmp) (λ r. (text in_released.environment r, whole_at in_released.version_number r)) (text in_released.environment)
      (e, pos next) (db.trees in_released.tree)
      (λ r has. ordering_then-second_apart _ _ (apart at_released in_released.version_number refl (inr (inl refl)) r has)))
      ∙ held.released e w

-- a version that wasn't there gets the next number, and nothing else changes
pub Holds-append_version : (old new : Database) (s : Broker) (v : Version) → Holds old s → is_known s v ≡ false → Frame (codes "versions" ∷ []) old new → AreVersions (s.versions ++ v ∷ []) (rows_of new (codes "versions"))
    → Holds new (record s { versions = s.versions ++ v ∷ [] })
Holds-append_version old new s v held free frame is = Holds-next (codes "versions" ∷ []) old new s _ held frame (
  same,
  same,
  same,
  is,
  λ h. AreBranches-append_version old s held v free,
  same,
  same,
  same,
  λ h. AreContracts-append_version old s held v free,
  λ h. AreResults-append_version old s held v free,
  λ h. AreLatest-append_version old s held v free,
  λ h. AreDeployed-append_version old s held v free,
  λ h. AreReleased-append_version old s held v free,
)
