-- The rows of each query of these tables can be read, if the state that the database holds can; and there is none for a
-- number that no version has.
use Rattle.std.proofs.Common.{◌≡◌, ◌∙◌, ◌≤◌, inl, inr, ℕ, pos, List, [], ◌∷◌, Some, true, refl, sym, ap, subst, arith}
use Rattle.sqlite.specs.{declared.types.Value.TheVariants.{Int}, Order.{Row, column}, Term.{Term, col, op2, eval_all}, Effect.{Database}}
use Rattle.sqlite.specs.Collation.TheVariants.{Binary}
use Rattle.sqlite_rules.{specs.Lists.{Has}, proofs.TableLemmas.{int_is}}
use Rattle.sqlite_sql.specs.{declared.ops.BinaryOp.TheVariants.{Compare}, declared.ops.CompareOp.TheVariants.{Eq}, Ops.{binary, is_true}}
use Rattle.sqlite_value.specs.declared.keys.Key.{Key}
use Rattle.sqlite_keyed.proofs.RuleLemmas.{first_of_both, second_of_both}
use Rattle.table_access.{specs.{Columns.{text, whole_at}, Reading.{IsNumberRow}, Statements.{shows, from_table, from_both}}, proofs.SoundLemmas.{at_has}}
use Rattle.table_access.proofs.Keys.{is_param}
use Rattle.broker_core.specs.{State.{State as Broker}, declared.command.Version.{Version}}
use Rattle.broker_tables.specs.{Schema.{in_versions, in_contracts, in_results, in_latest}, Holds.{Holds}, Readable.{IsReadable}, Numbers.{number_of}}
use Rattle.broker_tables.proofs.ReadableRows.{IsLow, IsNumberAt-of_column, IsNameAt-of_column, IsTruthAt-of_column, IsLow-result, to_version_low, to_content_low, to_result_low, IsNamed-version, IsNamed-reference, whole_at-pass_low}
use Rattle.broker_tables.proofs.Placed.{contracts, at_contracts, results, at_results, latest, at_latest, listed, column-whole_numbers}
use Rattle.broker_tables.proofs.{NoVersion.{references-not_unknown_version}, VersionRows.{column-version_pacticipant, names, binary-Eq_same_Int}}
use Rattle.broker_tables.proofs.TableQuery.{TableQuery, EachReads, NoneFor, EachShown-of_table, EachShown-of_both, EachShown-up_to, EachShown-IsNumberRow}
use Rattle.contract_tables.specs.{Listings.{ReadsAsMarked, ReadsAsNames}, VersionResults.{ReadsAsLatest}, Verified.{ReadsAsResult}}
use Rattle.contract_tables.proofs.ContractRows.{column-contract_version_number, contents, column-contract_provider, content, project, own, users_project, users}
use Rattle.contract_tables.proofs.ResultRows.{contents as latest_contents, versions, numbers as latest_numbers}
use Rattle.contract_tables.proofs.{VerifiedList.{project as verified_project, verifiers}, ListedResults.{returned_marks, returned_marks_project}}
use Rattle.contract_tables.proofs.VersionResults.{terms, order, passes_project, marks_project, marks, join, latest-pair_of_its_result}
use Rattle.contract_tables.proofs.ResultLookups.{IsNumbered-results, count, run_project, run}

-- ---- the columns of the tables

-- each row of a table has a low number at a place
abbrev pub IsLowAt : Database → ℕ → ℕ → Type 0
IsLowAt db tree place = (r : Row) → Has (db.trees tree) r → (column r place ≡ Int (whole_at place r)) × IsLow (whole_at place r)

module _ (db : Database) (s : Broker) (held : Holds db s) (readable : IsReadable s) where
  pub IsLowAt-contract_content : IsLowAt db in_contracts.tree in_contracts.content
  IsLowAt-contract_content r has = let it = contents db held.broker r has in (it, to_content_low db s held readable contracts (listed at_contracts db held.broker) 3 r has it (inr (inr (inl refl))))

  IsLowAt-result_number : IsLowAt db in_results.tree 0
  IsLowAt-result_number r has = (int_is (column r 0) (at_has _ (db.trees in_results.tree) r (IsNumbered-results db held.broker).1 has), IsLow-result db s held readable r has)

  IsLowAt-result_content : IsLowAt db in_results.tree in_results.content
  IsLowAt-result_content r has =
      let it : column r in_results.content ≡ Int (whole_at in_results.content r) = column-whole_numbers at_results db held.broker in_results.content refl r has in
      (it, to_content_low db s held readable results (listed at_results db held.broker) 2 r has it (inl refl))

  IsLowAt-result_version : IsLowAt db in_results.tree in_results.provider_version
  IsLowAt-result_version r has =
      let it : column r in_results.provider_version ≡ Int (whole_at in_results.provider_version r) = column-whole_numbers at_results db held.broker in_results.provider_version refl r has in
      (it, to_version_low db s held readable results (listed at_results db held.broker) in_results.provider_version r has it (inr (inr (inl refl))))

  column-result_pass : (r : Row) → Has (db.trees in_results.tree) r
      → (column r in_results.pass ≡ Int (whole_at in_results.pass r)) × ((n : ℕ) × (whole_at in_results.pass r ≡ pos n) × (n ≤ 1))
  column-result_pass r has = (column-whole_numbers at_results db held.broker in_results.pass refl r has, whole_at-pass_low db s held readable r has)

  IsLowAt-latest_content : IsLowAt db in_latest.tree in_latest.content
  IsLowAt-latest_content r has = let it = latest_contents db held.broker r has in (it, to_content_low db s held readable latest (listed at_latest db held.broker) 1 r has it (inl refl))

  IsLowAt-latest_result : IsLowAt db in_latest.tree in_latest.result
  IsLowAt-latest_result r has = let it = latest_numbers db held.broker r has in (it, to_result_low db s held readable latest (listed at_latest db held.broker) 3 r has it (inr (inr (inl refl))))

-- ---- contracts

pub EachReads-contract_content : (n : ℕ) (p : List ℕ) (db : Database) → EachReads (content n p) db IsNumberRow
EachReads-contract_content n p db s held readable = EachShown-IsNumberRow (content n p) db (IsLowAt-contract_content db s held readable)

pub EachReads-own_contracts : (n : ℕ) (db : Database) → EachReads (own n) db ReadsAsMarked
EachReads-own_contracts n db s held readable = EachShown-of_table (own n) db _ (λ r has kept.
    let it = IsLowAt-contract_content db s held readable r has in
    let provider = column-contract_provider db held.broker r has in
    let shown : Row = shows project [] r in (
      IsNumberAt-of_column shown 0 (whole_at in_contracts.content r) (omega arith) it.0 it.1,
      IsNameAt-of_column shown 1 (text in_contracts.provider r) (omega arith) provider (IsNamed-reference db s held readable contracts (listed at_contracts db held.broker) in_contracts.provider (inr (inl refl)) r has provider),
    ))

pub EachReads-users : (n : ℕ) (p : List ℕ) (db : Database) → EachReads (users n p) db ReadsAsNames
EachReads-users n p db s held readable = EachShown-of_both (users n p) db _ (λ c v hc hv kept.
    let named = IsNamed-version db s held readable v hv in
    let shown : Row = eval_all users_project ([] ∷ c ∷ v ∷ []) in (
      IsNameAt-of_column shown 0 (text in_versions.pacticipant v) (omega arith) (column-version_pacticipant db held.broker v hv) named.0,
      IsNameAt-of_column shown 1 (text in_versions.version v) (omega arith) (names db held.broker v hv) named.1,
    ))

-- ---- the latest results

-- a latest result with what it is said to be of, each joined row reads
module _ (db : Database) (s : Broker) (held : Holds db s) (readable : IsReadable s) where
  ReadsAsLatest-pair : (l r : Row) → Has (db.trees in_latest.tree) l → Has (db.trees in_results.tree) r
      → is_true (binary (Compare Eq Binary) (column r 0) (column l in_latest.result)) ≡ true → ReadsAsLatest (eval_all passes_project ([] ∷ l ∷ r ∷ []))
  ReadsAsLatest-pair l r hl hr test =
      let number = IsLowAt-result_number db s held readable r hr in
      let truth = column-result_pass db s held readable r hr in
      let of_latest = IsLowAt-latest_content db s held readable l hl in
      let of_content = IsLowAt-result_content db s held readable r hr in
      let of_version = IsLowAt-result_version db s held readable r hr in
      let joined = (binary-Eq_same_Int (column r 0) (column l in_latest.result) (whole_at 0 r) (whole_at in_latest.result l) number.0 (latest_numbers db held.broker l hl)).0 test in
      let pair = latest-pair_of_its_result db s held l r hl hr of_latest.1.0 of_latest.1.1 joined in
      let content = of_latest.0 ∙ ap Int (sym pair.0) ∙ sym of_content.0 in
      let named = versions db held.broker l hl in
      let version = named ∙ ap Int (sym pair.1) ∙ sym of_version.0 in
      let shown : Row = eval_all passes_project ([] ∷ l ∷ r ∷ []) in (
        (IsNumberAt-of_column shown 0 (whole_at 0 r) (omega arith) number.0 number.1, IsTruthAt-of_column shown 1 (whole_at in_results.pass r) (omega arith) truth.0 truth.1),
        (IsNumberAt-of_column shown 2 (whole_at in_latest.content l) (omega arith) of_latest.0 of_latest.1, IsNumberAt-of_column shown 3 (whole_at in_results.content r) (omega arith) of_content.0 of_content.1, content),
        (
          IsNumberAt-of_column shown 4 (whole_at in_latest.provider_version l) (omega arith) named (subst IsLow pair.1 of_version.1),
          IsNumberAt-of_column shown 5 (whole_at in_results.provider_version r) (omega arith) of_version.0 of_version.1,
          version,
        ),
      )

pub EachReads-pairs : {sql : List ℕ} {params : Row} {more : List Term} {by : List (Term × Key)}
    (asked : TableQuery sql params (from_both in_latest.tree in_results.tree (op2 (Compare Eq Binary) (col 2 0) (col 1 in_latest.result) ∷ more) passes_project by))
    (db : Database) → EachReads asked db ReadsAsLatest
EachReads-pairs asked db s held readable = EachShown-of_both asked db _ (λ l r hl hr kept. ReadsAsLatest-pair db s held readable l r hl hr (first_of_both _ _ kept))

pub EachReads-verifiers : (c : ℕ) (p : List ℕ) (db : Database) → EachReads (verifiers c p) db ReadsAsMarked
EachReads-verifiers c p db s held readable = EachShown-of_both (verifiers c p) db _ (λ l v hl hv kept.
    let number = IsLowAt-latest_result db s held readable l hl in
    let shown : Row = eval_all verified_project ([] ∷ l ∷ v ∷ []) in
    (IsNumberAt-of_column shown 0 (whole_at in_latest.result l) (omega arith) number.0 number.1, IsNameAt-of_column shown 1 (text in_versions.version v) (omega arith) (names db held.broker v hv) (IsNamed-version db s held readable v hv).1))

pub EachReads-marks : (n : ℕ) (db : Database) → EachReads (marks n) db IsNumberRow
EachReads-marks n db s held readable = EachShown-of_both (marks n) db _ (λ l r hl hr kept.
    let content = IsLowAt-latest_content db s held readable l hl in
    IsNumberAt-of_column (eval_all marks_project ([] ∷ l ∷ r ∷ [])) 0 (whole_at in_latest.content l) (omega arith) content.0 content.1)

pub EachReads-returned_marks : (c : ℕ) (db : Database) → EachReads (returned_marks c) db IsNumberRow
EachReads-returned_marks c db s held readable = EachShown-of_both (returned_marks c) db _ (λ l r hl hr kept.
    let number = IsLowAt-latest_result db s held readable l hl in
    IsNumberAt-of_column (eval_all returned_marks_project ([] ∷ l ∷ r ∷ [])) 0 (whole_at in_latest.result l) (omega arith) number.0 number.1)

-- ---- results

pub EachReads-result_count : (db : Database) → EachReads count db IsNumberRow
EachReads-result_count db s held readable = EachShown-up_to count db _ (λ r has kept. let it = IsLowAt-result_number db s held readable r has in IsNumberAt-of_column (shows (col 1 0 ∷ []) [] r) 0 (whole_at 0 r) (omega arith) it.0 it.1)

pub EachReads-run : (p u : List ℕ) (db : Database) → EachReads (run p u) db ReadsAsResult
EachReads-run p u db s held readable = EachShown-of_table (run p u) db _ (λ r has kept.
    let number = IsLowAt-result_number db s held readable r has in
    let of_content = IsLowAt-result_content db s held readable r has in
    let of_version = IsLowAt-result_version db s held readable r has in
    let truth = column-result_pass db s held readable r has in
    let shown : Row = shows run_project [] r in (
      IsNumberAt-of_column shown 0 (whole_at 0 r) (omega arith) number.0 number.1,
      IsNumberAt-of_column shown 1 (whole_at in_results.content r) (omega arith) of_content.0 of_content.1,
      IsNumberAt-of_column shown 2 (whole_at in_results.provider_version r) (omega arith) of_version.0 of_version.1,
      IsTruthAt-of_column shown 3 (whole_at in_results.pass r) (omega arith) truth.0 truth.1,
    ))

-- ---- no row is shown for a number that no version has

module _ (db : Database) (s : Broker) (held : Holds db s) (n : ℕ) (none : (v : Version) → ¬ (number_of s.versions v ≡ Some n)) where
  of_version : (r : Row) → Has (db.trees in_contracts.tree) r → is_true (binary (Compare Eq Binary) (column r in_contracts.version_number) (Int (pos n))) ≡ true
      → ⊥
  of_version r has = references-not_unknown_version db s held n none contracts (listed at_contracts db held.broker) in_contracts.version_number (inl refl) r has (column-contract_version_number db held.broker r has)

  of_latest : (r : Row) → Has (db.trees in_latest.tree) r → is_true (binary (Compare Eq Binary) (column r in_latest.provider_version) (Int (pos n))) ≡ true → ⊥
  of_latest r has = references-not_unknown_version db s held n none latest (listed at_latest db held.broker) in_latest.provider_version (inr (inl refl)) r has (versions db held.broker r has)

pub NoneFor-contracts : {sql : List ℕ} {params : Row} {n : ℕ} {more project : List Term} {by : List (Term × Key)}
    (asked : TableQuery sql (Int (pos n) ∷ params) (from_table in_contracts.tree (is_param in_contracts.version_number 0 ∷ more) project by)) (db : Database) → NoneFor asked db n
NoneFor-contracts {n = n} asked db s held none = EachShown-of_table asked db _ (λ r has kept. of_version db s held n none r has (first_of_both _ _ kept))

pub NoneFor-join : (c n : ℕ) (db : Database) → NoneFor (join c n) db n
NoneFor-join c n db s held none =
    EachShown-of_both (join c n) db _ (λ l r hl hr kept. of_latest db s held n none l hl (first_of_both _ _ (second_of_both _ _ (second_of_both _ _ kept))))

pub NoneFor-version_results : {sql : List ℕ} {u n : ℕ} {project : List Term} (asked : TableQuery sql (Int (pos n) ∷ []) (from_both in_latest.tree u terms project order))
    (db : Database) → NoneFor asked db n
NoneFor-version_results {n = n} asked db s held none =
    EachShown-of_both asked db _ (λ l r hl hr kept. of_latest db s held n none l hl (first_of_both _ _ (second_of_both _ _ kept)))
