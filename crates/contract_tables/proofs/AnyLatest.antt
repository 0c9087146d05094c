-- What the statements for latest results show wherever the broker's tables are there: the rows that are named, and what
-- is read of them.
use Rattle.std.specs.{Prelude.{Contains, IsSorted, option_map, is_some, ◌↔◌}, Ordering.{nat_cmp}}
use Rattle.std.proofs.Common.{◌≡◌, ◌≤◌, ◌∙◌, inl, inr, ℕ, zero, suc, pos, List, [], ◌∷◌, Bool, true, false, IsTrue, Option, Some, None, Result, IfOk, Ok, Err, slice_get, map, refl, sym, ap, subst, arith}
use Rattle.sqlite.specs.{declared.types.Value.{Value}, declared.types.Value.TheVariants.{Int}, Order.{Row, column}, Term.{Term, Env, col, eval, eval_all}}
use Rattle.sqlite.specs.{Collation.TheVariants.{Binary}, Effect.{Database}, State.{State, Shown, IsUnchanged}}
use Rattle.sqlite_sql.specs.{declared.ops.BinaryOp.TheVariants.{Compare}, declared.ops.CompareOp.TheVariants.{Eq}, declared.ops.UnaryOp.TheVariants.{ToNumeric}}
use Rattle.sqlite_sql.specs.Ops.{binary, unary, is_true}
use Rattle.sqlite_rules.specs.Lists.{Has}
use Rattle.table_access.specs.{declared.StoreFault.{StoreFault}, Reading.{AreRead, IsNumberAt, IsNumberRow, ReportsNumber, FailsToRead}}
use Rattle.table_access.{specs.Statements.{keeps_both}, proofs.Answered.{slice_get-has_first, pair_shown}}
use Rattle.table_access.proofs.Members.{pairs-complete, has_contains, contains_has}
use Rattle.broker_tables.specs.{Schema.{in_results, in_latest, in_checked_results}, Rows.{truth, truth_in, mark_of, IsTruthAt}}
use Rattle.broker_tables.specs.Asking.{HasBrokerTables, CanBeAsked}
use Rattle.broker_tables.proofs.AnyTables.{Shown-Answers_query, IsRefusedAs-ends, HasFailed-after_query, slice_get-None_empty, Shown-any_kept}
use Rattle.broker_tables.proofs.{Listed.{AreRead-sound, AreRead-complete}, VersionRows.{binary-Eq_same_Int}}
use Rattle.contract_tables.specs.{declared.version_results.ContentPass.{ContentPass}, declared.version_results.LatestResult.{LatestResult}}
use Rattle.contract_tables.specs.{Verified.{PassCells, pass_cells, pass_of}, VersionResults.{IsOfItsPair, IsPassRow, ReadsAsLatest, FailsAsLatest, marked}}
use Rattle.contract_tables.specs.LatestRows.{AreEqual, NamesFor, NamesResult, IsResultOf, IsSoundPair, IsPassIn, IsMarkedChecked, NamesChecked, IsCheckedFor, NamesPass, ArePassesIn, AreLatestIn, IsUnsoundFor, FailsAsListed, IsMarkedOf}
use Rattle.contract_tables.proofs.{ItemLists.{and-two_tests, and-true_test}, JoinRows.{pair_shown as shows_pair}}
use Rattle.contract_tables.proofs.VersionResults.{passes_project, marks_project, order}
use Rattle.contract_tables.proofs.AnyTexts.{given_to, pair_terms, version_terms, pair_sql, passes_sql, marks_sql, checked_sql, pair_params, one_param, AsksOf-pair_sql, AsksOf-passes_sql, AsksOf-marks_sql, AsksOf-checked_sql, is_strict}

-- ---- what ON and WHERE test

-- a parameter that is a whole number stays it
given_to-Int : (x : Bool) (t : Term) (env : Env) (c : ℕ) → eval t env ≡ Int (pos c) → eval (given_to x t) env ≡ Int (pos c)
unfolding unary
given_to-Int true t env c is = is
given_to-Int false t env c is = ap (unary ToNumeric) is

given_to-AreEqual : (x : Bool) (t : Term) (env : Env) (c : ℕ) (v : Value) → eval t env ≡ Int (pos c)
    → (is_true (binary (Compare Eq Binary) v (eval (given_to x t) env)) ≡ true) ↔ AreEqual v (Int (pos c))
given_to-AreEqual x t env c v is = let same = given_to-Int x t env c is in (subst (AreEqual v) same, subst (AreEqual v) (sym same))

keeps_both-pair_terms : (x y : Bool) (c n : ℕ) (l r : Row) → (keeps_both (pair_terms x y) (pair_params c n) l r ≡ true)
    ↔ (AreEqual (column r 0) (column l in_latest.result) × (AreEqual (column l in_latest.content) (Int (pos c)) × AreEqual (column l in_latest.provider_version) (Int (pos n))))
keeps_both-pair_terms x y c n l r =
    let env : Env = pair_params c n ∷ l ∷ r ∷ [] in
    and-two_tests (λ h. h, λ h. h) (and-two_tests (given_to-AreEqual x (col 0 0) env c (column l in_latest.content) refl) (and-true_test (given_to-AreEqual y (col 0 1) env n (column l in_latest.provider_version) refl)))

keeps_both-version_terms : (y : Bool) (n : ℕ) (l r : Row) → (keeps_both (version_terms y) (one_param n) l r ≡ true)
    ↔ (AreEqual (column r 0) (column l in_latest.result) × AreEqual (column l in_latest.provider_version) (Int (pos n)))
keeps_both-version_terms y n l r =
    let env : Env = one_param n ∷ l ∷ r ∷ [] in
    and-two_tests (λ h. h, λ h. h) (and-true_test (given_to-AreEqual y (col 0 0) env n (column l in_latest.provider_version) refl))

-- a whole number is equal to AreEqual-Int
AreEqual-Int : (v : Value) (k : ℕ) → v ≡ Int (pos k) → AreEqual v (Int (pos k))
AreEqual-Int v k is = (binary-Eq_same_Int v (Int (pos k)) (pos k) (pos k) is refl).1 refl

-- ---- what is read of a result that is shown

-- a mark that reads as this truth value is its number
truth_in-mark_of : (v : Value) (k : ℕ) (b : Bool) → v ≡ Int (pos k) → k ≤ 1 → truth_in v ≡ b → v ≡ Int (pos (mark_of b))
truth_in-mark_of v zero b is low says = is ∙ ap (λ (t : Bool). Int (pos (mark_of t))) (subst (λ w. truth_in w ≡ b) is says)
truth_in-mark_of v (suc zero) b is low says = is ∙ ap (λ (t : Bool). Int (pos (mark_of t))) (subst (λ w. truth_in w ≡ b) is says)
truth_in-mark_of v (suc (suc k)) b is low says = absurd (omega (arith, low))

IsResultOf-read : (params l r row : Row) (c n number : ℕ) (pass : Bool) → row ≡ eval_all passes_project (params ∷ l ∷ r ∷ []) → column row 0 ≡ Int (pos number) → truth 1 row ≡ pass
    → IsTruthAt 1 row → IsOfItsPair row → AreEqual (column l in_latest.content) (Int (pos c)) → AreEqual (column l in_latest.provider_version) (Int (pos n)) → IsResultOf c n number pass r
IsResultOf-read params l r row c n number pass is numbered says mark pair content version =
    let at : (k : ℕ) → column row k ≡ column (eval_all passes_project (params ∷ l ∷ r ∷ [])) k = λ k. ap (λ x. column x k) is in
    let of_content : column l in_latest.content ≡ column r in_results.content = sym (at 2) ∙ pair.0 ∙ at 3 in
    let of_version : column l in_latest.provider_version ≡ column r in_results.provider_version = sym (at 4) ∙ pair.1 ∙ at 5 in
    let of_pass : column r in_results.pass ≡ column row 1 = sym (at 1) in (
      sym (at 0) ∙ numbered,
      subst (λ v. AreEqual v (Int (pos c))) of_content content,
      subst (λ v. AreEqual v (Int (pos n))) of_version version,
      truth_in-mark_of (column r in_results.pass) mark.1.0 pass (of_pass ∙ mark.1.1) mark.1.2 (ap truth_in of_pass ∙ says),
    )

-- what is sound reads
IsSoundPair-ReadsAsLatest : (params l r : Row) → IsSoundPair l r → ReadsAsLatest (eval_all passes_project (params ∷ l ∷ r ∷ []))
IsSoundPair-ReadsAsLatest params l r s = (
  ((omega arith, s.0.1), (omega arith, s.1.1)),
  ((omega arith, s.2.0.1), (omega arith, s.2.1.1), s.2.2),
  ((omega arith, s.3.0.1), (omega arith, s.3.1.1), s.3.2),
)

-- ---- the latest result for a content and a version

module _ (c n : ℕ) (old new : State) (h : HasBrokerTables old.now.schema) (rows : List Row) (shown : Shown pair_sql (pair_params c n) old new rows) where
  abbrev x : Bool
  x = is_strict old.now.schema h 0

  abbrev y : Bool
  y = is_strict old.now.schema h 1

  NamesResult-of_shown_row : (row : Row) → Has rows row → (l r : Row) × NamesResult c n old.now l r × (row ≡ eval_all passes_project (pair_params c n ∷ l ∷ r ∷ []))
  NamesResult-of_shown_row row has =
      let it = pair_shown old.now (pair_params c n) in_latest.tree in_results.tree (pair_terms x y) passes_project [] rows (Shown-Answers_query old new (AsksOf-pair_sql old.now.schema h c n) rows shown) row has in
      let t = (keeps_both-pair_terms x y c n it.0 it.1).0 it.5 in
      (it.0, it.1, ((it.2, it.3, t.0, t.1.1), t.1.0), it.4)

  NamesResult-no_row : slice_get rows 0 ≡ None → (l r : Row) → ¬ NamesResult c n old.now l r
  NamesResult-no_row none l r named =
      let kept = (keeps_both-pair_terms x y c n l r).1 (named.0.2, (named.1, named.0.3)) in
      let pair = pairs-complete (keeps_both (pair_terms x y) (pair_params c n)) (old.now.trees in_results.tree) (old.now.trees in_latest.tree) l r named.0.0 named.0.1 kept in
      slice_get-None_empty rows none _ (shows_pair old.now (pair_params c n) in_latest.tree in_results.tree (pair_terms x y) passes_project [] rows (Shown-Answers_query old new (AsksOf-pair_sql old.now.schema h c n) rows shown) (l, r) pair)

  pub IsPassIn-found : (found : Option ContentPass) → option_map (λ p. pass_of p.result p.pass) found ≡ option_map pass_cells (slice_get rows 0)
      → ((row : Row) → slice_get rows 0 ≡ Some row → IsTruthAt 1 row × IsOfItsPair row) → IsPassIn c n found old.now
  IsPassIn-found found read reads = go found (slice_get rows 0) refl read
    where
      go : (f : Option ContentPass) (o : Option Row) → slice_get rows 0 ≡ o → option_map (λ p. pass_of p.result p.pass) f ≡ option_map pass_cells o → IsPassIn c n f old.now
      go None None head same = NamesResult-no_row head
      go (Some p) (Some row) head same =
          let it = NamesResult-of_shown_row row (slice_get-has_first rows row head) in
          let cells : pass_of p.result p.pass ≡ pass_cells row = cc in
          let both = reads row head in
          (it.0, it.1, it.2, IsResultOf-read (pair_params c n) it.0 it.1 row c n p.result p.pass it.3 (sym (ap (λ (q : PassCells). q.0) cells)) (sym (ap (λ (q : PassCells). q.1) cells)) both.0 both.1 it.2.1 it.2.0.3)
      go _ _ head same = absurd cc

  pub NamesResult-unsound_row : (row : Row) → slice_get rows 0 ≡ Some row → (¬ ReadsAsLatest row) → (l r : Row) × NamesResult c n old.now l r × (¬ IsSoundPair l r)
  NamesResult-unsound_row row head none =
      let it = NamesResult-of_shown_row row (slice_get-has_first rows row head) in
      (it.0, it.1, it.2, λ sound. none (subst ReadsAsLatest (sym it.3) (IsSoundPair-ReadsAsLatest (pair_params c n) it.0 it.1 sound)))

-- ---- whether a result was checked

module _ (n : ℕ) (old new : State) (h : HasBrokerTables old.now.schema) (rows : List Row) (shown : Shown checked_sql (one_param n) old new rows) where
  pub IsMarkedChecked-shown : (has : Bool) → has ≡ is_some (slice_get rows 0) → IsTrue has ↔ IsMarkedChecked n old.now
  IsMarkedChecked-shown has is =
      let any = Shown-any_kept old new (AsksOf-checked_sql old.now.schema h n) rows shown has is in
      (λ t. let it = any.0 t in (it.0, it.1, (and-true_test (λ t. t, λ t. t)).0 it.2), λ mark. any.1 (mark.0, mark.1, (and-true_test (λ t. t, λ t. t)).1 mark.2))

-- ---- the latest results of a version

module _ (n : ℕ) (old new : State) (h : HasBrokerTables old.now.schema) (rows : List Row) (shown : Shown passes_sql (one_param n) old new rows) where
  abbrev passes_terms : List Term
  passes_terms = version_terms (is_strict old.now.schema h 1)

  NamesFor-of_shown_row : (row : Row) → Has rows row → (l r : Row) × NamesFor n old.now l r × (row ≡ eval_all passes_project (one_param n ∷ l ∷ r ∷ []))
  NamesFor-of_shown_row row has =
      let it = pair_shown old.now (one_param n) in_latest.tree in_results.tree passes_terms passes_project order rows (Shown-Answers_query old new (AsksOf-passes_sql old.now.schema h n) rows shown) row has in
      let t = (keeps_both-version_terms _ n it.0 it.1).0 it.5 in
      (it.0, it.1, (it.2, it.3, t.0, t.1), it.4)

  NamesFor-is_shown : (l r : Row) → NamesFor n old.now l r → Has rows (eval_all passes_project (one_param n ∷ l ∷ r ∷ []))
  NamesFor-is_shown l r named =
      let kept = (keeps_both-version_terms _ n l r).1 (named.2, named.3) in
      let pair = pairs-complete (keeps_both passes_terms (one_param n)) (old.now.trees in_results.tree) (old.now.trees in_latest.tree) l r named.0 named.1 kept in
      shows_pair old.now (one_param n) in_latest.tree in_results.tree passes_terms passes_project order rows (Shown-Answers_query old new (AsksOf-passes_sql old.now.schema h n) rows shown) (l, r) pair

  pub ArePassesIn-found : (items : List ContentPass) → AreRead IsPassRow rows items → ArePassesIn n items old.now
  ArePassesIn-found items read = (
    λ p c.
        let row = AreRead-sound IsPassRow rows items p read c in
        let it = NamesFor-of_shown_row row.0 row.1 in
        let at : (k : ℕ) → column row.0 k ≡ column (eval_all passes_project (one_param n ∷ it.0 ∷ it.1 ∷ [])) k = λ k. ap (λ z. column z k) it.3 in
        let content : column it.0 in_latest.content ≡ Int (pos p.content) = sym (at 2) ∙ row.2.0 in
        let equal = AreEqual-Int (column it.0 in_latest.content) p.content content in
        (it.0, it.1, (it.2, equal), IsResultOf-read (one_param n) it.0 it.1 row.0 p.content n p.result p.pass it.3 row.2.1 row.2.2 row.2.3 row.2.4 equal it.2.3),
    λ l r named.
        let it = AreRead-complete IsPassRow rows items _ read (NamesFor-is_shown l r named) in
        (it.0, it.1, it.2.0),
  )

  pub NamesFor-unsound_row : (row : Row) → Has rows row → (¬ ReadsAsLatest row) → (l r : Row) × NamesFor n old.now l r × (¬ IsSoundPair l r)
  NamesFor-unsound_row row has none =
      let it = NamesFor-of_shown_row row has in
      (it.0, it.1, it.2, λ sound. none (subst ReadsAsLatest (sym it.3) (IsSoundPair-ReadsAsLatest (one_param n) it.0 it.1 sound)))

-- ---- those that were checked

module _ (n : ℕ) (old new : State) (h : HasBrokerTables old.now.schema) (rows : List Row) (shown : Shown marks_sql (one_param n) old new rows) where
  NamesChecked-of_shown_row : (row : Row) → Has rows row → (l c : Row) × NamesChecked n old.now l c × (row ≡ eval_all marks_project (one_param n ∷ l ∷ c ∷ []))
  NamesChecked-of_shown_row row has =
      let it = pair_shown old.now (one_param n) in_latest.tree in_checked_results.tree (version_terms (is_strict old.now.schema h 1)) marks_project order rows (Shown-Answers_query old new (AsksOf-marks_sql old.now.schema h n) rows shown) row has in
      let t = (keeps_both-version_terms _ n it.0 it.1).0 it.5 in
      (it.0, it.1, (it.2, it.3, t.0, t.1), it.4)

  pub IsCheckedFor-found : (items : List ℕ) → AreRead (λ row number. column row 0 ≡ Int (pos number)) rows items → (k : ℕ) → Contains items k → IsCheckedFor n old.now k
  IsCheckedFor-found items read k c =
      let row = AreRead-sound (λ row number. column row 0 ≡ Int (pos number)) rows items k read c in
      let it = NamesChecked-of_shown_row row.0 row.1 in
      (it.0, it.1, it.2, sym (ap (λ z. column z 0) it.3) ∙ row.2)

  pub NamesChecked-unsound_row : (row : Row) → Has rows row → (¬ IsNumberRow row) → (l c : Row) × NamesChecked n old.now l c × (¬ IsNumberAt in_latest.content l)
  NamesChecked-unsound_row row has none =
      let it = NamesChecked-of_shown_row row has in
      (it.0, it.1, it.2, λ number. none (subst IsNumberRow (sym it.3) (omega arith, number.1)))

-- ---- both clauses of an answer

pub IfOk-pair : {A E : Type 0} (r : Result A E) (P Q : A → Type 0) → IfOk r P → IfOk r Q → IfOk r (λ a. P a × Q a)
IfOk-pair (Ok a) P Q p q = (p, q)
IfOk-pair (Err e) P Q p q = tt

-- ---- why a list isn't read

module _ (n : ℕ) (old new : State) (asked : CanBeAsked old) (fault : StoreFault) where
  pub FailsAsListed-passes : FailsToRead IsPassRow FailsAsLatest passes_sql (one_param n) old new fault → FailsAsListed n old new fault
  FailsAsListed-passes (inl refused) = inl (inl (IsRefusedAs-ends old new (AsksOf-passes_sql old.now.schema asked.1 n) asked.0 fault refused))
  FailsAsListed-passes (inr (rows, shown, row, has, inl why)) = inr (why.0, inl (NamesFor-unsound_row n old new asked.1 rows shown row has why.1))
  FailsAsListed-passes (inr (rows, shown, row, has, inr room)) = inl (inr room.0)

  pub FailsAsListed-marks : FailsToRead (λ row number. column row 0 ≡ Int (pos number)) ReportsNumber marks_sql (one_param n) old new fault → FailsAsListed n old new fault
  FailsAsListed-marks (inl refused) = inl (inl (IsRefusedAs-ends old new (AsksOf-marks_sql old.now.schema asked.1 n) asked.0 fault refused))
  FailsAsListed-marks (inr (rows, shown, row, has, inl why)) = inr (why.0, inr (NamesChecked-unsound_row n old new asked.1 rows shown row has why.1))
  FailsAsListed-marks (inr (rows, shown, row, has, inr room)) = inl (inr room.0)

-- if a query left all as it was, a later failure is one of both calls together
pub FailsAsListed-after_query : (n : ℕ) (old mid new : State) (fault : StoreFault) → IsUnchanged old mid → old.faults ≤ mid.faults → FailsAsListed n mid new fault → FailsAsListed n old new fault
FailsAsListed-after_query n old mid new fault same up (inl (inl failed)) = inl (inl (HasFailed-after_query old mid new fault same up failed))
FailsAsListed-after_query n old mid new fault same up (inl (inr memory)) = inl (inr memory)
FailsAsListed-after_query n old mid new fault same up (inr why) = inr (why.0, subst (IsUnsoundFor n) same.0.now_is why.1)

-- ---- the results with what was checked

pub AreRead-map_marked : (checked : List ℕ) (xs : List ContentPass) (ys : List LatestResult) → AreRead (IsMarkedOf checked) xs ys → IsSorted nat_cmp checked → ys ≡ map (marked checked) xs
AreRead-map_marked checked [] [] read up = refl
AreRead-map_marked checked (x ∷ xs) (y ∷ ys) read up = λ i. read.0.4 up i ∷ AreRead-map_marked checked xs ys read.1 up i
AreRead-map_marked checked _ _ read up = absurd read

module _ (n : ℕ) (db : Database) (passes : List ContentPass) (checked : List ℕ) (found : List LatestResult) (read : AreRead (IsMarkedOf checked) passes found) where
  pub AreLatestIn-found : ArePassesIn n passes db → ((k : ℕ) → Contains checked k → IsCheckedFor n db k) → AreLatestIn n found db
  AreLatestIn-found are marks = (
    λ y c.
        let it = AreRead-sound (IsMarkedOf checked) passes found y read c in
        let p = it.0 in
        let of_pass = it.2 in (
          subst (λ (t : ℕ × ℕ × Bool). NamesPass t.0 n db t.1 t.2) (λ i. (sym of_pass.0 i, sym of_pass.1 i, sym of_pass.2 i)) (are.0 p (has_contains passes p it.1)),
          λ so. subst (IsCheckedFor n db) (sym of_pass.0) (marks p.content (of_pass.3 so)),
        ),
    λ l r named.
        let p = are.1 l r named in
        let it = AreRead-complete (IsMarkedOf checked) passes found p.0 read (contains_has passes p.0 p.1) in
        (it.0, it.1, p.2 ∙ ap (λ (k : ℕ). Int (pos k)) (sym it.2.0)),
  )
