-- The results by their numbers, and by their runs.
use Rattle.std.specs.{Prelude.{option_map, is_some, IfSome}, List.{AllByRecursion, last_or, enumerate_from}, Ordering.{eq_by_cmp, int_cmp}}
use Rattle.std.specs.{Cmp.{int_cmp_total, eq_by_cmp_equiv}, FinMap.{int_cmp-IsAntisymmetric}, FinMap.Entries.{find}}
use Rattle.std.specs.Cmp.Lexicographic.{nat_list_cmp_total, texts_ties}
use Rattle.std.proofs.Common.{◌≡◌, ◌==◌, ◌+◌, ◌-◌, ◌≤◌, ◌<◌, ◌^◌, inl, inr, ℕ, ℤ, pos, codes, List, [], ◌∷◌, map, filter, length, Bool, true, false, cond, ◌&&◌, refl, sym, ap, subst, ◌∙◌, slice_get, unwrap_or, Some, None, Option, arith}
use Rattle.std.proofs.{lemmas.Bool.{false_from_ne_true, and_from, and_left, and_right}, lemmas.List.{length-map}, lemmas.Option.{slice_get-map}}
use Rattle.std.proofs.Math.Bool.{and-true}
use Rattle.sqlite.specs.{Tree.{IsAscending, rowid}, Edit.{id_in}, declared.types.Value.{Value}, declared.types.Value.TheVariants.{Int, Text}}
use Rattle.sqlite.specs.{Order.{Row, column}, Term.{Term, col}, Collation.TheVariants.{Binary}, Effect.{Database}, State.{State, Shown}, Listing.{understood}}
use Rattle.sqlite_tied.specs.Compute.{everything}
use Rattle.sqlite_sql.specs.{declared.ops.BinaryOp.TheVariants.{Compare}, declared.ops.CompareOp.TheVariants.{Eq}, Ops.{binary, is_true}}
use Rattle.sqlite_schema.specs.Rules.{agree, equal}
use Rattle.sqlite_trees.proofs.ListLemmas.{filter_same}
use Rattle.sqlite_value.specs.Keys.{plain, first_key}
use Rattle.sqlite_rules.{specs.Lists.{Has}, proofs.{ListLemmas.{has_kept}, TableLemmas.{int_is}}}
use Rattle.sqlite_keyed.proofs.{ListLemmas.{filter-map, ascending-filter}, RuleLemmas.{first_of_both, second_of_both}}
use Rattle.table_access.specs.{Columns.{text, whole_at}, Sound.{IsNumbered, whole}, Statements.{from_table, by_two, up_to, newest, keeps, shows}}
use Rattle.table_access.proofs.{Steps.{IsPermutation-kept_rows}, Newest.{Shown-newest_number}, Maps.{find-first_shown, find-has_row, IsPermutation-at_most_one}}
use Rattle.table_access.proofs.{Keys.{is_param, keeps-one_key, IsNumbered-whole_at_unique, whole_key}, Values.{binary-Eq_Text, binary-Eq_Text_sound}}
use Rattle.table_access.proofs.{Members.{filter_has, has_map, map_has}, SoundLemmas.{at_has, all_of}, ReadLemmas.{option_map-compose, option_map-whole_pos}}
use Rattle.broker_core.specs.{Text.{same_text}, Change.{result_of_run}, State.{State as Broker, Verification}}
use Rattle.broker_tables.specs.{Schema.{in_results, in_checked_results}, Rows.{value_at, has_row_at, no_run, run_in}, Numbers.{number_of}}
use Rattle.broker_tables.{specs.Holds.{Holds, IsBroker, ResultRow, result_in, result_of}, proofs.Frames.{Means-over_broker_schema}}
use Rattle.broker_tables.proofs.{Present.{value_at-is_some}, Placed.{uniques-keys_apart, at_results, at_checked_results, Placed-IsNumbered, column-texts}}
use Rattle.broker_tables.proofs.{ByNumber.{find-numbered}, Newest.{unwrap_or-newest_result}, TableQuery.{TableQuery, IsShown}, Keyed.{IsFree}, Ties.{and-same}}
use Rattle.broker_tables.proofs.References.{enumerate_from-row_number}
use Rattle.contract_tables.specs.Verified.{Cells, cells, cells_of, ByNumbers, by_numbers, numbers_are, result_with, run_text}
use Rattle.contract_tables.proofs.RunTexts.{has_run, run_in-Eq_Text, run_in-no_run_of_another}
use Rattle.broker_names.specs.Name.{IsName}

module _ (db : Database) (broker : IsBroker db) where
  pub IsNumbered-results : IsNumbered (db.trees in_results.tree)
  IsNumbered-results = Placed-IsNumbered at_results db broker

  pub IsNumbered-checked_results : IsNumbered (db.trees in_checked_results.tree)
  IsNumbered-checked_results = Placed-IsNumbered at_checked_results db broker

-- WHERE number = ?1 keeps the rows with this number
keeps-by_result_number : (rows : List Row) → IsNumbered rows → (n : ℕ) → AllByRecursion (λ r. keeps (is_param 0 0 ∷ []) (Int (pos n) ∷ []) r ≡ eq_by_cmp int_cmp (pos n) (whole_at 0 r)) rows
keeps-by_result_number rows rising n = all_of _ rows (λ r has. keeps-one_key (whole_key 0) 0 (Int (pos n) ∷ []) (pos n) refl r (λ i. int_is (rowid r) (at_has _ rows r rising.1 has) i ∷ []))

-- the row of a number is that of the result with this number
pub value_at-result_with : (db : Database) (s : Broker) (n : ℕ) → Holds db s → value_at int_cmp (whole_at 0) (result_in (db.trees in_checked_results.tree)) (db.trees in_results.tree) (pos n) ≡ option_map (result_of s.versions) (result_with s n)
value_at-result_with db s n held = ap (find int_cmp (pos n)) held.results ∙ find-numbered (map (result_of s.versions) s.results) n ∙ mapped (n == 0)
  where
    mapped : (b : Bool) → cond b None (slice_get (map (result_of s.versions) s.results) (n - 1)) ≡ option_map (result_of s.versions) (cond b None (slice_get s.results (n - 1)))
    mapped true = refl
    mapped false = slice_get-map (result_of s.versions) s.results (n - 1)

-- ---- how many there are

abbrev pub count_sql : List ℕ
count_sql = codes "SELECT number FROM results ORDER BY number DESC LIMIT 1"

pub count : TableQuery count_sql [] (up_to 1 (from_table in_results.tree [] (col 1 0 ∷ []) newest))
unfolding understood everything
count = record { names = _; means = record { is = refl; plain = (refl, refl); unlisted = refl }; runs = record { whole = refl; typed = refl; sumless = refl } }

pub Shown-result_count : (old new : State) (rows : List Row) (s : Broker) (found : Option ℕ) → Holds old.now s → Shown count_sql [] old new rows → option_map (λ n. Int (pos n)) found ≡ option_map (λ row. column row 0) (slice_get rows 0)
    → unwrap_or found 0 ≡ length s.results
Shown-result_count old new rows s found held h read =
    unwrap_or-newest_result s.versions s.results (old.now.trees in_results.tree) (old.now.trees in_checked_results.tree) found held.results
    (Shown-newest_number count_sql old new in_results.tree _ (Means-over_broker_schema old.now held.broker count_sql count.means) (IsNumbered-results old.now held.broker) rows h found read)

-- ---- whether the broker checked it

pub checked : (n : ℕ) → TableQuery (codes "SELECT result FROM checked_results WHERE result = ?1")
    (Int (pos n) ∷ []) (from_table in_checked_results.tree (is_param 0 0 ∷ []) (col 1 0 ∷ []) [])
unfolding understood everything
checked n = record { names = _; means = record { is = refl; plain = (refl, refl); unlisted = refl }; runs = record { whole = refl; typed = refl; sumless = refl } }

pub IsShown-checked : (n : ℕ) (db : Database) (rows : List Row) (s : Broker) (r : Verification) → Holds db s → result_with s n ≡ Some r → IsShown (checked n) db rows
    → is_some (option_map (whole_at 0) (slice_get rows 0)) ≡ r.checked
IsShown-checked n db rows s r held is h =
    let marks = db.trees in_checked_results.tree in
    let rising = IsNumbered-checked_results db held.broker in
    let row = find-has_row int_cmp_total int_cmp-IsAntisymmetric (whole_at 0) (result_in marks) (pos n) (result_of s.versions r) (db.trees in_results.tree) (value_at-result_with db s n held ∙ ap (option_map (result_of s.versions)) is) in
    ap is_some (find-first_shown int_cmp_total int_cmp-IsAntisymmetric (whole_at 0) (whole_at 0) _ (whole_at 0) (λ r. refl) (pos n) _ marks rows (keeps-by_result_number marks rising n) (IsNumbered-whole_at_unique marks rising)
    (IsPermutation-kept_rows db _ in_checked_results.tree _ _ _ rows h))
    ∙ value_at-is_some int_cmp (whole_at 0) (whole_at 0) marks (pos n) ∙ ap (has_row_at int_cmp (whole_at 0) marks) row.2 ∙ ap (λ (x : ResultRow). x.checked) row.3

-- ---- the result of a run

abbrev pub run_project : List Term
run_project = col 1 0 ∷ col 1 in_results.content ∷ col 1 in_results.provider_version ∷ col 1 in_results.pass ∷ []

pub run : (p u : List ℕ) → TableQuery (codes "SELECT number, content, provider_version, pass FROM results WHERE provider = ?1 AND run = ?2")
    (Text p ∷ Text u ∷ []) (from_table in_results.tree (by_two in_results.provider in_results.run) run_project [])
unfolding understood everything
run p u = record { names = _; means = record { is = refl; plain = (refl, refl); unlisted = refl }; runs = record { whole = refl; typed = refl; sumless = refl } }

-- ---- lists

enumerate_from-map : {X Y : Type 0} (f : X → Y) (n : ℕ) (xs : List X) → map {B = ℤ × Y} (λ e. (pos e.0, e.1)) (enumerate_from n (map f xs)) ≡ map (λ e. (pos e.0, f e.1)) (enumerate_from n xs)
enumerate_from-map f n [] = refl
enumerate_from-map f n (x ∷ xs) = ap (λ more. (pos n, f x) ∷ more) (enumerate_from-map f (n + 1) xs)

-- a list of one or none: the first is the last
module _ {X Y Z : Type 0} (f : X → Z) (g : Y → Z) where
  option_map-at_most_one : (xs : List X) (ys : List Y) → length xs ≤ 1 → map f xs ≡ map g ys → option_map f (slice_get xs 0) ≡ option_map g (last_or None ys)
  option_map-at_most_one [] [] few same = refl
  option_map-at_most_one (x ∷ []) (y ∷ []) few same = cc
  option_map-at_most_one (x ∷ w ∷ xs) ys few same = absurd (omega (arith, few))
  option_map-at_most_one _ _ few same = absurd (let e = ap length same in cc)

-- ---- the rows of a run

equal-Text_tie : (x y : Value) (t : List ℕ) → x ≡ Text t → y ≡ Text t → equal Binary x y ≡ true
equal-Text_tie x y t xs ys = (λ i. equal Binary (xs i) (ys i)) ∙ binary-Eq_Text t t ∙ (eq_by_cmp_equiv nat_list_cmp_total).refl t

module _ (db : Database) (broker : IsBroker db) (p u : List ℕ) (name : IsName u) where
  abbrev params : Row
  params = Text p ∷ Text u ∷ []

  abbrev kept : List Row
  kept = filter (keeps (by_two in_results.provider in_results.run) params) (db.trees in_results.tree)

  keeps-run_texts : (r : Row) → keeps (by_two in_results.provider in_results.run) params r ≡ true
      → (column r in_results.provider ≡ Text p) × (column r in_results.run ≡ Text u)
  keeps-run_texts r test = (binary-Eq_Text_sound (column r in_results.provider) p (first_of_both _ _ test), binary-Eq_Text_sound (column r in_results.run) u (first_of_both _ true (second_of_both _ _ test)))

  -- rows of one run of one provider have one key
  agree-one_run : (a b : Row) → keeps (by_two in_results.provider in_results.run) params a ≡ true → keeps (by_two in_results.provider in_results.run) params b ≡ true
      → agree plain (in_results.provider ∷ in_results.run ∷ []) a (in_results.provider ∷ in_results.run ∷ []) b ≡ true
  unfolding first_key
  agree-one_run a b ka kb =
      let one = keeps-run_texts a ka in
      let two = keeps-run_texts b kb in
      and_from _ _ (equal-Text_tie (column a in_results.provider) (column b in_results.provider) p one.0 two.0) (and_from _ _ (equal-Text_tie (column a in_results.run) (column b in_results.run) u one.1 two.1) refl)

  length-at_most_one_of_run : (rows : List Row) → ((r : Row) → Has rows r → keeps (by_two in_results.provider in_results.run) params r ≡ true) → IsAscending (λ a b. agree plain (in_results.provider ∷ in_results.run ∷ []) a (in_results.provider ∷ in_results.run ∷ []) b ≡ false) rows → length rows ≤ 1
  length-at_most_one_of_run (a ∷ b ∷ rows) all apart = absurd (let hit = agree-one_run a b (all a (inl refl)) (all b (inr (inl refl))) in let miss = apart.0.0 in cc)
  length-at_most_one_of_run _ all apart = omega arith

  few : length kept ≤ 1
  few = length-at_most_one_of_run kept (λ r has. (filter_has (keeps (by_two in_results.provider in_results.run) params) (db.trees in_results.tree) r has).1)
      (ascending-filter _ (keeps (by_two in_results.provider in_results.run) params) (db.trees in_results.tree)
      (uniques-keys_apart at_results db broker (in_results.provider ∷ in_results.run ∷ []) (inl refl)))

  abbrev entry : Row → ℤ × ResultRow
  entry r = (whole_at 0 r, result_in (db.trees in_checked_results.tree) r)

  abbrev passes : ℤ × ResultRow → Bool
  passes e = same_text e.1.provider p && has_run u e.1.run

  keeps-passes_entry : (r : Row) → Has (db.trees in_results.tree) r → keeps (by_two in_results.provider in_results.run) params r ≡ passes (entry r)
  keeps-passes_entry r has =
      let owner = ap (λ v. is_true (binary (Compare Eq Binary) v (Text p))) (column-texts at_results db broker in_results.provider refl r has) in
      and-same _ _ _ _ (owner ∙ binary-Eq_Text (text in_results.provider r) p ∙ sym (texts_ties (text in_results.provider r) p)) (and-true _ ∙ run_in-Eq_Text (whole_at 0 r) (column r in_results.run) u name)

  module _ (s : Broker) (held : Holds db s) where
    abbrev as_row : ℕ × Verification → ℤ × ResultRow
    as_row e = (pos e.0, result_of s.versions e.1)

    -- the first row that is kept is that of the result of the run
    kept_is : option_map entry (slice_get kept 0) ≡ option_map as_row (result_of_run s p (Some u))
    kept_is =
        let listed : map entry kept ≡ map as_row (filter (λ e. passes (as_row e)) (enumerate_from 1 s.results)) =
        ap (map entry) (filter_same _ (λ r. passes (entry r)) (db.trees in_results.tree) (all_of _ (db.trees in_results.tree) keeps-passes_entry))
        ∙ sym (filter-map passes entry (db.trees in_results.tree))
        ∙ ap (filter passes) (held.results ∙ enumerate_from-map (result_of s.versions) 1 s.results) ∙ filter-map passes as_row (enumerate_from 1 s.results) in
        option_map-at_most_one entry as_row kept _ few listed

    -- if no result has the run, no row is kept
    none_kept : result_of_run s p (Some u) ≡ None → (r : Row) → Has (db.trees in_results.tree) r
        → keeps (by_two in_results.provider in_results.run) params r ≡ false
    none_kept none r has = false_from_ne_true _ (λ hit. gone kept (kept_is ∙ ap (option_map as_row) none)
        (has_kept (keeps (by_two in_results.provider in_results.run) params) (db.trees in_results.tree) r has hit))
      where
        gone : (rs : List Row) → option_map entry (slice_get rs 0) ≡ None → Has rs r → ⊥
        gone [] e h = h
        gone (x ∷ rs) e h = cc

-- what the row of a result has of it
run_in-of_row : (db : Database) (s : Broker) → Holds db s → (r : Row) → Has (db.trees in_results.tree) r
    → (e : ℕ × Verification) × (whole_at 0 r ≡ pos e.0) × (run_in (whole_at 0 r) (column r in_results.run) ≡ Some e.1.run)
run_in-of_row db s held r has =
    let marks = db.trees in_checked_results.tree in
    let among = has_map (λ x. (whole_at 0 x, result_in marks x)) (db.trees in_results.tree) r has in
    let stored : ℕ × Verification → ℤ × ResultRow = λ e. (pos e.0, result_of s.versions e.1) in
    let it = map_has stored (enumerate_from 1 s.results) _
    (subst (λ l. Has l (whole_at 0 r, result_in marks r)) (held.results ∙ enumerate_from-map (result_of s.versions) 1 s.results) among) in
    (it.0, ap (λ (x : ℤ × ResultRow). x.0) it.2, ap (λ (x : ℤ × ResultRow). x.1.run) it.2)

-- so no row has the key of the next result, if none has its run
pub IsFree-new_run : (db : Database) (s : Broker) → Holds db s → (p : List ℕ) (number : ℕ) (run : Option (List ℕ)) → IfSome run IsName → number ≡ length s.results + 1 → number < 2 ^ 64 → result_of_run s p run ≡ None
    → (made : Row) → column made in_results.provider ≡ Text p → column made in_results.run ≡ Text (run_text number run) → IsFree (db.trees in_results.tree) made (in_results.provider ∷ in_results.run ∷ [])
unfolding first_key
IsFree-new_run db s held p number None name next few none made owner is r has =
    and_right _ _ (and_left _ true (false_from_ne_true _ (λ same.
    let stored : column r in_results.run ≡ Text (no_run (pos number)) = binary-Eq_Text_sound (column r in_results.run) (no_run (pos number)) (ap (equal Binary (column r in_results.run)) (sym is) ∙ same) in
    let it = run_in-of_row db s held r has in
    let low = enumerate_from-row_number (result_in (db.trees in_checked_results.tree)) (db.trees in_results.tree) (map (result_of s.versions) s.results) 1 held.results r has in
    let count = length-map s.results (result_of s.versions) in
    let nothing : run_in (whole_at 0 r) (column r in_results.run) ≡ None = (λ i. run_in (low.1 i) (stored i)) ∙ run_in-no_run_of_another low.0 number (omega (arith, low.2, count, next, few)) few (λ same. omega (arith, low.2, count, next, same)) in
    absurd (let clash = sym nothing ∙ it.2 in cc))))
IsFree-new_run db s held p number (Some u) name next few none made owner is r has = (λ i. equal Binary (column r in_results.provider) (owner i) && (equal Binary (column r in_results.run) (is i) && true)) ∙ none_kept db held.broker p u name s held none r has

-- ---- the answer

-- what is read of a row, and what a row has of a result, as numbers
abbrev by_cells : Cells → ByNumbers
by_cells c = numbers_are (whole (id_in c.0)) (whole (id_in c.1)) (whole (id_in c.2)) c.3

abbrev by_row : ℤ × ResultRow → ByNumbers
by_row e = (whole e.0, whole e.1.content, option_map whole e.1.version, e.1.pass)

pub IsShown-result_of_run : {X : Type 0} (number content version : X → ℕ) (pass : X → Bool) (p u : List ℕ) → IsName u → (db : Database) (rows : List Row) (s : Broker) (found : Option X) → Holds db s → IsShown (run p u) db rows
    → option_map (λ x. cells_of (number x) (content x) (version x) (pass x)) found ≡ option_map cells (slice_get rows 0)
    → option_map (λ x. numbers_are (number x) (content x) (version x) (pass x)) found ≡ option_map (by_numbers s.versions) (result_of_run s p (Some u))
IsShown-result_of_run number content version pass p u name db rows s found held h read =
    sym (option_map-compose by_cells (λ x. cells_of (number x) (content x) (version x) (pass x)) found) ∙ ap (option_map by_cells) read ∙ option_map-compose by_cells cells (slice_get rows 0)
    ∙ ap (λ l. option_map (λ r. by_cells (cells r)) (slice_get l 0)) out ∙ ap (option_map (λ r. by_cells (cells r))) (slice_get-map shown all 0)
    ∙ option_map-compose (λ r. by_cells (cells r)) shown (slice_get all 0) ∙ sym (option_map-compose by_row (entry db held.broker p u name) (slice_get all 0))
    ∙ ap (option_map by_row) (kept_is db held.broker p u name s held) ∙ option_map-compose by_row (as_row db held.broker p u name s held) (result_of_run s p (Some u))
    ∙ (λ i. option_map (λ e. (e.0, e.1.content, option_map-whole_pos (number_of s.versions e.1.version) i, e.1.pass)) (result_of_run s p (Some u)))
  where
    all : List Row
    all = kept db held.broker p u name

    shown : Row → Row
    shown r = shows run_project (Text p ∷ Text u ∷ []) r

    out : rows ≡ map shown all
    out = IsPermutation-at_most_one (map shown all) rows (subst (λ n. n ≤ 1) (sym (length-map all shown)) (few db held.broker p u name)) (IsPermutation-kept_rows db _ in_results.tree _ _ _ rows h)
