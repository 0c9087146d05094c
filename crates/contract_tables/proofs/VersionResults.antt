-- The latest results, joined with those of their results and with the marks: all of one version, and that for one content.
use Rattle.std.specs.{Prelude.{Contains, option_map, IsSorted, ◌↔◌}, Ordering.{eq_by_cmp, int_cmp, nat_cmp}}
use Rattle.std.specs.{Cmp.{int_cmp_total, Equal-is, eq_by_cmp_equiv, both_ways}, FinMap.{int_cmp-IsAntisymmetric}}
use Rattle.std.proofs.Common.{◌≡◌, ◌==◌, inl, inr, ℕ, pos, codes, List, [], ◌∷◌, map, Bool, true, refl, sym, ap, subst, ◌∙◌, slice_get, Some, None, Option}
use Rattle.std.proofs.lemmas.Bool.{eq-eqb, eqb-true}
use Rattle.sqlite.specs.{Tree.{rowid}, Edit.{id_in}, declared.types.Value.TheVariants.{Int}, Order.{Row, column}, Term.{Term, col, op2, eval_all}}
use Rattle.sqlite.specs.{Collation.TheVariants.{Binary}, Effect.{Database}, Listing.{understood}}
use Rattle.sqlite_sql.specs.{declared.ops.BinaryOp.TheVariants.{Compare}, declared.ops.CompareOp.TheVariants.{Eq}}
use Rattle.sqlite_value.specs.{declared.keys.Key.{Key}, Keys.{ascending}}
use Rattle.sqlite_rules.{specs.Lists.{Has}, proofs.TableLemmas.{int_is}}
use Rattle.sqlite_tied.specs.Compute.{everything}
use Rattle.table_access.specs.{Columns.{text, whole_at}, Sound.{IsNumbered, whole}, Statements.{from_both, keeps_both}, Reading.{AreRead}}
use Rattle.table_access.proofs.{Maps.{find-has_row}, Members.{pairs-complete, any_has, contains_has, has_contains}, Keys.{IsNumbered-whole_at_unique}}
use Rattle.table_access.proofs.{SoundLemmas.{any_of, at_has}, ReadLemmas.{option_map-compose}}
use Rattle.broker_core.specs.{declared.command.Version.{Version}, Text.{version}, Listing.{Lists}}
use Rattle.broker_core.specs.{State.{State as Broker, Verification, latest_result, latest, said_by}, declared.need.Latest.{Latest}}
use Rattle.broker_core.proofs.Lists.{Some-injective}
use Rattle.broker_tables.specs.{Schema.{in_results, in_latest, in_checked_results, in_versions}, Rows.{truth}, Numbers.{number_of}}
use Rattle.broker_tables.{specs.Holds.{Holds, ResultRow, result_in, result_of}, proofs.TableQuery.{TableQuery, IsShown, EachShown, EachShown-of_both}}
use Rattle.broker_tables.proofs.{Listed.{Lists-AreRead}, Orders.{by_both-total_int_int}, Placed.{latest as latest_table, at_latest, listed}}
use Rattle.broker_tables.proofs.{References.{references-version}, VersionRows.{binary-Eq_same_Int, IsAscending-one_row, number_of-version_row}}
use Rattle.broker_tables.proofs.Keyed.{IsAscending-keys_of_table, latest_by_key}
use Rattle.contract_tables.specs.VersionResults.{pass_cmp, latest_cmp, IsPassOf, IsLatestOf, said_of, IsPassRow, is_among, marked}
use Rattle.contract_tables.specs.Verified.{result_with, PassCells, pass_cells, pass_of, Passed, passed_of, passed_as}
use Rattle.contract_tables.specs.{declared.version_results.ContentPass.{ContentPass}, declared.version_results.LatestResult.{LatestResult}}
use Rattle.contract_tables.proofs.ItemLists.{and-two_tests, and-true_test, value_cmp-last_Int, int_cmp-nat_cmp_Less, IsShown-Answers, Lists-of_pairs}
use Rattle.contract_tables.proofs.{JoinRows.{pair_shown}, LastRow.{latest_result-content_version, latest_result-result_with}, Rising.{sorted as in_order}}
use Rattle.contract_tables.proofs.VerifiedList.{option_map-Some_sound, latest_result-of_row, latest_result-has_row}
use Rattle.contract_tables.proofs.ResultLookups.{IsNumbered-results, IsNumbered-checked_results, value_at-result_with}
use Rattle.contract_tables.proofs.ResultRows.{key, contents, versions, numbers, IsNumbered-latest}

-- ---- the two statements

-- ON the row's number is the result, WHERE provider_version = ?1
abbrev pub terms : List Term
terms = op2 (Compare Eq Binary) (col 2 0) (col 1 in_latest.result) ∷ op2 (Compare Eq Binary) (col 1 in_latest.provider_version) (col 0 0) ∷ []

abbrev pub order : List (Term × Key)
order = (col 1 in_latest.content, ascending Binary) ∷ []

-- the result, whether it is a pass, and of what it is said to be the latest, each beside what it is of
abbrev pub passes_project : List Term
passes_project = col 2 0 ∷ col 2 in_results.pass ∷ col 1 in_latest.content ∷ col 2 in_results.content
    ∷ col 1 in_latest.provider_version ∷ col 2 in_results.provider_version ∷ []

pub passes : (n : ℕ)
    → TableQuery (codes "SELECT r.number, r.pass, l.content, r.content, l.provider_version, r.provider_version FROM latest l JOIN results r ON r.number = l.result WHERE l.provider_version = ?1 ORDER BY l.content")
    (Int (pos n) ∷ []) (from_both in_latest.tree in_results.tree terms passes_project order)
unfolding understood everything
passes n = record { names = _; means = record { is = refl; plain = (refl, refl); unlisted = refl }; runs = record { whole = refl; typed = refl; sumless = refl } }

abbrev pub marks_project : List Term
marks_project = col 1 in_latest.content ∷ []

pub marks : (n : ℕ)
    → TableQuery (codes "SELECT l.content FROM latest l JOIN checked_results c ON c.result = l.result WHERE l.provider_version = ?1 ORDER BY l.content")
    (Int (pos n) ∷ []) (from_both in_latest.tree in_checked_results.tree terms marks_project order)
unfolding understood everything
marks n = record { names = _; means = record { is = refl; plain = (refl, refl); unlisted = refl }; runs = record { whole = refl; typed = refl; sumless = refl } }

-- ---- the rows that they join

-- a result by its number
module _ (db : Database) (s : Broker) (held : Holds db s) (n : ℕ) (r : Verification) (is : result_with s n ≡ Some r) where
  -- its row, with its mark
  pub result_with-has_row : (row : Row) × Has (db.trees in_results.tree) row × (whole_at 0 row ≡ pos n) × (result_in (db.trees in_checked_results.tree) row ≡ result_of s.versions r)
  result_with-has_row =
      let value = value_at-result_with db s n held ∙ ap (option_map (result_of s.versions)) is in
      let row = find-has_row int_cmp_total int_cmp-IsAntisymmetric (whole_at 0) (result_in (db.trees in_checked_results.tree)) (pos n) (result_of s.versions r) (db.trees in_results.tree) value in
      (row.0, row.1, sym row.2, row.3)

  -- each row with its number is that one
  pub result_with-of_row : (row : Row) → Has (db.trees in_results.tree) row → whole_at 0 row ≡ pos n
      → result_in (db.trees in_checked_results.tree) row ≡ result_of s.versions r
  result_with-of_row row has number =
      let it = result_with-has_row in
      let once = IsNumbered-whole_at_unique (db.trees in_results.tree) (IsNumbered-results db held.broker) in
      let same : row ≡ it.0 = IsAscending-one_row int_cmp_total (whole_at 0) (db.trees in_results.tree) once row it.0 has it.1 (number ∙ sym it.2) in
      ap (result_in (db.trees in_checked_results.tree)) same ∙ it.3

  -- a mark with its number says that it was checked
  pub checked-of_mark : (mark : Row) → Has (db.trees in_checked_results.tree) mark → whole_at 0 mark ≡ pos n → r.checked ≡ true
  checked-of_mark mark has number =
      let row = result_with-has_row in
      let tied = ap (eq_by_cmp int_cmp (whole_at 0 row.0)) (number ∙ sym row.2) ∙ (eq_by_cmp_equiv int_cmp_total).refl (whole_at 0 row.0) in
      sym (ap (λ (y : ResultRow). y.checked) row.3)
      ∙ any_of (λ q. eq_by_cmp int_cmp (whole_at 0 row.0) (whole_at 0 q)) (db.trees in_checked_results.tree) mark has tied

  -- and there is one, if it was
  pub checked-has_mark : r.checked ≡ true → (mark : Row) × Has (db.trees in_checked_results.tree) mark × (whole_at 0 mark ≡ pos n)
  checked-has_mark so =
      let row = result_with-has_row in
      let mark = any_has (λ q. eq_by_cmp int_cmp (whole_at 0 row.0) (whole_at 0 q)) (db.trees in_checked_results.tree) (ap (λ (y : ResultRow). y.checked) row.3 ∙ so) in
      let same : whole_at 0 row.0 ≡ whole_at 0 mark.0 = int_cmp-IsAntisymmetric _ _ ((Equal-is (int_cmp (whole_at 0 row.0) (whole_at 0 mark.0))).0 mark.2) in
      (mark.0, mark.1, sym same ∙ row.2)

-- a result that is said to be the latest is for the content, and of the version, that the row says
module _ (db : Database) (s : Broker) (held : Holds db s) where
  pub latest-pair_of_its_result : (l r : Row) → Has (db.trees in_latest.tree) l → Has (db.trees in_results.tree) r → (c : ℕ) → whole_at in_latest.content l ≡ pos c
      → whole_at 0 r ≡ whole_at in_latest.result l
      → (whole_at in_results.content r ≡ whole_at in_latest.content l) × (whole_at in_results.provider_version r ≡ whole_at in_latest.provider_version l)
  latest-pair_of_its_result l r hl hr c content joined =
      let v = references-version db held.broker latest_table (listed at_latest db held.broker) in_latest.provider_version (inr (inl refl)) l hl (versions db held.broker l hl) in
      let known = number_of-version_row db held.broker s.versions held.versions v.0 v.1 in
      let w = version (text in_versions.pacticipant v.0) (text in_versions.version v.0) in
      let number : whole_at in_latest.provider_version l ≡ pos known.0 = sym v.2 ∙ known.2 in
      let e = latest_result-of_row db s held w known.0 known.1 l c hl content number in
      let stored = result_with-of_row db s held e.0.0 e.0.1 (latest_result-result_with s c w e.0 e.1) r hr (joined ∙ e.2) in
      let pair = latest_result-content_version s c w e.0 e.1 in
      let returned : Some (whole_at in_results.provider_version r) ≡ Some (pos known.0) =
      ap (λ (y : ResultRow). y.version) stored ∙ ap (λ u. option_map pos (number_of s.versions u)) pair.1 ∙ ap (option_map pos) known.1 in
      (ap (λ (y : ResultRow). y.content) stored ∙ ap pos pair.0 ∙ sym content, Some-injective _ _ returned ∙ sym number)

module _ (db : Database) (s : Broker) (held : Holds db s) (v : Version) (n : ℕ) (is : number_of s.versions v ≡ Some n) where
  abbrev params : Row
  params = Int (pos n) ∷ []

  -- the version's rows, joined with those of a table by the numbers of results
  module _ (u : ℕ) (rising : IsNumbered (db.trees u)) where
    abbrev IsJoined : Row → Row → Type 0
    IsJoined l r = (whole_at 0 r ≡ whole_at in_latest.result l) × (whole_at in_latest.provider_version l ≡ pos n)

    pub numbered : (r : Row) → Has (db.trees u) r → column r 0 ≡ Int (whole_at 0 r)
    numbered r has = int_is (rowid r) (at_has _ (db.trees u) r rising.1 has)

    -- what ON and WHERE test
    joined : (l r : Row) → Has (db.trees in_latest.tree) l → Has (db.trees u) r → (keeps_both terms params l r ≡ true) ↔ IsJoined l r
    joined l r hl hr =
        and-two_tests (binary-Eq_same_Int (column r 0) (column l in_latest.result) (whole_at 0 r) (whole_at in_latest.result l) (numbered r hr) (numbers db held.broker l hl))
        (and-true_test (binary-Eq_same_Int (column l in_latest.provider_version) (Int (pos n)) (whole_at in_latest.provider_version l) (pos n) (versions db held.broker l hl) refl))

    -- one item per content, each read of the row of its latest result and of a row with that result's number
    list_results : {sql : List ℕ} {project : List Term} {Y : Type 0} (asked : TableQuery sql params (from_both in_latest.tree u terms project order)) (reads : Row → Y → Type 0)
        (Q : Y → Type 0) (content : Y → ℕ) → ((l r : Row) (x : Y) → reads (eval_all project (params ∷ l ∷ r ∷ [])) x → column l in_latest.content ≡ Int (pos (content x)))
        → ((l r : Row) (x : Y) (e : ℕ × Verification) → latest_result s (content x) v ≡ Some e → Has (db.trees u) r → whole_at 0 r ≡ pos e.0
        → reads (eval_all project (params ∷ l ∷ r ∷ [])) x → Q x)
        → ((x : Y) → Q x → (e : ℕ × Verification) × (latest_result s (content x) v ≡ Some e) × (r : Row) × Has (db.trees u) r × (whole_at 0 r ≡ pos e.0)
        × ((l : Row) (y : Y) → reads (eval_all project (params ∷ l ∷ r ∷ [])) y → content y ≡ content x → y ≡ x))
        → (rows : List Row) (items : List Y) → IsShown asked db rows → AreRead reads rows items → Lists (λ x y. nat_cmp (content x) (content y)) Q items
    list_results asked reads Q content read reports returned =
        Lists-of_pairs db reads (λ x y. nat_cmp (content x) (content y)) Q int_cmp-IsAntisymmetric (λ x. pos (content x)) (λ x y. int_cmp-nat_cmp_Less (content x) (content y))
        (IsShown-Answers asked db) IsJoined (IsNumbered-latest db held.broker) rising joined (record {
          key = λ q. whole_at in_latest.content q.0;
          sorted = λ a b one two. value_cmp-last_Int (column a.0 in_latest.content) (column b.0 in_latest.content) (whole_at in_latest.content a.0) (whole_at in_latest.content b.0)
              (contents db held.broker a.0 one.0) (contents db held.broker b.0 two.0);
          one = λ a b one two same.
              let keyed : key a.0 ≡ key b.0 = λ i. (same i, (one.2.1 ∙ sym two.2.1) i) in
              let first : a.0 ≡ b.0 = IsAscending-one_row by_both-total_int_int key (db.trees in_latest.tree) (IsAscending-keys_of_table latest_by_key db held.broker) a.0 b.0 one.0 two.0 keyed in
              let number : whole_at 0 a.1 ≡ whole_at 0 b.1 = one.2.0 ∙ ap (whole_at in_latest.result) first ∙ sym two.2.0 in
              let second : a.1 ≡ b.1 = IsAscending-one_row int_cmp_total (whole_at 0) (db.trees u) (IsNumbered-whole_at_unique (db.trees u) rising) a.1 b.1 one.1 two.1 number in
              λ i. (first i, second i);
          read = λ q x shown. ap id_in (read q.0 q.1 x shown);
          sound = λ q x it shown.
              let e = latest_result-of_row db s held v n is q.0 (content x) it.0 (ap id_in (read q.0 q.1 x shown)) it.2.1 in
              reports q.0 q.1 x e.0 e.1 it.1 (it.2.0 ∙ e.2) shown;
          complete = λ x there.
              let it = returned x there in
              let l = latest_result-has_row db s held v n is (content x) it.0 it.1 in
              ((l.0, it.2), (l.1, it.3, (it.4 ∙ sym l.4, l.3)), λ y shown. it.5 l.0 y shown (ap whole (sym (ap id_in (read l.0 it.2 y shown)) ∙ l.2)));
        })

  pub Lists-passes : (rows : List Row) (items : List ContentPass) → IsShown (passes n) db rows → AreRead IsPassRow rows items → Lists pass_cmp (IsPassOf s v) items
  Lists-passes = list_results in_results.tree (IsNumbered-results db held.broker) (passes n) IsPassRow (IsPassOf s v) (λ x. x.content) (λ l r x read. read.0)
      (λ l r x e found has number read.
      let row = result_with-of_row db s held e.0 e.1 (latest_result-result_with s x.content v e found) r has number in
      let same : e.0 ≡ x.result = ap whole (sym number ∙ ap id_in read.1) in
      let pass : e.1.pass ≡ x.pass = sym (ap (λ (y : ResultRow). y.pass) row) ∙ read.2 in
      ap (option_map passed_of) found ∙ (λ i. Some (passed_as (same i) (pass i))))
      (λ x there.
      let e = option_map-Some_sound passed_of (latest_result s x.content v) (passed_as x.result x.pass) there in
      let r = result_with-has_row db s held e.0.0 e.0.1 (latest_result-result_with s x.content v e.0 e.1) in
      let number : pos e.0.0 ≡ pos x.result = ap (λ (p : Passed). pos p.0) e.2 in
      let pass = ap (λ (z : ResultRow). z.pass) r.3 ∙ ap (λ (p : Passed). p.1) e.2 in
      (e.0, e.1, r.0, r.1, r.2, λ l y read content i. record { content = content i; result = whole ((sym (ap id_in read.1) ∙ r.2 ∙ number) i); pass = (sym read.2 ∙ pass) i }))

  abbrev pub IsChecked : ℕ → Type 0
  IsChecked content = option_map (λ e. e.1.checked) (latest_result s content v) ≡ Some true

  abbrev is_content : Row → ℕ → Type 0
  is_content row number = column row 0 ≡ Int (pos number)

  pub Lists-marks : (rows : List Row) (items : List ℕ) → IsShown (marks n) db rows → AreRead is_content rows items → Lists nat_cmp IsChecked items
  Lists-marks = list_results in_checked_results.tree (IsNumbered-checked_results db held.broker) (marks n) is_content IsChecked (λ content. content) (λ l r content read. read)
      (λ l r content e found has number read.
      ap (option_map (λ (e : ℕ × Verification). e.1.checked)) found ∙ ap Some (checked-of_mark db s held e.0 e.1 (latest_result-result_with s content v e found) r has number))
      (λ content there.
      let e = option_map-Some_sound (λ e. e.1.checked) (latest_result s content v) true there in
      let mark = checked-has_mark db s held e.0.0 e.0.1 (latest_result-result_with s content v e.0 e.1) e.2 in
      (e.0, e.1, mark.0, mark.1, mark.2, λ l y read same. same))

-- ---- both together

AreRead-map_self : {A B : Type 0} (f : A → B) (xs : List A) → AreRead (λ x y. y ≡ f x) xs (map f xs)
AreRead-map_self f [] = tt
AreRead-map_self f (x ∷ xs) = (refl, AreRead-map_self f xs)

module _ (s : Broker) (v : Version) (checked : List ℕ) (marked_are : Lists nat_cmp (λ content. option_map (λ e. e.1.checked) (latest_result s content v) ≡ Some true) checked) where
  -- a latest result was checked if and only if its content is one of these
  is_among-content_checked : (content : ℕ) (e : ℕ × Verification) → latest_result s content v ≡ Some e → is_among checked content ≡ e.1.checked
  is_among-content_checked content e found = both_ways (is_among checked content) e.1.checked
      (λ here.
      let it = any_has (λ c. c == content) checked here in
      let there = (marked_are.exactly it.0).0 (has_contains checked it.0 it.1) in
      let found_there = ap (λ c. latest_result s c v) (eqb-true it.0 content it.2) ∙ found in
      let returned : Some e.1.checked ≡ Some true = sym (ap (option_map (λ (e : ℕ × Verification). e.1.checked)) found_there) ∙ there in
      cc)
      (λ mark.
      let there = (marked_are.exactly content).1 (ap (option_map (λ (e : ℕ × Verification). e.1.checked)) found ∙ ap Some mark) in
      any_of (λ c. c == content) checked content (contains_has checked content there) (eq-eqb content content refl))

  pub Lists-latest_results : (given : List ContentPass) (found : List LatestResult) → Lists pass_cmp (IsPassOf s v) given → (IsSorted nat_cmp checked → found ≡ map (marked checked) given)
      → Lists latest_cmp (IsLatestOf s v) found
  Lists-latest_results given found listed made =
      Lists-AreRead pass_cmp (IsPassOf s v) (λ x y. y ≡ marked checked x) latest_cmp (IsLatestOf s v)
      (λ a b x y ha hb is_x is_y less. (λ i. nat_cmp (is_x i).content (is_y i).content) ∙ less)
      (λ p x has is_x.
      let e = option_map-Some_sound passed_of (latest_result s p.content v) (passed_as p.result p.pass) has in
      subst (IsLatestOf s v) (sym is_x) (ap (option_map said_of) e.1
      ∙ (λ i. Some ((e.2 i).0, record { pass = (e.2 i).1; checked = sym (is_among-content_checked p.content e.0 e.1) i }))))
      (λ x there.
      let e = option_map-Some_sound said_of (latest_result s x.content v) (x.result, x.latest) there in (
        record { content = x.content; result = x.result; pass = x.latest.pass },
        ap (option_map passed_of) e.1 ∙ ap (λ (l : ℕ × Latest). Some (passed_as l.0 l.1.pass)) e.2,
        λ y is_y. is_y ∙ (λ i. record {
          content = x.content;
          result = x.result;
          latest = record { pass = x.latest.pass; checked = (is_among-content_checked x.content e.0 e.1 ∙ ap (λ (l : ℕ × Latest). l.1.checked) e.2) i };
        }),
      ))
      given found listed (subst (AreRead (λ x y. y ≡ marked checked x) given) (sym (made (in_order (λ c. c) checked marked_are.sorted))) (AreRead-map_self (marked checked) given))

-- ---- one of them

module _ (s : Broker) (v : Version) (results : List LatestResult) (listed : Lists latest_cmp (IsLatestOf s v) results) where
  -- the one at a place, for its content
  pub latest-said_at : (content : ℕ) (x : LatestResult) → Contains results x → x.content ≡ content → Some x.latest ≡ latest s content v
  latest-said_at content x there same =
      let e = option_map-Some_sound said_of (latest_result s x.content v) (x.result, x.latest) ((listed.exactly x).0 there) in
      sym (ap (λ c. latest s c v) (sym same) ∙ ap (option_map (λ (e : ℕ × Verification). said_by e.1)) e.1 ∙ ap (λ (l : ℕ × Latest). Some l.1) e.2)

  -- if none is for the content, there is none
  pub latest-None : (content : ℕ) → ((x : LatestResult) → Contains results x → x.content ≡ content → ⊥) → None ≡ latest s content v
  latest-None content apart = go (latest_result s content v) refl
    where
      go : (o : Option (ℕ × Verification)) → latest_result s content v ≡ o → None ≡ option_map (λ e. said_by e.1) o
      go None is = refl
      go (Some e) is =
          let x : LatestResult = record { content = content; result = e.0; latest = said_by e.1 } in
          absurd (apart x ((listed.exactly x).1 (ap (option_map said_of) is)) refl)

-- ---- the latest result for one content

-- ON the row's number is the result, WHERE the content and the version are the parameters
abbrev pub one_terms : List Term
one_terms = op2 (Compare Eq Binary) (col 2 0) (col 1 in_latest.result) ∷ op2 (Compare Eq Binary) (col 1 in_latest.content) (col 0 0)
    ∷ op2 (Compare Eq Binary) (col 1 in_latest.provider_version) (col 0 1) ∷ []

pub join : (c n : ℕ)
    → TableQuery (codes "SELECT r.number, r.pass, l.content, r.content, l.provider_version, r.provider_version FROM latest l JOIN results r ON r.number = l.result WHERE l.content = ?1 AND l.provider_version = ?2")
    (Int (pos c) ∷ Int (pos n) ∷ []) (from_both in_latest.tree in_results.tree one_terms passes_project [])
unfolding understood everything
join c n = record { names = _; means = record { is = refl; plain = (refl, refl); unlisted = refl }; runs = record { whole = refl; typed = refl; sumless = refl } }

module _ (db : Database) (s : Broker) (held : Holds db s) (v : Version) (content n : ℕ) (is : number_of s.versions v ≡ Some n) where
  abbrev one_params : Row
  one_params = Int (pos content) ∷ Int (pos n) ∷ []

  -- what ON and WHERE test
  keeps_both-one_terms : (l r : Row) → Has (db.trees in_latest.tree) l → Has (db.trees in_results.tree) r
      → (keeps_both one_terms one_params l r ≡ true) ↔ ((whole_at 0 r ≡ whole_at in_latest.result l) × ((whole_at in_latest.content l ≡ pos content) × (whole_at in_latest.provider_version l ≡ pos n)))
  keeps_both-one_terms l r hl hr =
      let id = numbered db s held v n is in_results.tree (IsNumbered-results db held.broker) r hr in
      and-two_tests (binary-Eq_same_Int (column r 0) (column l in_latest.result) (whole_at 0 r) (whole_at in_latest.result l) id (numbers db held.broker l hl))
      (and-two_tests (binary-Eq_same_Int (column l in_latest.content) (Int (pos content)) (whole_at in_latest.content l) (pos content) (contents db held.broker l hl) refl)
      (and-true_test (binary-Eq_same_Int (column l in_latest.provider_version) (Int (pos n)) (whole_at in_latest.provider_version l) (pos n) (versions db held.broker l hl) refl)))

  -- a row that is shown has the latest result
  abbrev Matches : Row → Type 0
  Matches row = (option_map passed_of (latest_result s content v) ≡ Some (passed_as (whole (whole_at 0 row)) (truth 1 row)))

  returned : EachShown (join content n) db Matches
  returned = EachShown-of_both (join content n) db Matches (λ l r hl hr kept.
      let it = (keeps_both-one_terms l r hl hr).0 kept in
      let e = latest_result-of_row db s held v n is l content hl it.1.0 it.1.1 in
      let stored = result_with-of_row db s held e.0.0 e.0.1 (latest_result-result_with s content v e.0 e.1) r hr (it.0 ∙ e.2) in
      ap (option_map passed_of) e.1 ∙ (λ i. Some (passed_as (whole (sym (it.0 ∙ e.2) i)) (ap (λ (r : ResultRow). r.pass) (sym stored) i))))

  -- and the latest result is shown
  IsShown-has_latest : (rows : List Row) (e : ℕ × Verification) → IsShown (join content n) db rows → latest_result s content v ≡ Some e → (row : Row) × Has rows row
  IsShown-has_latest rows e h found =
      let l = latest_result-has_row db s held v n is content e found in
      let r = result_with-has_row db s held e.0 e.1 (latest_result-result_with s content v e found) in
      let kept = pairs-complete (keeps_both one_terms one_params) (db.trees in_results.tree) (db.trees in_latest.tree) l.0 r.0 l.1 r.1 ((keeps_both-one_terms l.0 r.0 l.1 r.1).1 (r.2 ∙ sym l.4, (l.2, l.3))) in
      (eval_all passes_project (one_params ∷ l.0 ∷ r.0 ∷ []), pair_shown db one_params in_latest.tree in_results.tree one_terms passes_project [] rows h (l.0, r.0) kept)

-- the first row has the latest result, and there is none if there is no row
pub IsShown-join : {X : Type 0} (number : X → ℕ) (pass : X → Bool) (content n : ℕ) (db : Database) (rows : List Row) (found : Option X) (s : Broker) (v : Version) → Holds db s → number_of s.versions v ≡ Some n
    → IsShown (join content n) db rows → option_map (λ x. pass_of (number x) (pass x)) found ≡ option_map pass_cells (slice_get rows 0)
    → option_map (λ x. passed_as (number x) (pass x)) found ≡ option_map passed_of (latest_result s content v)
IsShown-join number pass content n db rows found s v held is h read =
    sym (option_map-compose by_cells (λ x. pass_of (number x) (pass x)) found) ∙ ap (option_map by_cells) read ∙ first rows h
  where
    by_cells : PassCells → Passed
    by_cells c = passed_as (whole (id_in c.0)) c.1

    none : (o : Option (ℕ × Verification)) → IsShown (join content n) db [] → latest_result s content v ≡ o → None ≡ option_map passed_of o
    none None h is_o = refl
    none (Some e) h is_o = absurd ((IsShown-has_latest db s held v content n is [] e h is_o).1)

    first : (rows : List Row) → IsShown (join content n) db rows
        → option_map by_cells (option_map pass_cells (slice_get rows 0)) ≡ option_map passed_of (latest_result s content v)
    first [] h = none (latest_result s content v) h refl
    first (row ∷ rows) h = sym (returned db s held v content n is (row ∷ rows) h row (inl refl))
