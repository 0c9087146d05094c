-- What the latest results for a content say: rows of latest, joined with those of results and with the marks; and the
-- versions that are listed with them.
use Rattle.std.specs.Prelude.{Contains, option_map, IsSomeAnd, IsPermutation, ⊤, ◌↔◌}
use Rattle.std.proofs.Common.{◌≡◌, ◌==◌, ℕ, pos, codes, List, [], ◌∷◌, Bool, true, false, true≢false, refl, sym, ap, subst, ◌∙◌, Some, None, Option}
use Rattle.std.proofs.{lemmas.Bool.{eq-eqb, eqb-true}, lemmas.List.Sorted.{Contains-permutation, IsPermutation-sym}}
use Rattle.sqlite_rules.{specs.Lists.{Has}, proofs.TableLemmas.{int_is}}
use Rattle.sqlite_tied.specs.Compute.{everything}
use Rattle.table_access.specs.{Columns.{whole_at}, Sound.{IsNumbered, whole}, Statements.{from_both, keeps_both}, Reading.{AreRead}}
use Rattle.table_access.proofs.{SoundLemmas.{any_of, at_has}, Members.{pairs-complete, pairs-sound, any_has, contains_has, has_contains}}
use Rattle.broker_tables.specs.{Schema.{in_results, in_latest, in_checked_results}, Numbers.{number_of}, Holds.{Holds, ResultRow}}
use Rattle.broker_tables.proofs.{VersionRows.{binary-Eq_same_Int, option_and_then-Some}, TableQuery.{TableQuery, IsShown}, Listed.{Lists-AreRead}}
use Rattle.contract_tables.specs.{declared.version_results.ContentPass.{ContentPass}, declared.listings.NumberedName.{NumberedName}}
use Rattle.contract_tables.specs.{Verified.{result_with, latest_at}, VersionResults.{is_among, IsPassRow}}
use Rattle.contract_tables.specs.ResultsByVersion.{verified_cmp, named_cmp, AgreeWith, AgreeOnPasses, AgreeOnChecked, IsUnlisted, IsSaidBy, IsVerifiedAs}
use Rattle.contract_tables.proofs.{ItemLists.{and-two_tests, and-true_test}, JoinRows.{items-of_kept_pair, items-has_kept_pair}}
use Rattle.contract_tables.proofs.{LastRow.{latest_result-result_with}, ResultLookups.{IsNumbered-results, IsNumbered-checked_results}}
use Rattle.contract_tables.proofs.{ResultRows.{contents, numbers}, VerifiedList.{option_map-Some_sound, latest_result-has_row}}
use Rattle.contract_tables.proofs.VersionResults.{passes_project, result_with-has_row, result_with-of_row, checked-of_mark, checked-has_mark}
use Rattle.broker_core.specs.{declared.command.Version.{Version}, declared.answer.Verified.{Verified}, Listing.{Lists}, Machine.{IsLatest}}
use Rattle.broker_core.specs.{State.{State as Broker, Verification, latest_result, said_by}, Text.{Text, text_cmp, version}}
use Rattle.sqlite.specs.{Tree.{rowid}, Edit.{id_in}, declared.types.Value.TheVariants.{Int}, Order.{Row, column}, Term.{Term, col, op2, eval_all}}
use Rattle.sqlite.specs.{Collation.TheVariants.{Binary}, Effect.{Database, Answers}, Listing.{understood}}
use Rattle.sqlite_sql.specs.{declared.ops.BinaryOp.TheVariants.{Compare}, declared.ops.CompareOp.TheVariants.{Eq}}

-- ---- the two statements

-- ON the row's number is the result, WHERE content = ?1
abbrev pub terms : List Term
terms = op2 (Compare Eq Binary) (col 2 0) (col 1 in_latest.result) ∷ op2 (Compare Eq Binary) (col 1 in_latest.content) (col 0 0) ∷ []

abbrev pub returned_marks_project : List Term
returned_marks_project = col 1 in_latest.result ∷ []

pub returned_passes : (n : ℕ)
    → TableQuery (codes "SELECT r.number, r.pass, l.content, r.content, l.provider_version, r.provider_version FROM latest l JOIN results r ON r.number = l.result WHERE l.content = ?1")
    (Int (pos n) ∷ []) (from_both in_latest.tree in_results.tree terms passes_project [])
unfolding understood everything
returned_passes n = record { names = _; means = record { is = refl; plain = (refl, refl); unlisted = refl }; runs = record { whole = refl; typed = refl; sumless = refl } }

pub returned_marks : (n : ℕ)
    → TableQuery (codes "SELECT l.result FROM latest l JOIN checked_results c ON c.result = l.result WHERE l.content = ?1")
    (Int (pos n) ∷ []) (from_both in_latest.tree in_checked_results.tree terms returned_marks_project [])
unfolding understood everything
returned_marks n = record { names = _; means = record { is = refl; plain = (refl, refl); unlisted = refl }; runs = record { whole = refl; typed = refl; sumless = refl } }

-- ---- the rows that they join

module _ (db : Database) (s : Broker) (held : Holds db s) (k : ℕ) where
  abbrev params : Row
  params = Int (pos k) ∷ []

  abbrev IsNumber : Row → ℕ → Type 0
  IsNumber row n = (column row 0 ≡ Int (pos n))

  -- they are joined with those of a table by the numbers of results, of which each says something
  module _ (u : ℕ) (rising : IsNumbered (db.trees u)) {X : Type 0} (project : List Term) (reads : Row → X → Type 0) (number : X → ℕ)
      (Says : X → Verification → Type 0) (item : ℕ × Verification → X) (Meets : Verification → Type 0)
      (says : (l r : Row) (x : X) (v : Verification) → Has (db.trees u) r → whole_at 0 r ≡ whole_at in_latest.result l → reads (eval_all project (params ∷ l ∷ r ∷ [])) x
      → result_with s (number x) ≡ Some v → Says x v)
      (said : (e : ℕ × Verification) → result_with s e.0 ≡ Some e.1 → Meets e.1
      → (r : Row) × Has (db.trees u) r × (whole_at 0 r ≡ pos e.0)
      × ((l : Row) (y : X) → whole_at in_latest.content l ≡ pos k → whole_at in_latest.result l ≡ pos e.0 → reads (eval_all project (params ∷ l ∷ r ∷ [])) y → y ≡ item e)) where
    -- what ON and WHERE test
    parts_of : (l r : Row) → Has (db.trees in_latest.tree) l → Has (db.trees u) r
        → (keeps_both terms params l r ≡ true) ↔ ((whole_at 0 r ≡ whole_at in_latest.result l) × (whole_at in_latest.content l ≡ pos k))
    parts_of l r hl hr =
        let number : column r 0 ≡ Int (whole_at 0 r) = int_is (rowid r) (at_has _ (db.trees u) r rising.1 hr) in
        and-two_tests (binary-Eq_same_Int (column r 0) (column l in_latest.result) (whole_at 0 r) (whole_at in_latest.result l) number (numbers db held.broker l hl))
        (and-true_test (binary-Eq_same_Int (column l in_latest.content) (Int (pos k)) (whole_at in_latest.content l) (pos k) (contents db held.broker l hl) refl))

    returned : (rows : List Row) (items : List X) → Answers db (record { lets = []; body = from_both in_latest.tree u terms project [] }) params rows
        → AreRead reads rows items → AgreeWith number Says item Meets s k items
    returned rows items h read = (
      λ x v c is.
          let q = items-of_kept_pair db params terms project reads rows items read in_latest.tree u h x c in
          let it = pairs-sound (keeps_both terms params) (db.trees u) (db.trees in_latest.tree) q.0 q.1 in
          says q.0.0 q.0.1 x v it.1 ((parts_of q.0.0 q.0.1 it.0 it.1).0 it.2).0 q.2 is,
      λ w e found meets.
          let at = option_and_then-Some (number_of s.versions w) (λ n. latest_at (db.trees in_latest.tree) k n) (pos e.0) (held.latest k w ∙ ap (option_map (λ (e : ℕ × Verification). pos e.0)) found) in
          let l = latest_result-has_row db s held w at.0 at.1 k e found in
          let r = said e (latest_result-result_with s k w e found) meets in
          let kept = pairs-complete (keeps_both terms params) (db.trees u) (db.trees in_latest.tree) l.0 r.0 l.1 r.1 ((parts_of l.0 r.0 l.1 r.1).1 (r.2 ∙ sym l.4, l.2)) in
          let y = items-has_kept_pair db params terms project reads rows items read in_latest.tree u h (l.0, r.0) kept in
          subst (Contains items) (r.3 l.0 y.0 l.2 l.4 y.2) y.1,
    )

  pub AgreeOnPasses-of_shown_rows : (rows : List Row) (items : List ContentPass) → IsShown (returned_passes k) db rows → AreRead IsPassRow rows items → AgreeOnPasses s k items
  AgreeOnPasses-of_shown_rows =
      returned in_results.tree (IsNumbered-results db held.broker) passes_project IsPassRow (λ x. x.result) (λ x r. x.pass ≡ r.pass)
      (λ e. record { content = k; result = e.0; pass = e.1.pass }) (λ r. ⊤)
      (λ l r x v has same shown is. sym shown.2 ∙ ap (λ (y : ResultRow). y.pass) (result_with-of_row db s held x.result v is r has (ap id_in shown.1)))
      (λ e is _.
      let r = result_with-has_row db s held e.0 e.1 is in
      let pass = ap (λ (z : ResultRow). z.pass) r.3 in (
        r.0,
        r.1,
        r.2,
        λ l y content number shown i.
            record { content = whole ((sym (ap id_in shown.0) ∙ content) i); result = whole ((sym (ap id_in shown.1) ∙ r.2) i); pass = (sym shown.2 ∙ pass) i },
      ))

  pub AgreeOnChecked-of_shown_rows : (rows : List Row) (items : List ℕ) → IsShown (returned_marks k) db rows → AreRead IsNumber rows items → AgreeOnChecked s k items
  AgreeOnChecked-of_shown_rows =
      returned in_checked_results.tree (IsNumbered-checked_results db held.broker) returned_marks_project IsNumber (λ n. n) (λ n r. r.checked ≡ true) (λ e. e.0) (λ r. r.checked ≡ true)
      (λ l r n v has same shown is. checked-of_mark db s held n v is r has (same ∙ ap id_in shown))
      (λ e is so. let r = checked-has_mark db s held e.0 e.1 is so in (r.0, r.1, r.2, λ l y content number shown. ap whole (sym (ap id_in shown) ∙ number)))

-- the same in another order
pub AgreeWith-permutation : {X : Type 0} (number : X → ℕ) (Says : X → Verification → Type 0) (item : ℕ × Verification → X) (Meets : Verification → Type 0) (s : Broker) (k : ℕ)
    (xs ys : List X) → IsPermutation xs ys → AgreeWith number Says item Meets s k xs → AgreeWith number Says item Meets s k ys
AgreeWith-permutation number Says item Meets s k xs ys moved agree = (
  λ x r there is. agree.0 x r (Contains-permutation ys xs x (IsPermutation-sym xs ys moved) there) is,
  λ w e found meets. Contains-permutation xs ys (item e) moved (agree.1 w e found meets),
)

-- ---- the versions that are listed with them

module _ (s : Broker) (content : ℕ) (passes : List ContentPass) (checked : List ℕ) (agree : AgreeOnPasses s content passes) (are_checked : AgreeOnChecked s content checked) where
  -- whether a latest result was checked is whether its number is there
  is_among-latest_checked : (w : Version) (e : ℕ × Verification) → latest_result s content w ≡ Some e → is_among checked e.0 ≡ e.1.checked
  is_among-latest_checked w e is = go (is_among checked e.0) e.1.checked refl refl
    where
      go : (a b : Bool) → is_among checked e.0 ≡ a → e.1.checked ≡ b → a ≡ b
      go true true here so = refl
      go false false here so = refl
      go true false here so =
          let it = any_has (λ c. c == e.0) checked here in
          let there : Contains checked e.0 = subst (Contains checked) (eqb-true it.0 e.0 it.2) (has_contains checked it.0 it.1) in
          absurd (true≢false (sym (are_checked.0 e.0 e.1 there (latest_result-result_with s content w e is)) ∙ so))
      go false true here so = absurd (true≢false (sym (any_of (λ c. c == e.0) checked e.0 (contains_has checked e.0 (are_checked.1 w e is so))
          (eq-eqb e.0 e.0 refl)) ∙ here))

  -- what both lists say of a latest result is what it says
  IsSaidBy-latest : (w : Version) (e : ℕ × Verification) → latest_result s content w ≡ Some e → (r : Verified) → r.result ≡ e.0 → IsSaidBy passes checked r → r.latest ≡ said_by e.1
  IsSaidBy-latest w e is r number by =
      let pass : r.latest.pass ≡ e.1.pass = sym by.1.3 ∙ agree.0 by.1.0 e.1 by.1.1 (ap (result_with s) (by.1.2 ∙ number) ∙ latest_result-result_with s content w e is) in
      let mark : r.latest.checked ≡ e.1.checked = by.0 ∙ ap (is_among checked) number ∙ is_among-latest_checked w e is in
      λ i. record { pass = pass i; checked = mark i }

  module _ (p : Text) where
    abbrev IsNamed : NumberedName → Type 0
    IsNamed x = option_map (λ e. e.0) (latest_result s content (version p x.name)) ≡ Some x.number

    abbrev IsVerified : Verified → Type 0
    IsVerified r = IsLatest s content (version p r.provider_version) r

    latest_is : (o : Option (ℕ × Verification)) (r : Verified) → IsSomeAnd o (λ e. (r.result ≡ e.0) × (r.latest ≡ said_by e.1))
        → (e : ℕ × Verification) × (o ≡ Some e) × (r.result ≡ e.0) × (r.latest ≡ said_by e.1)
    latest_is None r h = absurd h
    latest_is (Some e) r h = (e, refl, h.0, h.1)

    pub versions_returned : (named : List NumberedName) (found : List Verified) → Lists named_cmp IsNamed named → AreRead (IsVerifiedAs passes checked) named found → Lists verified_cmp IsVerified found
    versions_returned = Lists-AreRead named_cmp IsNamed (IsVerifiedAs passes checked) verified_cmp IsVerified
        (λ a b x y ha hb is_x is_y less. (λ i. text_cmp (is_x.0 i) (is_y.0 i)) ∙ less)
        (λ x r named is.
        let w = version p x.name in
        let e = option_map-Some_sound (λ e. e.0) (latest_result s content w) x.number named in
        let number : r.result ≡ e.0.0 = is.1 ∙ sym e.2 in
        let found : latest_result s content (version p r.provider_version) ≡ Some e.0 = ap (λ n. latest_result s content (version p n)) is.0 ∙ e.1 in
        subst (λ o. IsSomeAnd o (λ e. (r.result ≡ e.0) × (r.latest ≡ said_by e.1))) (sym found) (number, IsSaidBy-latest w e.0 e.1 r number is.2))
        (λ r there.
        let w = version p r.provider_version in
        let e = latest_is (latest_result s content w) r there in (
          record { name = r.provider_version; number = r.result },
          ap (option_map (λ (e : ℕ × Verification). e.0)) e.1 ∙ ap Some (sym e.2),
          λ y is.
              let latest : y.latest ≡ r.latest = IsSaidBy-latest w e.0 e.1 y (is.1 ∙ e.2) is.2 ∙ sym e.3 in
              λ i. record { provider_version = is.0 i; result = is.1 i; latest = latest i },
        ))

    -- the passes say something of each of their results
    pub none_unlisted : (named : List NumberedName) → Lists named_cmp IsNamed named → ¬ ((x : NumberedName) × Contains named x × IsUnlisted passes x.number)
    none_unlisted named listed (x, there, silent) =
        let w = version p x.name in
        let e = option_map-Some_sound (λ e. e.0) (latest_result s content w) x.number ((listed.exactly x).0 there) in
        silent (record { content = content; result = e.0.0; pass = e.0.1.pass }, agree.1 w e.0 e.1 tt, e.2)
