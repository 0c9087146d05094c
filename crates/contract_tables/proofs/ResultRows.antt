-- The statements on results, on those that the broker checked, and on the latest ones.
use Rattle.std.specs.{Prelude.{if◌then◌else◌, is_some, IfSome}, Ordering.{eq_by_cmp, is_eq, int_cmp}, Cmp.{eq_by_cmp_equiv, int_cmp_total}}
use Rattle.std.proofs.Common.{◌≡◌, ◌+◌, ◌<◌, ◌^◌, arith, IsTrue, map, ℕ, ℤ, pos, codes, List, [], ◌∷◌, Bool, true, false, refl, sym, ap, subst, ◌∙◌, Option, Ok}
use Rattle.std.proofs.{lemmas.Bool.{false_from_ne_true, lt-ltb}, lemmas.List.{length-map}}
use Rattle.sqlite.specs.{Tree.{rowid}, Edit.{with_rowid}, Rowids.TheVariants.{Chosen}, declared.types.Value.TheVariants.{Null, Int, Text}}
use Rattle.sqlite.specs.{Order.{Row, column, value_cmp}, Cast.{cast_row}, Term.{col, lit}, Effect.{Database}, State.{State, Executes}, Listing.{understood}}
use Rattle.sqlite_sql.specs.Ops.{binary}
use Rattle.sqlite_rules.{specs.{Lists.{Has}, Steps.{PassAlone}, Edit.{is_taken}}, proofs.{ListLemmas.{some_has, some_from}, TableLemmas.{int_is}}}
use Rattle.sqlite_value.proofs.OrderLemmas.{value_cmp-Int}
use Rattle.sqlite_tied.specs.Compute.{everything}
use Rattle.table_access.{specs.{Columns.{whole_at}, Sound.{IsNumbered}}, proofs.{Values.{cast-Null, cast-Int}, SoundLemmas.{at_has}, Storable.{IsShortRow}}}
use Rattle.broker_tables.specs.{Schema.{in_results, in_latest, in_checked_results}, Rows.{has_row_at}, Holds.{IsBroker, result_in, result_of}}
use Rattle.broker_tables.specs.ChangeRefusals.{AreShort}
use Rattle.broker_tables.proofs.Placed.{results, at_results, checked_results, at_checked_results, at_latest, Placed-IsNumbered, column-whole_numbers}
use Rattle.broker_tables.proofs.References.{LeadsTo-each}
use Rattle.broker_tables.proofs.Inserted.{EndsFrom, EndsOnly, Puts, Executes-insert_adds, EndsOnly-insert, is_taken-next_number, IsThere-pacticipant, IsThere-version}
use Rattle.broker_tables.proofs.{Keyed.{latest_by_key}, Upserted.{PutsOver, PutsAt, Executes-upsert_value, shows-set_row, upsert_ends}}
use Rattle.contract_tables.specs.Verified.{run_text, result_row, AllowsResult, AllowsMark, AllowsPoint, PutsRow, Points, texts_of}
use Rattle.contract_tables.proofs.ReferredRows.{has_parent-number, HasRowWith-content, HasRowWith-owner}
use Rattle.contract_tables.proofs.{ResultLookups.{IsNumbered-results, IsNumbered-checked_results, IsFree-new_run}, RunTexts.{length-run_text-le}}
use Rattle.broker_names.specs.Name.{IsName}

-- ---- a result

abbrev pub put_sql : List ℕ
put_sql = codes "INSERT INTO results (number, content, provider, provider_version, pass, run) VALUES (?1, ?2, ?3, ?4, ?5, ?6)"

pub Puts-result : (number content : ℕ) (provider : List ℕ) (version : ℕ) (pass : ℤ) (run : List ℕ)
    → Puts at_results put_sql (Int (pos number) ∷ Int (pos content) ∷ Text provider ∷ Int (pos version) ∷ Int pass ∷ Text run ∷ [])
    (Int (pos number) ∷ Null ∷ Int (pos content) ∷ Text provider ∷ Int (pos version) ∷ Int pass ∷ Text run ∷ [])
unfolding understood everything
Puts-result number content provider version pass run = record {
  terms = col 0 0 ∷ lit Null ∷ col 0 1 ∷ col 0 2 ∷ col 0 3 ∷ col 0 4 ∷ col 0 5 ∷ [];
  width = 7;
  means = record { is = refl; plain = (refl, refl); unlisted = refl };
  whole = refl;
  kinds = refl;
  one = refl;
}

-- the row PassAlone-result_row the CHECK of its mark
PassAlone-result_row : (number content : ℕ) (provider : List ℕ) (version : ℕ) (pass : Bool) (run : Option (List ℕ)) → PassAlone results (result_row number content provider version pass run ∷ [])
unfolding binary value_cmp lib.Ieee.is_nan lib.Ieee.lt
PassAlone-result_row number content provider version true run = record { typed = refl; present = refl; checked = refl }
PassAlone-result_row number content provider version false run = record { typed = refl; present = refl; checked = refl }

short : (number content : ℕ) (provider : List ℕ) (version : ℕ) (pass : Bool) (run : Option (List ℕ)) → number < 2 ^ 32 → AreShort (texts_of provider run) → IsShortRow (result_row number content provider version pass run)
short number content provider version pass run few are = record { wide = omega arith; narrow = omega arith; short = (tt, (tt, (tt, (are.0, (tt, (tt, (length-run_text-le number run few are.1.0, tt))))))) }

module _ (number content : ℕ) (provider : List ℕ) (version : ℕ) (pass : Bool) (run : Option (List ℕ)) (old new : State) where
  abbrev made : Row
  made = result_row number content provider version pass run

  stored : with_rowid Chosen (old.now.trees in_results.tree) (cast_row results made) ≡ made
  stored =
      let mark = if pass then pos 1 else pos 0 in
      λ i. with_rowid Chosen (old.now.trees in_results.tree) (cast-Int (pos number) i ∷ cast-Null i ∷ cast-Int (pos content) i ∷ Text provider ∷ cast-Int (pos version) i ∷ cast-Int mark i ∷ Text (run_text number run) ∷ [])

  module _ {sql : List ℕ} {params : Row} (puts : Puts at_results sql params made) where
    pub result_put : IsBroker old.now → (count : ℕ) → Executes sql params old new (Ok count) → PutsRow in_results.tree made old new
    result_put broker count h = Executes-insert_adds at_results puts old new broker stored count h

    -- if it may be recorded, it fails only as the store fails, or since one of its names is too long
    pub result_ends : number < 2 ^ 32 → IfSome run IsName → EndsFrom [] (texts_of provider run) sql params old new (AllowsResult number content provider version run)
    result_ends few name s here (v, numbered, owner, is, low, high, unused) numbers =
        let held = here.held in
        EndsOnly-insert at_results puts old new held.broker stored (record {
          pass = PassAlone-result_row number content provider version pass run;
          fits = lt-ltb number (2 ^ 63) (omega (arith, few));
          keyed = refl;
          fresh = subst (λ n. is_taken (old.now.trees in_results.tree) (result_row n content provider version pass run) ≡ false) (sym is)
              (subst (λ n. is_taken (old.now.trees in_results.tree) (result_row (n + 1) content provider version pass run) ≡ false) (length-map s.results (result_of s.versions))
              (is_taken-next_number (result_in (old.now.trees in_checked_results.tree)) (old.now.trees in_results.tree) (map (result_of s.versions) s.results) [] held.results (IsNumbered-results old.now held.broker)));
          free = (IsFree-new_run old.now s held provider number run name is (omega (arith, few)) unused made refl refl, tt);
          parents = (
            has_parent-number _ old.now made in_results.content content refl (LeadsTo-each in_results.content).1 (HasRowWith-content old.now s held content low high),
            (IsThere-pacticipant old.now s held made in_results.provider provider (subst (λ p. IsTrue (is_some (s.pacticipants p))) owner (HasRowWith-owner old.now s held v version numbered)) refl, (IsThere-version old.now s held made in_results.provider_version v version numbered refl, tt)),
          );
        }) (texts_of provider run) (short number content provider version pass run few) here.unlimited

-- ---- the mark that the broker checked it

abbrev pub mark_sql : List ℕ
mark_sql = codes "INSERT INTO checked_results (result) VALUES (?1)"

-- a number that no row has isn't taken
is_taken-not_has_row_at : (rows : List Row) → IsNumbered rows → (n : ℕ) → has_row_at int_cmp (whole_at 0) rows (pos n) ≡ false → is_taken rows (Int (pos n) ∷ []) ≡ false
is_taken-not_has_row_at rows rising n off = false_from_ne_true _ (λ taken.
    let hit = some_has (λ r. is_eq (value_cmp (rowid r) (Int (pos n)))) rows taken in
    let ties : eq_by_cmp int_cmp (pos n) (whole_at 0 hit.0) ≡ true =
    (eq_by_cmp_equiv int_cmp_total).symm (pos n) (whole_at 0 hit.0) ∙ sym (ap is_eq (value_cmp-Int (whole_at 0 hit.0) (pos n))) ∙ ap (λ v. is_eq (value_cmp v (Int (pos n)))) (sym (int_is (rowid hit.0) (at_has _ rows hit.0 rising.1 hit.1))) ∙ hit.2 in
    let is_present : has_row_at int_cmp (whole_at 0) rows (pos n) ≡ true = some_from (λ r. eq_by_cmp int_cmp (pos n) (whole_at 0 r)) rows hit.0 hit.1 ties in
    cc)

Puts-mark : (number : ℕ) → Puts at_checked_results mark_sql (Int (pos number) ∷ []) (Int (pos number) ∷ Null ∷ [])
unfolding understood everything
Puts-mark number = record { terms = col 0 0 ∷ lit Null ∷ []; width = 2; means = record { is = refl; plain = (refl, refl); unlisted = refl }; whole = refl; kinds = refl; one = refl }

module _ (number : ℕ) (old new : State) (broker : IsBroker old.now) where
  abbrev mark_made : Row
  mark_made = Int (pos number) ∷ Null ∷ []

  with_rowid-mark_row : with_rowid Chosen (old.now.trees in_checked_results.tree) (cast_row checked_results mark_made) ≡ mark_made
  with_rowid-mark_row = λ i. with_rowid Chosen (old.now.trees in_checked_results.tree) (cast-Int (pos number) i ∷ cast-Null i ∷ [])

  pub Executes-mark : (count : ℕ) → Executes mark_sql (Int (pos number) ∷ []) old new (Ok count) → PutsRow in_checked_results.tree mark_made old new
  Executes-mark count h = Executes-insert_adds at_checked_results (Puts-mark number) old new broker with_rowid-mark_row count h

  -- of a result that is there and isn't Executes-mark it fails only as the store fails
  pub EndsOnly-mark : number < 2 ^ 32 → AllowsMark number old.now → EndsOnly [] mark_sql (Int (pos number) ∷ []) old new
  EndsOnly-mark few (there, off) =
      EndsOnly-insert at_checked_results (Puts-mark number) old new broker with_rowid-mark_row (record {
        pass = record { typed = refl; present = refl; checked = refl };
        fits = lt-ltb number (2 ^ 63) (omega (arith, few));
        keyed = refl;
        fresh = is_taken-not_has_row_at (old.now.trees in_checked_results.tree) (IsNumbered-checked_results old.now broker) number off;
        free = tt;
        parents = (has_parent-number _ old.now mark_made 0 number refl (LeadsTo-each 0).2 there, tt);
      }) [] (λ are. record { wide = omega arith; narrow = omega arith; short = (tt, (tt, tt)) })

-- ---- the latest one for its content and its version

abbrev pub key : Row → ℤ × ℤ
key r = (whole_at in_latest.content r, whole_at in_latest.provider_version r)

module _ (db : Database) (broker : IsBroker db) where
  pub IsNumbered-latest : IsNumbered (db.trees in_latest.tree)
  IsNumbered-latest = Placed-IsNumbered at_latest db broker

  pub contents : (r : Row) → Has (db.trees in_latest.tree) r → column r in_latest.content ≡ Int (whole_at in_latest.content r)
  contents r has = column-whole_numbers at_latest db broker in_latest.content refl r has

  pub versions : (r : Row) → Has (db.trees in_latest.tree) r → column r in_latest.provider_version ≡ Int (whole_at in_latest.provider_version r)
  versions r has = column-whole_numbers at_latest db broker in_latest.provider_version refl r has

  pub numbers : (r : Row) → Has (db.trees in_latest.tree) r → column r in_latest.result ≡ Int (whole_at in_latest.result r)
  numbers r has = column-whole_numbers at_latest db broker in_latest.result refl r has

abbrev pub point_sql : List ℕ
point_sql = codes "INSERT INTO latest (content, provider_version, result) VALUES (?1, ?2, ?3) ON CONFLICT (content, provider_version) DO UPDATE SET result = excluded.result"

PutsOver-latest : (c v n : ℕ) → PutsOver at_latest point_sql (Int (pos c) ∷ Int (pos v) ∷ Int (pos n) ∷ []) (in_latest.content ∷ in_latest.provider_version ∷ []) 3 (col 1 0 ∷ col 1 in_latest.content ∷ col 1 in_latest.provider_version ∷ col 0 7 ∷ []) (Int (pos c) ∷ Int (pos v) ∷ Int (pos n) ∷ [])
unfolding understood everything
PutsOver-latest c v n = record {
  terms = lit Null ∷ col 0 0 ∷ col 0 1 ∷ col 0 2 ∷ [];
  width = 4;
  means = record { is = refl; plain = (refl, refl); unlisted = refl };
  whole = refl;
  kinds = refl;
  one = refl;
  placed = λ v more. refl;
  typed = λ z next. refl;
  keys = refl;
  met = λ made r. refl;
  no_rowid = refl;
  no_first = λ v w r. refl;
  alone = refl;
  fits = refl;
  stored = λ i. cast-Int (pos c) i ∷ cast-Int (pos v) i ∷ cast-Int (pos n) i ∷ [];
}

PutsAt-latest : (c v n : ℕ) → PutsAt latest_by_key (whole_at in_latest.result) (Int (pos c) ∷ Int (pos v) ∷ Int (pos n) ∷ []) 3 (col 1 0 ∷ col 1 in_latest.content ∷ col 1 in_latest.provider_version ∷ col 0 7 ∷ []) (Int (pos c) ∷ Int (pos v) ∷ Int (pos n) ∷ []) (pos c, pos v) (pos n)
PutsAt-latest c v n = record { keyed = λ id. refl; valued = λ id. refl; cells = λ id. refl; last = Int (pos n) ∷ []; whole = refl; sets = λ z r. refl }

module _ (c v n : ℕ) (old new : State) (broker : IsBroker old.now) where
  abbrev params : Row
  params = Int (pos c) ∷ Int (pos v) ∷ Int (pos n) ∷ []

  pub Executes-Points : (count : ℕ) → Executes point_sql params old new (Ok count) → Points c v n old new
  Executes-Points count h =
      let done = Executes-upsert_value latest_by_key (PutsOver-latest c v n) (PutsAt-latest c v n) old new broker count h in
      (done.0, λ d w. done.2 (pos d, pos w), done.1)

  -- of what is there it fails only as the store fails
  pub EndsOnly-point : AllowsPoint c v n old.now → EndsOnly [] point_sql params old new
  EndsOnly-point (content, version, result, room) =
      upsert_ends (PutsOver-latest c v n) old new broker (shows-set_row latest_by_key (PutsOver-latest c v n) (PutsAt-latest c v n) old new broker) room.0 (λ id. record { typed = refl; present = refl; checked = refl }) (λ id.
      (has_parent-number _ old.now (id ∷ params) in_latest.content c refl (LeadsTo-each in_latest.content).1 content, (has_parent-number _ old.now (id ∷ params) in_latest.provider_version v refl (LeadsTo-each in_latest.provider_version).0 version, (has_parent-number _ old.now (id ∷ params) in_latest.result n refl (LeadsTo-each in_latest.result).2 result, tt))))
      [] (λ are. (tt, (tt, (tt, tt)))) (omega arith) (omega arith)
