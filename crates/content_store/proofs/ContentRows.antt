-- The statements on contents.
use Rattle.std.specs.{Prelude.{option_map}, List.{AllByRecursion, enumerate_from, position_or_len, find as first}, Cmp.Lexicographic.{nat_list_cmp_total}}
use Rattle.std.specs.{Ordering.{eq_by_cmp, int_cmp, is_eq, is_gt}, Cmp.{int_cmp_total, eq_by_cmp_equiv}, FinMap.Entries.{find}}
use Rattle.std.specs.FinMap.{int_cmp-IsAntisymmetric}
use Rattle.std.proofs.Common.{◌≡◌, ◌<◌, ◌^◌, ◌+◌, ℕ, ℤ, pos, cond, codes, List, [], ◌∷◌, ◌++◌, map, filter, length, true, false, Bool, ◌||◌, not, Ordering, refl, sym, ap, subst, ◌∙◌, slice_get, unwrap_or, Some, None, Option, Ok, arith, Less}
use Rattle.std.proofs.{lemmas.List.{length-map, map-append}, lemmas.Bool.{ltb-true, lt-ltb}}
use Rattle.sqlite.specs.{Tree.{IsAscending, rowid}, Edit.{id_in, with_rowid}, declared.types.Value.TheVariants.{Null, Int, Text}}
use Rattle.sqlite.specs.{Order.{Row, column, value_cmp}, Term.{Term, col, lit, op2}, Collation.TheVariants.{Binary}, Rowids.TheVariants.{Chosen}}
use Rattle.sqlite.specs.{Cast.{cast_row}, Table.{Table}, Effect.{Database}, State.{State, Shown, Executes}, Listing.{understood}}
use Rattle.sqlite_keyed.{specs.Lists.{insert_sorted, sort_by}, proofs.ListLemmas.{ascending-filter, map-map}}
use Rattle.sqlite_sql.specs.{Query.{sort_cmp}, declared.ops.BinaryOp.TheVariants.{Compare}, declared.ops.CompareOp.TheVariants.{Eq}}
use Rattle.sqlite_value.{specs.declared.keys.Key.{Key}, proofs.OrderLemmas.{then-Equal}}
use Rattle.sqlite_rules.{specs.{Lists.{Has}, Edit.{is_taken}}, proofs.TableLemmas.{int_is}}
use Rattle.sqlite_tied.specs.Compute.{everything}
use Rattle.table_access.{specs.{Columns.{text, text_cmp, whole_at}, Statements.{from_table, up_to, newest, keeps, shows}}, proofs.Values.{cast-Null, cast-Int}}
use Rattle.table_access.proofs.{Steps.{IsPermutation-kept_rows}, Newest.{Shown-newest_number}, Ordered.{Answers-in_order}, Members.{IsAscending-map_on}}
use Rattle.table_access.proofs.{Keys.{keeps-one_key, IsNumbered-whole_at_unique, text_key, whole_key}, Maps.{find-first_shown}, SoundLemmas.{at_has, all_of}}
use Rattle.table_access.proofs.ReadLemmas.{option_map-compose}
use Rattle.broker_tables.specs.{Schema.{in_contents, broker_schema}, Numbers.{numbered}, Holds.{IsBroker, with_digest}, Rows.{rows_of}}
use Rattle.broker_tables.proofs.Inserted.{EndsFrom, Puts, Executes-insert_adds, EndsOnly-insert, is_taken-next_number}
use Rattle.broker_tables.proofs.{Newest.{unwrap_or-newest as newest_count}, TableQuery.{TableQuery, IsShown}}
use Rattle.broker_tables.proofs.Frames.{Means-over_broker_schema, ChangesOnly-Frame, Frame, is_other, Frame-IsBroker}
use Rattle.broker_tables.proofs.{Placed.{contents, at_contents, Placed-IsNumbered, column-texts}, NextRow.{IsAdded-numbered}, ByNumber.{find-numbered}}
use Rattle.broker_core.specs.{Limit.{has_room}, Text.{same_text}}
use Rattle.content_store.specs.Contents.{ContentsBy, AreContentsBy, with_digest_by, text_in, is_among, found_in, IsPut}
use Rattle.content_store.proofs.TextNumbers.{same_is, position_or_len-absent}

pub column-content_number : (db : Database) → IsBroker db → (r : Row) → Has (db.trees in_contents.tree) r → column r in_contents.number ≡ Int (whole_at in_contents.number r)
column-content_number db broker r has = int_is (rowid r) (at_has _ (db.trees in_contents.tree) r (Placed-IsNumbered at_contents db broker).1 has)

-- ---- the text with a number

pub stored : (z : ℤ)
    → TableQuery (codes "SELECT body FROM contents WHERE number = ?1")
    (Int z ∷ []) (from_table in_contents.tree (op2 (Compare Eq Binary) (col 1 in_contents.number) (col 0 0) ∷ []) (col 1 in_contents.body ∷ []) [])
unfolding understood everything
stored z = record { names = _; means = record { is = refl; plain = (refl, refl); unlisted = refl }; runs = record { whole = refl; typed = refl; sumless = refl } }

-- ---- how many texts there are

abbrev count_sql : List ℕ
count_sql = codes "SELECT number FROM contents ORDER BY number DESC LIMIT 1"

pub highest : TableQuery count_sql [] (up_to 1 (from_table in_contents.tree [] (col 1 in_contents.number ∷ []) newest))
unfolding understood everything
highest = record { names = _; means = record { is = refl; plain = (refl, refl); unlisted = refl }; runs = record { whole = refl; typed = refl; sumless = refl } }

pub Shown-content_count : (digest : List ℕ → List ℕ) (old new : State) (rows : List Row) (texts : List (List ℕ)) (found : Option ℕ) → ContentsBy digest old.now texts → Shown count_sql [] old new rows
    → option_map (λ n. Int (pos n)) found ≡ option_map (λ row. column row 0) (slice_get rows 0) → unwrap_or found 0 ≡ length texts
Shown-content_count digest old new rows texts found held h read =
    newest_count (λ r. (text in_contents.digest r, text in_contents.body r)) (old.now.trees in_contents.tree) (map (with_digest_by digest) texts) found held.are
    (Shown-newest_number count_sql old new in_contents.tree _ (Means-over_broker_schema old.now held.broker count_sql highest.means) (Placed-IsNumbered at_contents old.now held.broker) rows h found read)
    ∙ length-map texts (with_digest_by digest)

-- ---- the text with a number, in the rows

abbrev numbers_from : ℕ → List (List ℕ) → List (ℤ × List ℕ)
numbers_from m texts = map (λ e. (pos e.0, e.1)) (enumerate_from m texts)

-- the row of a number has its text
AreContentsBy-numbers_from : (digest : List ℕ → List ℕ) (rows : List Row) (texts : List (List ℕ)) → AreContentsBy digest texts rows → map {B = ℤ × List ℕ} (λ r. (whole_at in_contents.number r, text in_contents.body r)) rows ≡ numbers_from 1 texts
AreContentsBy-numbers_from digest rows texts is = sym (map-map turn (λ r. (whole_at in_contents.number r, (text in_contents.digest r, text in_contents.body r))) rows) ∙ ap (map turn) is ∙ without 1 texts
  where
    turn : ℤ × (List ℕ × List ℕ) → ℤ × List ℕ
    turn e = (e.0, e.1.1)

    without : (m : ℕ) (ts : List (List ℕ)) → map turn (map (λ e. (pos e.0, e.1)) (enumerate_from m (map (with_digest_by digest) ts))) ≡ numbers_from m ts
    without m [] = refl
    without m (t ∷ ts) = ap (λ more. (pos m, t) ∷ more) (without (m + 1) ts)

keeps-by_content_number : (db : Database) (broker : IsBroker db) (z : ℤ) → AllByRecursion (λ r. keeps (op2 (Compare Eq Binary) (col 1 in_contents.number) (col 0 0) ∷ []) (Int z ∷ []) r ≡ eq_by_cmp int_cmp z (whole_at in_contents.number r)) (db.trees in_contents.tree)
keeps-by_content_number db broker z = all_of _ (db.trees in_contents.tree) (λ r has. keeps-one_key (whole_key in_contents.number) 0 (Int z ∷ []) z refl r (λ i. column-content_number db broker r has i ∷ []))

pub IsShown-text_in : (digest : List ℕ → List ℕ) (z : ℤ) (n : ℕ) → z ≡ pos n → (db : Database) (rows : List Row) (texts : List (List ℕ)) → ContentsBy digest db texts → IsShown (stored z) db rows
    → option_map (text 0) (slice_get rows 0) ≡ text_in texts n
IsShown-text_in digest z n is db rows texts held h =
    find-first_shown int_cmp_total int_cmp-IsAntisymmetric (whole_at in_contents.number) (text in_contents.body) _ (text 0) (λ r. refl) z _ (db.trees in_contents.tree) rows (keeps-by_content_number db held.broker z) (IsNumbered-whole_at_unique (db.trees in_contents.tree) (Placed-IsNumbered at_contents db held.broker))
    (IsPermutation-kept_rows db _ in_contents.tree _ _ _ rows h)
    ∙ ap (find int_cmp z) (AreContentsBy-numbers_from digest (db.trees in_contents.tree) texts held.are) ∙ ap (λ k. find int_cmp k (numbers_from 1 texts)) is ∙ find-numbered texts n

-- ---- the number of a text

abbrev of_digest : List Term
of_digest = op2 (Compare Eq Binary) (col 1 in_contents.digest) (col 0 0) ∷ []

abbrev rising : List (Term × Key)
rising = (col 1 in_contents.number, record { collation = Binary; descending = false }) ∷ []

abbrev pub project : List Term
project = col 1 in_contents.number ∷ col 1 in_contents.body ∷ []

pub sharing : (dg : List ℕ)
    → TableQuery (codes "SELECT number, body FROM contents WHERE digest = ?1 ORDER BY number")
    (Text dg ∷ []) (from_table in_contents.tree of_digest project rising)
unfolding understood everything
sharing dg = record { names = _; means = record { is = refl; plain = (refl, refl); unlisted = refl }; runs = record { whole = refl; typed = refl; sumless = refl } }

-- a list that rises is sorted already
sort_by-sorted_already : {X : Type 0} (cmp : X → X → Ordering) (xs : List X) → IsAscending (λ a b. cmp a b ≡ Less) xs → sort_by cmp xs ≡ xs
sort_by-sorted_already cmp [] up = refl
sort_by-sorted_already {X} cmp (x ∷ xs) up = ap (insert_sorted cmp x) (sort_by-sorted_already cmp xs up.1) ∙ here xs up.0
  where
    here : (ys : List X) → AllByRecursion (λ y. cmp x y ≡ Less) ys → insert_sorted cmp x ys ≡ x ∷ ys
    here [] all = refl
    here (y ∷ ys) all = ap (λ o. cond (is_gt o) (y ∷ insert_sorted cmp x ys) (x ∷ y ∷ ys)) all.0

-- the IsShown-candidates, in the order of their numbers
IsShown-candidates : (dg : List ℕ) (db : Database) (rows : List Row) → IsBroker db → IsShown (sharing dg) db rows → rows ≡ map (shows project (Text dg ∷ [])) (filter (keeps of_digest (Text dg ∷ [])) (db.trees in_contents.tree))
IsShown-candidates dg db rows broker h =
    Answers-in_order db (Text dg ∷ []) in_contents.tree of_digest project rising rows h
    (IsAscending-map_on _ _ kept (λ a b ha hb less. ap is_eq less) up)
    ∙ ap (map (shows project (Text dg ∷ []))) (sort_by-sorted_already by_query kept up)
  where
    kept : List Row
    kept = filter (keeps of_digest (Text dg ∷ [])) (db.trees in_contents.tree)

    by_query : Row → Row → Ordering
    by_query a b = sort_cmp rising ((Text dg ∷ []) ∷ a ∷ []) ((Text dg ∷ []) ∷ b ∷ [])

    up : IsAscending (λ a b. by_query a b ≡ Less) kept
    up = ascending-filter (λ a b. by_query a b ≡ Less) (keeps of_digest (Text dg ∷ [])) (db.trees in_contents.tree) (IsAscending-map_on _ _ (db.trees in_contents.tree) (λ a b ha hb less. then-Equal (value_cmp (column a in_contents.number) (column b in_contents.number)) ∙ less) (Placed-IsNumbered at_contents db broker).0)

module _ (digest : List ℕ → List ℕ) (body dg : List ℕ) (is : digest body ≡ dg) where
  abbrev Entry : Type 0
  Entry = ℤ × (List ℕ × List ℕ)

  abbrev entry : Row → Entry
  entry r = (whole_at in_contents.number r, (text in_contents.digest r, text in_contents.body r))

  abbrev shown : Row → Row
  shown r = shows project (Text dg ∷ []) r

  abbrev head_of : Entry → List Entry → Entry
  head_of d [] = d
  head_of d (e ∷ es) = e

  abbrev rest_of : List Entry → List Entry
  rest_of [] = []
  rest_of (e ∷ es) = es

  abbrev place : List (List ℕ) → ℕ
  place texts = position_or_len (same_text body) texts

  abbrev has_text : Row → Bool
  has_text row = same_text body (text 1 row)

  -- of the rows with its digest, the first that has the text is the one of its number
  abbrev Finds : ℕ → List Row → List (List ℕ) → Type 0
  Finds m kept texts = (option_map (whole_at 0) (first has_text (map shown kept)) ≡ cond (is_among texts body) (Some (pos (place texts + m))) None)

  Finds-first_from : (m : ℕ) (p : Row → Bool) (rows : List Row) (texts : List (List ℕ)) → AllByRecursion (λ r. p r ≡ eq_by_cmp text_cmp dg (text in_contents.digest r)) rows
      → map entry rows ≡ map {B = Entry} (λ e. (pos e.0, e.1)) (enumerate_from m (map (with_digest_by digest) texts)) → Finds m (filter p rows) texts
  Finds-first_from m p [] [] tests h = refl
  Finds-first_from m p (r ∷ rows) (t ∷ texts) tests h = go (p r) refl (same_text body t) refl (Finds-first_from (m + 1) p rows texts tests.1 (ap rest_of h))
    where
      one : entry r ≡ (pos m, (digest t, t))
      one = ap (head_of (entry r)) h

      hits : same_text body (text in_contents.body r) ≡ same_text body t
      hits = ap (λ (e : Entry). same_text body e.1.1) one

      next : place texts + (m + 1) ≡ 1 + place texts + m
      next = omega arith

      go : (a : Bool) → p r ≡ a → (b : Bool) → same_text body t ≡ b → Finds (m + 1) (filter p rows) texts → Finds m (cond a (r ∷ filter p rows) (filter p rows)) (t ∷ texts)
      go true e true f later = rw (hits, f) (ap Some (ap (λ (x : Entry). x.0) one ∙ ap pos (let same : m ≡ 0 + m = omega arith in same)))
      go false e true f later =
          absurd (let same : digest t ≡ dg = ap digest (sym (same_is body t f)) ∙ is in
          let tied : eq_by_cmp text_cmp dg (text in_contents.digest r) ≡ true = ap (eq_by_cmp text_cmp dg) (ap (λ (x : Entry). x.1.0) one ∙ same) ∙ (eq_by_cmp_equiv nat_list_cmp_total).refl dg in
          let clash : true ≡ false = sym tied ∙ sym tests.0 ∙ e in cc)
      go true e false f later = rw (hits, f, ← next) later
      go false e false f later = rw (f, ← next) later
  Finds-first_from m p _ _ tests h = absurd (let e = h in cc)

  pub IsShown-found_in : (db : Database) (rows : List Row) (texts : List (List ℕ)) (found : Option ℕ) → ContentsBy digest db texts → IsShown (sharing dg) db rows
      → option_map (λ n. Int (pos n)) found ≡ option_map (λ row. column row 0) (first (λ row. same_text body (text 1 row)) rows) → found ≡ found_in texts body
  IsShown-found_in db rows texts found held h read =
      named found (is_among texts body) (sym (option_map-compose id_in (λ n. Int (pos n)) found) ∙ ap (option_map id_in) read ∙ option_map-compose id_in (λ row. column row 0) (first has_text rows)
      ∙ ap (λ rs. option_map (whole_at 0) (first has_text rs)) (IsShown-candidates dg db rows held.broker h)
      ∙ Finds-first_from 1 (keeps of_digest (Text dg ∷ [])) (db.trees in_contents.tree) texts
      (all_of _ (db.trees in_contents.tree) (λ r has. keeps-one_key (text_key in_contents.digest) 0 (Text dg ∷ []) dg refl r (λ i. column-texts at_contents db held.broker in_contents.digest refl r has i ∷ []))) held.are)
    where
      named : (x : Option ℕ) (b : Bool) → option_map pos x ≡ cond b (Some (pos (place texts + 1))) None → x ≡ cond b (Some (place texts + 1)) None
      named None false e = refl
      named (Some n) true e = let same : n ≡ place texts + 1 = cc in ap Some same
      named _ _ e = absurd cc

-- ---- a text is put under the next number

abbrev pub put_sql : List ℕ
put_sql = codes "INSERT INTO contents (number, digest, body) VALUES (?1, ?2, ?3)"

Puts-content : (number : ℕ) (dg body : List ℕ) → Puts at_contents put_sql (Int (pos number) ∷ Text dg ∷ Text body ∷ []) (Int (pos number) ∷ Null ∷ Text dg ∷ Text body ∷ [])
unfolding understood everything
Puts-content number dg body = record { terms = col 0 0 ∷ lit Null ∷ col 0 1 ∷ col 0 2 ∷ []; width = 4; means = record { is = refl; plain = (refl, refl); unlisted = refl }; whole = refl; kinds = refl; one = refl }

with_rowid-content_row : (number : ℕ) (dg body : List ℕ) (rows : List Row) → with_rowid Chosen rows (cast_row contents (Int (pos number) ∷ Null ∷ Text dg ∷ Text body ∷ [])) ≡ Int (pos number) ∷ Null ∷ Text dg ∷ Text body ∷ []
with_rowid-content_row number dg body rows = λ i. with_rowid Chosen rows (cast-Int (pos number) i ∷ cast-Null i ∷ Text dg ∷ Text body ∷ [])

-- the other tables keep their rows, if only this table changed
AllByRecursion-others_kept : (name : List ℕ) (ts : List Table) (old new : Database) → AllByRecursion (λ n. is_other (name ∷ []) n ≡ true → rows_of new n ≡ rows_of old n) (map (λ t. t.name) ts) → AllByRecursion (λ t. same_text t.name name ≡ false → rows_of new t.name ≡ rows_of old t.name) ts
AllByRecursion-others_kept name [] old new all = tt
AllByRecursion-others_kept name (t ∷ ts) old new all = (λ apart. all.0 (ap (λ b. not (b || false)) apart), AllByRecursion-others_kept name ts old new all.1)

pub Executes-IsPut : (digest : List ℕ → List ℕ) (number : ℕ) (dg body : List ℕ) → digest body ≡ dg → (old new : State) (count : ℕ) (texts : List (List ℕ)) → ContentsBy digest old.now texts → is_among texts body ≡ false → number ≡ length texts + 1
    → Executes put_sql (Int (pos number) ∷ Text dg ∷ Text body ∷ []) old new (Ok count) → IsPut digest body texts number old.now new.now
Executes-IsPut digest number dg body by old new count texts held free is h =
    let made = Int (pos number) ∷ Null ∷ Text dg ∷ Text body ∷ [] in
    let it = Executes-insert_adds at_contents (Puts-content number dg body) old new held.broker (with_rowid-content_row number dg body (old.now.trees in_contents.tree)) count h in
    let frame : Frame (codes "contents" ∷ []) old.now new.now = ChangesOnly-Frame (codes "contents" ∷ []) in_contents.tree refl old new held.broker it.0 in
    let broker : IsBroker new.now = Frame-IsBroker (codes "contents" ∷ []) old.now new.now frame held.broker in
    let entry : Row → List ℕ × List ℕ = λ r. (text in_contents.digest r, text in_contents.body r) in
    let rows : AreContentsBy digest (texts ++ body ∷ []) (new.now.trees in_contents.tree) =
    IsAdded-numbered entry (map (with_digest_by digest) texts) (old.now.trees in_contents.tree) (new.now.trees in_contents.tree) made held.are (Placed-IsNumbered at_contents new.now broker) (ap pos (is ∙ ap (λ k. k + 1) (sym (length-map texts (with_digest_by digest))))) it.1
    ∙ ap (λ d. numbered (map (with_digest_by digest) texts ++ (d, body) ∷ [])) (sym by) ∙ ap numbered (sym (map-append (with_digest_by digest) texts (body ∷ []))) in
    record {
      number_is = is ∙ ap (λ k. k + 1) (sym (position_or_len-absent texts body free));
      contents = subst (ContentsBy digest new.now) (sym (ap (λ b. cond b texts (texts ++ body ∷ [])) free)) (record { broker = broker; are = rows });
      others = AllByRecursion-others_kept (codes "contents") broker_schema.tables old.now new.now frame.others;
      same = λ there. absurd (let clash : true ≡ false = sym there ∙ free in cc);
    }

-- if the number is the next one, and low, it fails only as the store fails, or since one of its texts is too long
pub EndsFrom-content : (number : ℕ) (dg body : List ℕ) (old new : State) → EndsFrom [] (dg ∷ body ∷ []) put_sql (Int (pos number) ∷ Text dg ∷ Text body ∷ []) old new (λ s. (number ≡ length s.contents + 1) × (has_room s.contents ≡ true))
EndsFrom-content number dg body old new s here (is, room) numbers =
    let rows = old.now.trees in_contents.tree in
    let few : length s.contents < 1000000000 = ltb-true (length s.contents) 1000000000 room in
    let next : is_taken rows (Int (pos (length (map with_digest s.contents) + 1)) ∷ Null ∷ Text dg ∷ Text body ∷ []) ≡ false = is_taken-next_number (λ r. (text in_contents.digest r, text in_contents.body r)) rows (map with_digest s.contents) (Null ∷ Text dg ∷ Text body ∷ []) here.held.contents (Placed-IsNumbered at_contents old.now here.held.broker) in
    EndsOnly-insert at_contents (Puts-content number dg body) old new here.held.broker (with_rowid-content_row number dg body rows) (record {
      pass = record { typed = refl; present = refl; checked = refl };
      fits = lt-ltb number (2 ^ 63) (omega (arith, is, few));
      keyed = refl;
      fresh = subst (λ n. is_taken rows (Int (pos n) ∷ Null ∷ Text dg ∷ Text body ∷ []) ≡ false) (sym (is ∙ ap (λ k. k + 1) (sym (length-map s.contents with_digest)))) next;
      free = tt;
      parents = tt;
    }) (dg ∷ body ∷ []) (λ are. record { wide = omega arith; narrow = omega arith; short = (tt, (tt, are)) }) here.unlimited
