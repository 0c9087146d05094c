-- The format that a query on meta finds over any schema in which a table like meta is found by that name, and why the
-- query is refused there: the store failed, or another table has its tree.
use Rattle.std.specs.{Prelude.{MatchOption, option_and_then}, List.Sorted.{IsPermutation}, List.{AllZip}}
use Rattle.std.proofs.Common.{◌≡◌, ◌≢◌, arith, ℕ, pos, codes, List, [], ◌∷◌, map, filter, length, refl, sym, ap, subst, ◌∙◌, slice_get, Some, None, Option, Ok, Bool, inl, inr, ◌^◌, find, true, false, nat_le, ◌==◌, IsTrue, Err}
use Rattle.std.proofs.{lemmas.List.{length-map}, lemmas.List.Sorted.{length_permutation}, lemmas.Bool.{lt-leb}}
use Rattle.sqlite.specs.{Schema.{Schema}, Table.{Table}, Effect.{Database, IsDatabase}, declared.types.Value.TheVariants.{Int}, Order.{Row, column}, Term.{col}}
use Rattle.sqlite.{specs.{State.{State, Shown, IsLive, FailsToQuery, IsNotRun}, Listing.{understood}}, proofs.Callers.{one_permutation}}
use Rattle.sqlite_schema.specs.{declared.schema.Column.{Column}, Names.{table_named}}
use Rattle.sqlite_catalog.{specs.Listing.{IsTableRow, is_table_row}, proofs.ListFacts.{filter_all}}
use Rattle.sqlite_resolve.specs.{declared.compiled.Compiled.{Compiled}, declared.error.CompileError.TheVariants.{Mismatch}}
use Rattle.sqlite_typing.specs.Types.{accepts_program}
use Rattle.table_access.specs.{Reading.{IsNumberRow, IsRefusedAs}, Statements.{keeps, shows}, declared.StoreFault.{StoreFault}, Calls.{fault_of}}
use Rattle.table_access.proofs.{Steps.{Means, IsPermutation-selected_rows, Shown-IsUnchanged}, Answered.{is_whole, IsRefusedAs-HasFailed}}
use Rattle.table_access.proofs.SoundLemmas.{has_place}
use Rattle.broker_tables.specs.Schema.{meta, numbers, texts, in_meta}
use Rattle.registry_tables.specs.Format.{IsLike, AreLike, IsMetaTable, Finds, HasNoFormat, table_of, FailsToFind}
use Rattle.registry_tables.proofs.FormatText.{format_sql, format_query, like, like_meta, read_if, format_command, understood-format_sql, Means-format_sql, compiled_of}
use Rattle.sqlite_trees.specs.Objects.{catalog_tree}
use Rattle.sqlite_rules.specs.Lists.{Has}

-- ---- the query

IsLike-column : (wanted c : Column) → IsLike wanted c → c ≡ record c { name = wanted.name; kind = wanted.kind }
IsLike-column wanted c is = ap (λ n. record c { name = n }) is.0 ∙ ap (λ k. record c { name = wanted.name; kind = k }) is.1

pub AreLike-meta_columns : (cs : List Column) → AreLike meta.columns cs → (a : Column) × (b : Column) × (c : Column) × (cs ≡ like a b c)
AreLike-meta_columns (a ∷ b ∷ c ∷ []) are = (a, b, c, λ i. IsLike-column (numbers (codes "one")) a are.0 i ∷ IsLike-column (numbers (codes "format")) b are.1.0 i ∷ IsLike-column (texts (codes "office_digest")) c are.1.1.0 i ∷ [])
AreLike-meta_columns (a ∷ b ∷ c ∷ d ∷ cs) are = absurd are.1.1.1
AreLike-meta_columns (a ∷ b ∷ []) are = absurd are.1.1
AreLike-meta_columns (a ∷ []) are = absurd are.1
AreLike-meta_columns [] are = absurd are

pub IsMetaTable-like_meta : (t : Table) (is : IsMetaTable t) → let cs = AreLike-meta_columns t.columns is.0 in t ≡ like_meta t cs.0 cs.1 cs.2
IsMetaTable-like_meta t is =
    let cs = AreLike-meta_columns t.columns is.0 in
    ap (λ x. record t { columns = x }) cs.3 ∙ ap (λ k. record t { columns = like cs.0 cs.1 cs.2; key = k }) is.1

-- a table that is found by its name has a place
pub table_of-has_place : (s : Schema) (name : List ℕ) (t : Table) → table_of name s ≡ Some t → (at : ℕ) × (table_named s name ≡ Some at) × (slice_get s.tables at ≡ Some t)
table_of-has_place s name t e = go (table_named s name) refl e
  where
    go : (found : Option ℕ) → table_named s name ≡ found → option_and_then (slice_get s.tables) found ≡ Some t → (at : ℕ) × (table_named s name ≡ Some at) × (slice_get s.tables at ≡ Some t)
    go None is e = absurd cc
    go (Some at) is e = (at, is, e)

-- what the text Means-found_table there, if its types are accepts_program-tree_found, and wherever it is read
module _ (s : Schema) (t : Table) (there : table_of meta.name s ≡ Some t) (is : IsMetaTable t) where
  pub understood-found_table : (ok : Bool) → accepts_program s [] (format_query t.tree) [] ≡ ok → understood s format_sql ≡ read_if ok t.tree
  understood-found_table =
      let place = table_of-has_place s meta.name t there in
      let cs = AreLike-meta_columns t.columns is.0 in
      understood-format_sql s place.0 t cs.0 cs.1 cs.2 place.1 (place.2 ∙ ap Some (IsMetaTable-like_meta t is))

  pub Means-found_table : (it : Compiled) → understood s format_sql ≡ Ok it → Means s format_sql (format_command t.tree)
  Means-found_table =
      let place = table_of-has_place s meta.name t there in
      let cs = AreLike-meta_columns t.columns is.0 in
      Means-format_sql s place.0 t cs.0 cs.1 cs.2 place.1 (place.2 ∙ ap Some (IsMetaTable-like_meta t is))

-- ---- its answer

abbrev Shows : List Row → List Row → Type 0
Shows rows out = IsPermutation (map (shows (col 1 in_meta.format ∷ []) []) (filter (keeps [] []) rows)) out

Shows-length : (rows out : List Row) → Shows rows out → length out ≡ length rows
Shows-length rows out same = length_permutation _ out same ∙ length-map (filter (keeps [] []) rows) (shows (col 1 in_meta.format ∷ []) []) ∙ ap length (filter_all (keeps [] []) rows (λ r has. refl))

-- if one row is shown, it shows the format in the one row of the table
Shows-one_row : (rows out : List Row) → Shows rows out → length out ≡ 1 → (r : Row) × (rows ≡ r ∷ []) × (out ≡ (column r in_meta.format ∷ []) ∷ [])
Shows-one_row [] out same one = let many = Shows-length [] out same in absurd (omega arith)
Shows-one_row (r ∷ []) out same one = (r, refl, one_permutation _ out same)
Shows-one_row (r ∷ q ∷ rows) out same one = let many = Shows-length (r ∷ q ∷ rows) out same in absurd (omega arith)

Finds-of_shown_rows : (db : Database) (t : Table) → table_of meta.name db.schema ≡ Some t → IsMetaTable t → (rows : List Row) → Shows (db.trees t.tree) rows → (found : Option ℕ)
    → MatchOption found (length rows ≢ 1) (λ n. map (λ row. column row 0) rows ≡ Int (pos n) ∷ []) → Finds db found
Finds-of_shown_rows db t there is rows same None none = λ u at meant one.
    let mine : u ≡ t = (let both : Some u ≡ Some t = sym at ∙ there in cc) in
    none (Shows-length (db.trees t.tree) rows same ∙ subst (λ (v : Table). length (db.trees v.tree) ≡ 1) mine one)
Finds-of_shown_rows db t there is rows same (Some n) one =
    let it = Shows-one_row (db.trees t.tree) rows same (sym (length-map rows (λ (x : Row). column x 0)) ∙ ap length one) in
    (t, there, is, ap (map (λ (x : Row). column x in_meta.format)) it.1 ∙ sym (ap (map (λ (x : Row). column x 0)) it.2) ∙ one)

module _ (old new : State) (t : Table) (there : table_of meta.name old.now.schema ≡ Some t) (is : IsMetaTable t) (rows : List Row) (h : Shown format_sql [] old new rows) where
  Means-shown_format : Means old.now.schema format_sql (format_command t.tree)
  unfolding Shown
  Means-shown_format = Means-found_table old.now.schema t there is h.0 h.1.is

  pub Finds-format : (found : Option ℕ) → MatchOption found (length rows ≢ 1) (λ n. map (λ row. column row 0) rows ≡ Int (pos n) ∷ []) → Finds old.now found
  Finds-format found it = Finds-of_shown_rows old.now t there is rows (IsPermutation-selected_rows format_sql [] old new t.tree [] (col 1 in_meta.format ∷ []) [] (codes "format" ∷ []) Means-shown_format rows h) found it

  -- and the database is as it was
  pub Shown-format_now_same : new.now ≡ old.now
  Shown-format_now_same = (Shown-IsUnchanged format_sql [] old new rows Means-shown_format.plain h).0.now_is

  pub HasNoFormat-no_number : (row : Row) → rows ≡ row ∷ [] → ¬ (IsNumberRow row) → HasNoFormat old.now
  HasNoFormat-no_number row one not =
      let it = Shows-one_row (old.now.trees t.tree) rows (IsPermutation-selected_rows format_sql [] old new t.tree [] (col 1 in_meta.format ∷ []) [] (codes "format" ∷ []) Means-shown_format rows h) (ap length one) in
      let same : column it.0 in_meta.format ∷ [] ≡ row = (let rows_are = sym it.2 ∙ one in cc) in
      (t, there, is, (it.0, it.1, λ n number low. not (subst IsNumberRow same (omega arith, (n, number, low)))))

-- ---- the tree of a table

-- each element of one list has one of the other list to which it belongs
AllZip-has : {X Y : Type 0} (R : X → Y → Type 0) (xs : List X) (ys : List Y) (y : Y) → AllZip R xs ys → Has ys y → (x : X) × R x y
AllZip-has R xs [] y all has = absurd has
AllZip-has R [] (z ∷ ys) y all has = absurd all
AllZip-has R (x ∷ xs) (z ∷ ys) y all (inl same) = (x, subst (R x) (sym same) all.0)
AllZip-has R (x ∷ xs) (z ∷ ys) y all (inr later) = AllZip-has R xs ys y all.1 later

-- it is no number of a table that a statement computes
IsDatabase-tree_is_low : (db : Database) → IsDatabase db → (t : Table) → Has db.schema.tables t → nat_le (2 ^ 31) t.tree ≡ false
IsDatabase-tree_is_low db sound t has =
    let it = AllZip-has IsTableRow (filter is_table_row (db.trees catalog_tree)) db.schema.tables t sound.lists.listed.tables has in
    lt-leb (2 ^ 31) t.tree (omega (arith, it.1.described.low))

-- ---- the query over such a schema

module _ (old new : State) (t : Table) (there : table_of meta.name old.now.schema ≡ Some t) (is : IsMetaTable t) (live : IsLive old) (unlimited : old.step_limit ≡ None) where
  abbrev accepts : Bool
  accepts = accepts_program old.now.schema [] (format_query t.tree) []

  -- its types are accepts_program-tree_found, if the types of its table are taken from it
  accepts_program-tree_found : IsTrue old.is_open → find (λ u. u.tree == t.tree) old.now.schema.tables ≡ Some t → accepts ≡ true
  accepts_program-tree_found is_open first =
      let at = table_of-has_place old.now.schema meta.name t there in
      let cs = AreLike-meta_columns t.columns is.0 in
      rw (IsDatabase-tree_is_low old.now (live is_open).0 t (has_place old.now.schema.tables at.0 t at.2), first, cs.3) refl

  pub IsRefusedAs-FailsToFind : (fault : StoreFault) → IsRefusedAs format_sql [] old new fault → FailsToFind old new fault
  unfolding FailsToQuery IsNotRun
  IsRefusedAs-FailsToFind fault (e, returned, h) = go accepts refl h
    where
      go : (ok : Bool) → accepts ≡ ok → FailsToQuery format_sql [] old new e → FailsToFind old new fault
      go true taken h =
          let so = understood-found_table old.now.schema t there is true taken in
          inl (IsRefusedAs-HasFailed format_sql [] old new (format_query t.tree) (codes "format" ∷ []) (Means-found_table old.now.schema t there is (compiled_of t.tree) so) (record { whole = ap (is_whole format_sql 0) so; typed = taken; sumless = refl }) unlimited fault (e, returned, h))
      go false refused (inl (inl (inl none, same))) =
          inr (returned ∙ ap fault_of none.2, inr (t, there, is, λ first. (let clash : true ≡ false = sym (accepts_program-tree_found same.0.was_open first) ∙ refused in cc)))
      go false refused (inl (inl (inr (c, so, why), same))) = absurd (let clash : Err Mismatch ≡ Ok c = sym (understood-found_table old.now.schema t there is false refused) ∙ so in cc)
      go false refused (inl (inr it)) = inl (record { cause = it.0; fault_is = returned ∙ ap fault_of it.1; has = it.2; over = it.3.autocommit; blamed = it.4 })
      go false refused (inr it) = absurd (let clash : Err Mismatch ≡ Ok it.0 = sym (understood-found_table old.now.schema t there is false refused) ∙ it.1.is in cc)
