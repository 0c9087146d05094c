-- The statements on versions.
use Rattle.std.specs.Prelude.{option_map, is_some}
use Rattle.std.proofs.Common.{◌≡◌, ℕ, pos, codes, List, [], ◌∷◌, length, false, refl, sym, ap, subst, ◌∙◌, slice_get, ◌<◌, ◌^◌, arith, Option, Ok, unwrap_or}
use Rattle.std.proofs.lemmas.Bool.{ltb-true, lt-ltb}
use Rattle.sqlite.specs.{Edit.{with_rowid}, Rowids.TheVariants.{Chosen}, Cast.{cast_row}, declared.types.Value.TheVariants.{Null, Int, Text}}
use Rattle.sqlite.specs.{Order.{Row, column}, Term.{col, lit}, Effect.{Database}, State.{State, Shown, Executes}, Listing.{understood}}
use Rattle.sqlite_rules.specs.Edit.{is_taken}
use Rattle.sqlite_tied.specs.Compute.{everything}
use Rattle.table_access.specs.{Columns.{text, pair_cmp, whole_at}, Statements.{from_table, up_to, newest, by_two, shows}, Reading.{IsNumberRow}}
use Rattle.table_access.proofs.{Values.{cast-Null, cast-Int}, Newest.{Shown-newest_number}, ReadLemmas.{number_found, option_map-pos_injective}}
use Rattle.broker_core.specs.{declared.command.Version.{Version}, Text.{version}, State.{State as Broker}, Request.{is_known}}
use Rattle.broker_tables.specs.{Schema.{in_versions, in_branches}, Numbers.{number_of}, Holds.{Holds, HoldsAfter}}
use Rattle.broker_tables.proofs.TableQuery.{TableQuery, IsShown, EachReads, EachShown-up_to, EachShown-IsNumberRow}
use Rattle.broker_tables.proofs.ReadableRows.{IsNumberAt-of_column, IsLow-version}
use Rattle.broker_tables.proofs.{Frames.{Means-over_broker_schema, ChangesOnly-Frame, Frame, Frame-IsBroker}, Growth.{Holds-append_version}}
use Rattle.broker_tables.proofs.{Newest.{unwrap_or-newest as newest_count}, NextRow.{IsAdded-numbered}, RoomLemmas.{HoldsAfter-one_table}}
use Rattle.broker_tables.proofs.{VersionRows.{IsNumbered-versions, version_number}, NumberLemmas.{value_at-version_row, number_of-is_some, number_of-None}}
use Rattle.broker_tables.proofs.{Keyed.{finds, IsFree-of_has_row_at, versions_by_name}, Placed.{versions, at_versions}, Present.{value_at-is_some}}
use Rattle.broker_tables.proofs.Inserted.{EndsFrom, Puts, Executes-insert_adds, EndsOnly-insert, IsThere-pacticipant, is_taken-next_number}
use Rattle.registry_tables.{specs.Registry.{AllowsVersionAs, PutsVersion}, proofs.BranchRows.{is_on}}

-- ---- the number of a version

pub known : (p name : List ℕ)
    → TableQuery (codes "SELECT number FROM versions WHERE pacticipant = ?1 AND version = ?2")
    (Text p ∷ Text name ∷ []) (from_table in_versions.tree (by_two in_versions.pacticipant in_versions.version) (col 1 in_versions.number ∷ []) [])
unfolding understood everything
known p name = record { names = _; means = record { is = refl; plain = (refl, refl); unlisted = refl }; runs = record { whole = refl; typed = refl; sumless = refl } }

pub IsShown-version_number : (p name : List ℕ) (db : Database) (rows : List Row) (s : Broker) (found : Option ℕ) → Holds db s → IsShown (known p name) db rows
    → option_map (λ n. Int (pos n)) found ≡ option_map (λ row. column row 0) (slice_get rows 0) → (found ≡ number_of s.versions (version p name)) × (is_some found ≡ is_known s (version p name))
IsShown-version_number p name db rows s found held h read =
    let same = option_map-pos_injective found (number_of s.versions (version p name)) (number_found found rows read
    ∙ finds versions_by_name db held.broker (Text p ∷ Text name ∷ []) (p, name) refl (whole_at in_versions.number) (whole_at 0) (λ r. refl) rows h
    ∙ value_at-version_row (db.trees in_versions.tree) s.versions p name held.versions) in
    (same, ap is_some same ∙ number_of-is_some s (version p name))

-- if the versions are few enough, the number can be read
pub EachReads-version_number : (p name : List ℕ) (db : Database) → EachReads (known p name) db IsNumberRow
EachReads-version_number p name db s held readable = EachShown-IsNumberRow (known p name) db (λ r has. (version_number db held.broker r has, IsLow-version db s held readable r has))

-- ---- how many versions there are

abbrev count_sql : List ℕ
count_sql = codes "SELECT number FROM versions ORDER BY number DESC LIMIT 1"

pub highest : TableQuery count_sql [] (up_to 1 (from_table in_versions.tree [] (col 1 in_versions.number ∷ []) newest))
unfolding understood everything
highest = record { names = _; means = record { is = refl; plain = (refl, refl); unlisted = refl }; runs = record { whole = refl; typed = refl; sumless = refl } }

pub Shown-version_count : (old new : State) (rows : List Row) (s : Broker) (found : Option ℕ) → Holds old.now s → Shown count_sql [] old new rows → option_map (λ n. Int (pos n)) found ≡ option_map (λ row. column row 0) (slice_get rows 0)
    → unwrap_or found 0 ≡ length s.versions
Shown-version_count old new rows s found held h read =
    newest_count (λ r. version (text in_versions.pacticipant r) (text in_versions.version r)) (old.now.trees in_versions.tree) s.versions found held.versions
    (Shown-newest_number count_sql old new in_versions.tree _ (Means-over_broker_schema old.now held.broker count_sql highest.means) (IsNumbered-versions old.now held.broker) rows h found read)

pub EachReads-highest_version : (db : Database) → EachReads highest db IsNumberRow
EachReads-highest_version db s held readable = EachShown-up_to highest db _ (λ r has kept. IsNumberAt-of_column (shows (col 1 in_versions.number ∷ []) [] r) 0 (whole_at in_versions.number r) (omega arith) (version_number db held.broker r has) (IsLow-version db s held readable r has))

-- ---- a new version

abbrev pub put_sql : List ℕ
put_sql = codes "INSERT INTO versions (number, pacticipant, version) VALUES (?1, ?2, ?3)"

Puts-version : (number : ℕ) (p name : List ℕ) → Puts at_versions put_sql (Int (pos number) ∷ Text p ∷ Text name ∷ []) (Int (pos number) ∷ Null ∷ Text p ∷ Text name ∷ [])
unfolding understood everything
Puts-version number p name = record { terms = col 0 0 ∷ lit Null ∷ col 0 1 ∷ col 0 2 ∷ []; width = 4; means = record { is = refl; plain = (refl, refl); unlisted = refl }; whole = refl; kinds = refl; one = refl }

module _ (number : ℕ) (p name : List ℕ) (old new : State) where
  abbrev made : Row
  made = Int (pos number) ∷ Null ∷ Text p ∷ Text name ∷ []

  with_rowid-version_row : with_rowid Chosen (old.now.trees in_versions.tree) (cast_row versions made) ≡ made
  with_rowid-version_row = λ i. with_rowid Chosen (old.now.trees in_versions.tree) (cast-Int (pos number) i ∷ cast-Null i ∷ Text p ∷ Text name ∷ [])

  pub HoldsAfter-PutsVersion : (s : Broker) → Holds old.now s → (t : Broker) → PutsVersion number (version p name) s t → (count : ℕ) → Executes put_sql (Int (pos number) ∷ Text p ∷ Text name ∷ []) old new (Ok count) → HoldsAfter 2 old new t
  HoldsAfter-PutsVersion s held t (unknown, is, next) count h =
      let it = Executes-insert_adds at_versions (Puts-version number p name) old new held.broker with_rowid-version_row count h in
      let frame : Frame (codes "versions" ∷ []) old.now new.now = ChangesOnly-Frame (codes "versions" ∷ []) in_versions.tree refl old new held.broker it.0 in
      HoldsAfter-one_table 2 (omega arith) (codes "versions") old new _ frame (λ no. absurd cc) (subst (Holds new.now) (sym next)
      (Holds-append_version old.now new.now s (version p name) held unknown frame
      (IsAdded-numbered (λ r. version (text in_versions.pacticipant r) (text in_versions.version r)) s.versions (old.now.trees in_versions.tree) (new.now.trees in_versions.tree) made held.versions (IsNumbered-versions new.now (Frame-IsBroker _ old.now new.now frame held.broker)) (ap pos is) it.1)))

  -- it fails only as the store fails, or since one of its names is too long
  pub EndsFrom-AllowsVersionAs : EndsFrom [] (p ∷ name ∷ []) put_sql (Int (pos number) ∷ Text p ∷ Text name ∷ []) old new (AllowsVersionAs number (version p name))
  EndsFrom-AllowsVersionAs s here ((unknown, known, room), is) numbers =
      let held = here.held in
      let few : length s.versions < 1000000000 = ltb-true (length s.versions) 1000000000 room in
      let free = sym (value_at-is_some pair_cmp (λ r. (text in_versions.pacticipant r, text in_versions.version r)) (whole_at in_versions.number) (old.now.trees in_versions.tree) (p, name)) ∙ ap is_some (value_at-version_row (old.now.trees in_versions.tree) s.versions p name held.versions ∙ ap (option_map pos) (number_of-None s.versions (version p name) unknown)) in
      EndsOnly-insert at_versions (Puts-version number p name) old new held.broker with_rowid-version_row (record {
        pass = record { typed = refl; present = refl; checked = refl };
        fits = lt-ltb number (2 ^ 63) (omega (arith, is, few));
        keyed = refl;
        fresh = subst (λ n. is_taken (old.now.trees in_versions.tree) (Int (pos n) ∷ Null ∷ Text p ∷ Text name ∷ []) ≡ false) (sym is) (is_taken-next_number (λ x. version (text in_versions.pacticipant x) (text in_versions.version x)) (old.now.trees in_versions.tree) s.versions (Null ∷ Text p ∷ Text name ∷ []) held.versions (IsNumbered-versions old.now held.broker));
        free = (IsFree-of_has_row_at versions_by_name old.now held.broker made refl free, tt);
        parents = (IsThere-pacticipant old.now s held made in_versions.pacticipant p known refl, tt);
      }) (p ∷ name ∷ []) (λ are. record { wide = omega arith; narrow = omega arith; short = (tt, (tt, are)) }) here.unlimited

-- a version that isn't there is on no branch
pub branches-none_of_unknown : (db : Database) (s : Broker) (v : Version) → Holds db s → is_known s v ≡ false → (branch : List ℕ) → s.branches (v, branch) ≡ false
branches-none_of_unknown db s v held free branch =
    sym (held.branches v branch) ∙ ap (is_on (db.trees in_branches.tree) branch) (number_of-None s.versions v free)
