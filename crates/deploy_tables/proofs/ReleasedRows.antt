-- What is released: the list, and the statements.
use Rattle.std.specs.{Prelude.{Contains, is_some}, Option.{option_map_or}, Ordering.{eq_by_cmp, int_cmp}, Cmp.{eq_by_cmp_equiv, Equal-is}}
use Rattle.std.specs.Cmp.Lexicographic.{texts_ties}
use Rattle.std.proofs.Common.{slice_get, IsTrue, ◌≡◌, ℕ, ℤ, pos, codes, List, [], ◌∷◌, Bool, true, false, refl, sym, ap, subst, ◌∙◌, Some, None, Option, Ordering, inl, inr, ◌&&◌, not, cond, nat_lt, Ok, arith}
use Rattle.std.proofs.Math.Bool.{and-false, or-true}
use Rattle.sqlite_rules.specs.Lists.{Has}
use Rattle.sqlite_tied.specs.Compute.{everything}
use Rattle.table_access.specs.{Columns.{text, text_cmp, whole_at, by_both}, Statements.{from_table, keeps, from_both}, Sound.{text_in}, Reading.{AreRead}}
use Rattle.table_access.proofs.{Members.{any_has}, Values.{cast-Int}, SoundLemmas.{any_of}, CountLemmas.{length-filter-list_any, list_any-same_tests}}
use Rattle.table_access.proofs.Keys.{is_param, keeps-one_key}
use Rattle.broker_core.specs.{State.{State as Broker}, declared.command.Version.{Version}}
use Rattle.broker_core.specs.{Text.{Text as Words, version, put_at, same_text, same_pair, same_version}, Listing.{Lists}, Machine.{version_cmp}}
use Rattle.broker_tables.specs.{Schema.{in_versions, in_released, broker_schema}, Rows.{has_row_at}, Numbers.{number_of}, Holds.{Holds, IsBroker, HoldsAfter}}
use Rattle.broker_tables.proofs.TableQuery.{TableQuery, IsShown, EachShown-of_table}
use Rattle.broker_tables.proofs.Inserted.{EndsFrom, Adds, HoldsAfter-added, EndsOnly-added, added, IsThere-environment, IsThere-version}
use Rattle.broker_tables.proofs.Keyed.{finds_row, IsFree-of_has_row_at, kept_by, IsAscending-keys_of_table, released_by_key}
use Rattle.broker_tables.proofs.VersionRows.{column-version_pacticipant, names, IsAscending-one_row, IsNumbered-versions, versions-unique_names as same_row}
use Rattle.broker_tables.proofs.Orders.{by_both-total_text_int, by_both-exact_text_int, pair_cmp-IsAntisymmetric}
use Rattle.broker_tables.proofs.{NoVersion.{references-not_unknown_version, slice_get-no_rows}, Frames.{Holds-released}}
use Rattle.broker_tables.proofs.{NumberLemmas.{number_of-same_version, same_version-unknown}, Present.{has_row_at-set, has_row_at-removed}}
use Rattle.broker_tables.proofs.{Ties.{and-same, both_eq}, Placed.{released, at_released, listed, Placed-IsNumbered, column-texts, column-whole_numbers}}
use Rattle.broker_tables.proofs.Removed.{TakesFrom, HoldsAfter-deleted, Executes-delete_rows}
use Rattle.sqlite.specs.{Listing.{understood}, Edit.{id_in}, declared.types.Value.TheVariants.{Int, Text, Null}, Order.{Row, column}, Term.{Term, col, lit}}
use Rattle.sqlite.specs.{Collation.TheVariants.{Binary}, Effect.{Database, Answers}, Query.{Query}, State.{State, Executes}}
use Rattle.sqlite_keyed.proofs.RuleLemmas.{first_of_both, second_of_both}
use Rattle.deploy_tables.specs.{Releases.{IsVersion, MayBeReleased, RecordsReleased}, Listings.{IsReleasedRow}, ContractsThere.{IsReleasedIn}}
use Rattle.deploy_tables.specs.Partners.{AreReleasedNumbers}
use Rattle.deploy_tables.proofs.VersionRows.{joined_by, on_number, in_environment, references-named_version, pos-injective, value_cmp-two_texts, Names, IsOf, keeps_both-joined_by, kept-AreJoined, AreJoined-kept, AreJoined-of_version, AreJoined-has_version}
use Rattle.deploy_tables.proofs.LeftRows.{from_left, Answers-from_left_as_join}
use Rattle.sqlite_typing.specs.Types.{accepts_program}
use Rattle.contract_tables.{specs.{declared.listings.NumberedName.{NumberedName}, Listings.{IsNumberedName}}, proofs.ItemLists.{Lists-of_pairs}}
use Rattle.contract_tables.proofs.JoinRows.{items-of_kept_pair, items-has_kept_pair}
use Rattle.sqlite_value.specs.{declared.keys.Key.{Key}, Keys.{ascending}}

abbrev pub list_order : List (Term × Key)
list_order = (col 2 in_versions.pacticipant, ascending Binary) ∷ (col 2 in_versions.version, ascending Binary) ∷ []

abbrev pub list_project : List Term
list_project = col 2 in_versions.pacticipant ∷ col 2 in_versions.version ∷ []

pub releases : (e : List ℕ)
    → TableQuery (codes "SELECT v.pacticipant, v.version FROM released r LEFT JOIN versions v ON v.number = r.version_number WHERE r.environment = ?1 ORDER BY v.pacticipant, v.version")
    (Text e ∷ []) (from_left in_released.tree in_versions.tree (on_number in_released.version_number) in_environment list_project list_order)
unfolding understood everything
releases e = record { names = _; means = record { is = refl; plain = (refl, refl); unlisted = refl }; runs = record { whole = refl; typed = refl; sumless = refl } }

-- ---- the same rows, with the versions' numbers and without their names

abbrev pub number_project : List Term
number_project = col 1 in_released.version_number ∷ col 2 in_versions.pacticipant ∷ []

pub release_numbers : (e : List ℕ)
    → TableQuery (codes "SELECT r.version_number, v.pacticipant FROM released r LEFT JOIN versions v ON v.number = r.version_number WHERE r.environment = ?1")
    (Text e ∷ []) (from_left in_released.tree in_versions.tree (on_number in_released.version_number) in_environment number_project [])
unfolding understood everything
release_numbers e = record { names = _; means = record { is = refl; plain = (refl, refl); unlisted = refl }; runs = record { whole = refl; typed = refl; sumless = refl } }

-- ---- the JOINs

abbrev joined_query : List Term → List (Term × Key) → Query
joined_query project order = from_both in_released.tree in_versions.tree (joined_by in_released.version_number) project order

accepts_program-list_project : (e : List ℕ) → accepts_program broker_schema [] (joined_query list_project list_order) (Text e ∷ []) ≡ true
unfolding understood everything
accepts_program-list_project e = refl

accepts_program-number_project : (e : List ℕ) → accepts_program broker_schema [] (joined_query number_project []) (Text e ∷ []) ≡ true
unfolding understood everything
accepts_program-number_project e = refl

-- ---- the columns

abbrev pub placed : ((List ℕ) × ℤ) → ((List ℕ) × ℤ) → Ordering
placed = by_both text_cmp int_cmp

abbrev pub place_of : Row → (List ℕ) × ℤ
place_of r = (text in_released.environment r, whole_at in_released.version_number r)

module _ (db : Database) (broker : IsBroker db) where
  pub environments : (r : Row) → Has (db.trees in_released.tree) r → column r in_released.environment ≡ Text (text in_released.environment r)
  environments = column-texts at_released db broker in_released.environment refl

  pub numbers : (r : Row) → Has (db.trees in_released.tree) r → column r in_released.version_number ≡ Int (whole_at in_released.version_number r)
  numbers r has = column-whole_numbers at_released db broker in_released.version_number refl r has

-- ---- what the rows of an environment say

module _ (db : Database) (s : Broker) (held : Holds db s) (e : Words) where
  -- the place of a version has a row if and only if the version is released there
  pub has_row_at-released : (w : Version) (n : ℕ) → number_of s.versions w ≡ Some n → has_row_at placed place_of (db.trees in_released.tree) (e, pos n) ≡ s.released (e, w)
  has_row_at-released w n known = sym (ap (λ o. option_map_or (λ m. has_row_at placed place_of (db.trees in_released.tree) (e, pos m)) o false) known) ∙ held.released e w

  pub Names-IsReleasedIn : Names db s in_released.tree in_released.version_number e (IsReleasedIn s e)
  Names-IsReleasedIn = record {
    environments = environments db held.broker;
    numbers = numbers db held.broker;
    row_is = λ r w n has there known number.
        let place : (e, pos n) ≡ place_of r = (λ i. (sym there i, sym number i)) in
        sym (has_row_at-released w n known) ∙ any_of (λ q. eq_by_cmp placed (e, pos n) (place_of q)) (db.trees in_released.tree) r has
        (ap (eq_by_cmp placed (e, pos n)) (sym place) ∙ (eq_by_cmp_equiv by_both-total_text_int).refl (e, pos n));
    is_row = λ w n known there.
        let d = any_has (λ q. eq_by_cmp placed (e, pos n) (place_of q)) (db.trees in_released.tree) (has_row_at-released w n known ∙ there) in
        let place : (e, pos n) ≡ place_of d.0 = by_both-exact_text_int (e, pos n) (place_of d.0) ((Equal-is (placed (e, pos n) (place_of d.0))).0 d.2) in
        (d.0, d.1, sym (ap (λ x. x.0) place), sym (ap (λ x. x.1) place));
  }

  -- each version that is released there has a number
  pub IsReleasedIn-has_number : (v : Version) → IsReleasedIn s e v → (n : ℕ) × (number_of s.versions v ≡ Some n)
  IsReleasedIn-has_number v there = go (number_of s.versions v) (held.released e v ∙ there)
    where
      go : (o : Option ℕ) → option_map_or (λ n. has_row_at placed place_of (db.trees in_released.tree) (e, pos n)) o false ≡ true → (n : ℕ) × (o ≡ Some n)
      go None h = absurd cc
      go (Some n) h = (n, refl)

  -- each row names a version, so that what is shown is what the JOIN shows
  Answers-released_as_join : (project : List Term) (order : List (Term × Key)) → accepts_program broker_schema [] (joined_query project order) (Text e ∷ []) ≡ true → (rows : List Row)
      → Answers db (record { lets = []; body = from_left in_released.tree in_versions.tree (on_number in_released.version_number) in_environment project order }) (Text e ∷ []) rows
      → Answers db (record { lets = []; body = joined_query project order }) (Text e ∷ []) rows
  Answers-released_as_join project order typed rows =
      Answers-from_left_as_join db (Text e ∷ []) in_released.tree in_versions.tree (on_number in_released.version_number) in_environment project order rows
      (subst (λ x. accepts_program x [] (joined_query project order) (Text e ∷ []) ≡ true) (sym held.broker.schema) typed)
      (references-named_version db held.broker in_released.tree in_released.version_number (environments db held.broker) (numbers db held.broker) e
      released (listed at_released db held.broker) refl (inr (inl refl)))

  pub IsShown-releases_as_join : (rows : List Row) → IsShown (releases e) db rows → Answers db (record { lets = []; body = joined_query list_project list_order }) (Text e ∷ []) rows
  IsShown-releases_as_join = Answers-released_as_join list_project list_order (accepts_program-list_project e)

  pub IsShown-release_numbers_as_join : (rows : List Row) → IsShown (release_numbers e) db rows → Answers db (record { lets = []; body = joined_query number_project [] }) (Text e ∷ []) rows
  IsShown-release_numbers_as_join = Answers-released_as_join number_project [] (accepts_program-number_project e)

  pub Lists-releases : (rows : List Row) (items : List Version) → IsShown (releases e) db rows → AreRead IsReleasedRow rows items
      → Lists version_cmp (λ v. IsTrue (s.released (e, v))) items
  Lists-releases = Lists-of_pairs db IsReleasedRow version_cmp (λ v. IsTrue (s.released (e, v))) pair_cmp-IsAntisymmetric (λ v. (v.pacticipant, v.name)) (λ x y less. less) IsShown-releases_as_join
      (IsOf db held.broker in_released.tree in_released.version_number (environments db held.broker) (numbers db held.broker) e) (Placed-IsNumbered at_released db held.broker) (IsNumbered-versions db held.broker)
      (keeps_both-joined_by db held.broker in_released.tree in_released.version_number (environments db held.broker) (numbers db held.broker) e) (record {
        key = λ q. (text in_versions.pacticipant q.1, text in_versions.version q.1);
        sorted = λ a b one two. value_cmp-two_texts _ _ _ _ _ _ _ _ (column-version_pacticipant db held.broker a.1 one.1) (column-version_pacticipant db held.broker b.1 two.1) (names db held.broker a.1 one.1) (names db held.broker b.1 two.1);
        one = λ a b one two same.
            let row = same_row db held.broker a.1 b.1 one.1 two.1 (ap (λ x. x.0) same) (ap (λ x. x.1) same) in
            let keyed : place_of a.0 ≡ place_of b.0 = λ i. ((one.2.1 ∙ sym two.2.1) i, (sym one.2.0 ∙ ap (whole_at 0) row ∙ two.2.0) i) in
            λ i. (IsAscending-one_row by_both-total_text_int place_of (db.trees in_released.tree) (IsAscending-keys_of_table released_by_key db held.broker) a.0 b.0 one.0 two.0 keyed i, row i);
        read = λ q x read i. (text_in (read.0 i), text_in (read.1 i));
        sound = λ q x it read. subst (λ v. IsTrue (s.released (e, v))) (λ i. version (text_in (read.0 i)) (text_in (read.1 i)))
            (AreJoined-of_version db s held in_released.tree in_released.version_number e (IsReleasedIn s e) Names-IsReleasedIn q it).3;
        complete = λ x there.
            let n = IsReleasedIn-has_number x there in
            let q = AreJoined-has_version db s held in_released.tree in_released.version_number e (IsReleasedIn s e) Names-IsReleasedIn x n.0 n.1 there in
            (q.0, q.1, λ y read i. version ((sym (ap text_in read.0) ∙ q.2) i) ((sym (ap text_in read.1) ∙ q.3) i));
      })

  -- ---- with the numbers

  pub AreReleasedNumbers-listed : (rows : List Row) (items : List NumberedName) → IsShown (release_numbers e) db rows → AreRead IsNumberedName rows items → AreReleasedNumbers s e items
  AreReleasedNumbers-listed rows items shown read x = (
    λ c.
        let h = IsShown-release_numbers_as_join rows shown in
        let q = items-of_kept_pair db (Text e ∷ []) (joined_by in_released.version_number) number_project IsNumberedName rows items read in_released.tree in_versions.tree h x c in
        let it = AreJoined-of_version db s held in_released.tree in_released.version_number e (IsReleasedIn s e) Names-IsReleasedIn q.0 (kept-AreJoined db held.broker in_released.tree in_released.version_number (environments db held.broker) (numbers db held.broker) e q.0 q.1) in
        subst (λ p. (name : Words) × IsReleasedIn s e (version p name) × (number_of s.versions (version p name) ≡ Some x.number)) (ap text_in q.2.1)
        (text in_versions.version q.0.1, it.3, it.1 ∙ ap Some (pos-injective it.0 x.number (sym it.2 ∙ ap id_in q.2.0))),
    λ there.
        let h = IsShown-release_numbers_as_join rows shown in
        let q = AreJoined-has_version db s held in_released.tree in_released.version_number e (IsReleasedIn s e) Names-IsReleasedIn (version x.name there.0) x.number there.2 there.1 in
        let y = items-has_kept_pair db (Text e ∷ []) (joined_by in_released.version_number) number_project IsNumberedName rows items read in_released.tree in_versions.tree h q.0
        (AreJoined-kept db held.broker in_released.tree in_released.version_number (environments db held.broker) (numbers db held.broker) e q.0 q.1) in
        let number : y.0.number ≡ x.number = pos-injective y.0.number x.number (sym (ap id_in y.2.0) ∙ q.4) in
        let same : y.0 ≡ x = (λ i. record { number = number i; name = (sym (ap text_in y.2.1) ∙ q.2) i }) in
        subst (Contains items) same y.1,
  )

abbrev pub by_place : List Term
by_place = is_param 1 0 ∷ is_param 2 1 ∷ []

-- ---- whether a version is released

pub release : (e : Words) (n : ℕ)
    → TableQuery (codes "SELECT environment FROM released WHERE environment = ?1 AND version_number = ?2")
    (Text e ∷ Int (pos n) ∷ []) (from_table in_released.tree by_place (col 1 in_released.environment ∷ []) [])
unfolding understood everything
release e n = record { names = _; means = record { is = refl; plain = (refl, refl); unlisted = refl }; runs = record { whole = refl; typed = refl; sumless = refl } }

-- no row is shown for a number that no version has
pub IsShown-release_none : (e : Words) (n : ℕ) (db : Database) (rows : List Row) (s : Broker) → Holds db s → (¬ IsVersion n s) → IsShown (release e n) db rows
    → slice_get rows 0 ≡ None
IsShown-release_none e n db rows s held none h = slice_get-no_rows rows (EachShown-of_table (release e n) db (λ row. ⊥) (λ r has kept.
    references-not_unknown_version db s held n (λ v is. none (v, is)) released (listed at_released db held.broker) in_released.version_number (inr (inl refl)) r has
    (numbers db held.broker r has) (first_of_both _ _ (second_of_both _ _ kept))) rows h)

pub IsShown-release : (e : Words) (n : ℕ) (db : Database) (rows : List Row) (s : Broker) (v : Version) → Holds db s → number_of s.versions v ≡ Some n → IsShown (release e n) db rows
    → is_some (slice_get rows 0) ≡ s.released (e, v)
IsShown-release e n db rows s v held is h =
    finds_row released_by_key db held.broker (Text e ∷ Int (pos n) ∷ []) (e, pos n) refl rows h ∙ has_row_at-released db s held e v n is

-- ---- a change of one place

-- the rows that hold the releases, once one place was set
module _ (old new : Database) (s : Broker) (held : Holds old s) (e : Words) (n : ℕ) (v : Version) (is : number_of s.versions v ≡ Some n) (set : Bool)
    (now : (q : Words × ℤ) → has_row_at placed place_of (new.trees in_released.tree) q ≡ cond (eq_by_cmp placed q (e, pos n)) set (has_row_at placed place_of (old.trees in_released.tree) q)) where
  pub each : (f : Words) (w : Version) (o : Option ℕ) → number_of s.versions w ≡ o → option_map_or (λ k. has_row_at placed place_of (new.trees in_released.tree) (f, pos k)) (number_of s.versions w) false ≡ put_at (same_pair same_text same_version) s.released (e, v) set (f, w)
  each f w None none =
      let was : s.released (f, w) ≡ false = sym (held.released f w) ∙ ap (λ o. option_map_or (λ k. has_row_at placed place_of (old.trees in_released.tree) (f, pos k)) o false) none in
      ap (λ o. option_map_or (λ k. has_row_at placed place_of (new.trees in_released.tree) (f, pos k)) o false) none
      ∙ sym (ap (λ t. cond (same_text f e && t) set (s.released (f, w))) (same_version-unknown s.versions w v n none is)
      ∙ ap (λ t. cond t set (s.released (f, w))) (and-false (same_text f e)) ∙ was)
  each f w (Some k) some =
      let was = has_row_at-released old s held f w k some in
      let same : (same_text f e && same_version w v) ≡ eq_by_cmp placed (f, pos k) (e, pos n) =
      and-same (same_text f e) (same_version w v) (eq_by_cmp text_cmp f e) (eq_by_cmp int_cmp (pos k) (pos n)) (texts_ties f e) (number_of-same_version s.versions w v k n some is) ∙ both_eq (text_cmp f e) (int_cmp (pos k) (pos n)) in
      ap (λ o. option_map_or (λ m. has_row_at placed place_of (new.trees in_released.tree) (f, pos m)) o false) some ∙ now (f, pos k)
      ∙ (λ i. cond (sym same i) set (was i))

-- ---- a release

abbrev pub record_sql : List ℕ
record_sql = codes "INSERT INTO released (environment, version_number) VALUES (?1, ?2)"

recording : (e : Words) (n : ℕ) → Adds at_released record_sql (Text e ∷ Int (pos n) ∷ []) (Text e ∷ Int (pos n) ∷ [])
unfolding understood everything
recording e n = record {
  puts = record { terms = lit Null ∷ col 0 0 ∷ col 0 1 ∷ []; width = 3; means = record { is = refl; plain = (refl, refl); unlisted = refl }; whole = refl; kinds = refl; one = refl };
  stored = λ i. Text e ∷ cast-Int (pos n) i ∷ [];
}

pub HoldsAfter-RecordsReleased : (e : Words) (n : ℕ) (old new : State) (s : Broker) → Holds old.now s → (t : Broker) → RecordsReleased e n s t → (count : ℕ) → Executes record_sql (Text e ∷ Int (pos n) ∷ []) old new (Ok count) → HoldsAfter 2 old new t
HoldsAfter-RecordsReleased e n old new s held t (v, is, off, next) count h = HoldsAfter-added (recording e n) old new held.broker (omega arith) count h (λ frame it.
    subst (Holds new.now) (sym next) (Holds-released old.now new.now s _ held frame (λ f w. each old.now new.now s held e n v is true
    (has_row_at-set placed place_of (old.now.trees in_released.tree) (new.now.trees in_released.tree) _ it) f w (number_of s.versions w) refl)))

-- that a version is released fails only as the store fails, or since the environment's name is too long
pub EndsFrom-MayBeReleased : (e : Words) (n : ℕ) (old new : State) → EndsFrom (codes "released" ∷ []) (e ∷ []) record_sql (Text e ∷ Int (pos n) ∷ []) old new (MayBeReleased e n)
EndsFrom-MayBeReleased e n old new s here (there, (v, is, free)) numbers =
    let held = here.held in
    let made = added (recording e n) old new held.broker in
    EndsOnly-added (recording e n) old new held.broker numbers.0 (record { typed = refl; present = refl; checked = refl })
    (IsFree-of_has_row_at released_by_key old.now held.broker made refl (sym (ap (λ o. option_map_or (λ k. has_row_at placed place_of (old.now.trees in_released.tree) (e, pos k)) o false) is) ∙ held.released e v ∙ free), tt)
    (IsThere-environment old.now s held made in_released.environment e there refl, (IsThere-version old.now s held made in_released.version_number v n is refl, tt)) (e ∷ []) (λ are. (are.0, (tt, tt))) (omega arith) (omega arith) here.unlimited

-- ---- the end of support

abbrev pub end_sql : List ℕ
end_sql = codes "DELETE FROM released WHERE environment = ?1 AND version_number = ?2"

pub ending : (e : Words) (n : ℕ) → TakesFrom at_released end_sql (Text e ∷ Int (pos n) ∷ []) by_place
unfolding understood everything
ending e n = record { means = record { is = refl; plain = (refl, refl); unlisted = refl }; runs = record { whole = refl; typed = refl; sumless = refl }; alone = refl; fits = λ b. or-true (not b) }

pub HoldsAfter-release_ended : (e : Words) (n : ℕ) (old new : State) (count : ℕ) (s : Broker) (v : Version) → Holds old.now s → number_of s.versions v ≡ Some n → Executes end_sql (Text e ∷ Int (pos n) ∷ []) old new (Ok count)
    → HoldsAfter 2 old new (record s { released = put_at (same_pair same_text same_version) s.released (e, v) false })
HoldsAfter-release_ended e n old new count s v held is h = HoldsAfter-deleted (ending e n) old new held.broker (omega arith) count h (λ frame left.
    Holds-released old.now new.now s _ held frame (λ f w. each old.now new.now s held e n v is false
    (has_row_at-removed by_both-total_text_int by_both-exact_text_int place_of (e, pos n) (keeps by_place (Text e ∷ Int (pos n) ∷ [])) (old.now.trees in_released.tree) (new.now.trees in_released.tree)
    (kept_by released_by_key old.now held.broker (Text e ∷ Int (pos n) ∷ []) (e, pos n) refl) left) f w (number_of s.versions w) refl))

-- and the count says whether it was released
pub Executes-end_release_count : (e : Words) (n : ℕ) (old new : State) (count : ℕ) (s : Broker) (v : Version) → Holds old.now s → number_of s.versions v ≡ Some n → Executes end_sql (Text e ∷ Int (pos n) ∷ []) old new (Ok count)
    → nat_lt 0 count ≡ s.released (e, v)
Executes-end_release_count e n old new count s v held is h =
    let rows = old.now.trees in_released.tree in
    let params = Text e ∷ Int (pos n) ∷ [] in
    ap (nat_lt 0) (Executes-delete_rows (ending e n) old new held.broker count h).2
    ∙ length-filter-list_any (keeps by_place params) rows ∙ list_any-same_tests (keeps by_place params) (λ r. eq_by_cmp placed (e, pos n) (place_of r)) rows (λ r has. keeps-one_key released_by_key.columns.of 0 params (e, pos n) refl r (released_by_key.columns.typed old.now held.broker r has))
    ∙ has_row_at-released old.now s held e v n is
