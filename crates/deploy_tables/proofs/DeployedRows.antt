-- The statements on what is deployed.
use Rattle.std.specs.{Prelude.{option_map, is_some}, List.{list_any}, Option.{option_map_or}, Ordering.{eq_by_cmp, int_cmp}, Cmp.{Equal-is}}
use Rattle.std.proofs.Common.{◌≡◌, ℕ, ℤ, pos, codes, List, [], ◌∷◌, true, false, Bool, ◌&&◌, not, filter, nat_lt, Ordering, Option, refl, sym, ap, ◌∙◌, cond, slice_get, Some, None, Ok}
use Rattle.std.proofs.{Math.Bool.{and-true, and-false, or-true}, lemmas.List.Folds.{list_all-append}}
use Rattle.sqlite_catalog.proofs.ListFacts.{filter_all}
use Rattle.sqlite_tied.specs.Compute.{everything}
use Rattle.table_access.specs.{Columns.{text, text_cmp, whole_at, by_both}, Statements.{from_table, keeps, ChangesOnly}}
use Rattle.table_access.proofs.{Keys.{is_param, keeps-one_key, whole_key}, CountLemmas.{length-filter-list_any, list_any-same_tests, list_any-false}}
use Rattle.table_access.proofs.{Maps.{find-of_row}, SoundLemmas.{all_of}, Values.{cast-Int}}
use Rattle.broker_tables.{specs.{Schema.{in_deployed}, Rows.{value_at}, Holds.{IsBroker}}, proofs.Keyed.{deployed_by_place, finds, IsAscending-keys_of_table}}
use Rattle.broker_tables.proofs.{TableQuery.{TableQuery, IsShown}, Orders.{by_both-total_texts, by_both-exact_texts}}
use Rattle.broker_tables.proofs.{Present.{value_at-is_some, value_at-removed}, Placed.{at_deployed, column-texts, column-whole_numbers}}
use Rattle.broker_tables.proofs.{RoomLemmas.{Grows, Grows-filter}, Upserted.{PutsOver, PutsAt}, Removed.{TakesFrom, Executes-delete_rows}}
use Rattle.sqlite.specs.{declared.types.Value.TheVariants.{Null, Int, Text}, Order.{Row, column}, Term.{Term, col, lit, holds}, Effect.{Database}}
use Rattle.sqlite.specs.{State.{State, Executes}, Listing.{understood}}
use Rattle.sqlite_rules.specs.Lists.{Has}

-- an environment, a pacticipant and an instance
abbrev pub Place : Type 0
Place = List ℕ × (List ℕ × List ℕ)

abbrev pub place_of : Row → Place
place_of r = (text in_deployed.environment r, (text in_deployed.pacticipant r, text in_deployed.instance r))

abbrev pub place_cmp : Place → Place → Ordering
place_cmp = by_both text_cmp (by_both text_cmp text_cmp)

-- the number at a place
abbrev pub number_in : List Row → Place → Option ℤ
number_in = value_at place_cmp place_of (whole_at in_deployed.version_number)

module _ (db : Database) (broker : IsBroker db) where
  pub environments : (r : Row) → Has (db.trees in_deployed.tree) r → column r in_deployed.environment ≡ Text (text in_deployed.environment r)
  environments = column-texts at_deployed db broker in_deployed.environment refl

  pub pacticipants : (r : Row) → Has (db.trees in_deployed.tree) r → column r in_deployed.pacticipant ≡ Text (text in_deployed.pacticipant r)
  pacticipants = column-texts at_deployed db broker in_deployed.pacticipant refl

  pub column-deployed_instance : (r : Row) → Has (db.trees in_deployed.tree) r → column r in_deployed.instance ≡ Text (text in_deployed.instance r)
  column-deployed_instance = column-texts at_deployed db broker in_deployed.instance refl

  pub numbers : (r : Row) → Has (db.trees in_deployed.tree) r → column r in_deployed.version_number ≡ Int (whole_at in_deployed.version_number r)
  numbers = column-whole_numbers at_deployed db broker in_deployed.version_number refl

-- ---- the version at a place

abbrev by_place : List Term
by_place = is_param 1 0 ∷ is_param 2 1 ∷ is_param 3 2 ∷ []

pub number_at : (e p i : List ℕ)
    → TableQuery (codes "SELECT version_number FROM deployed WHERE environment = ?1 AND pacticipant = ?2 AND instance = ?3")
    (Text e ∷ Text p ∷ Text i ∷ []) (from_table in_deployed.tree by_place (col 1 in_deployed.version_number ∷ []) [])
unfolding understood everything
number_at e p i = record { names = _; means = record { is = refl; plain = (refl, refl); unlisted = refl }; runs = record { whole = refl; typed = refl; sumless = refl } }

pub number_found : (e p i : List ℕ) (db : Database) (rows : List Row) → IsBroker db → IsShown (number_at e p i) db rows
    → option_map (whole_at 0) (slice_get rows 0) ≡ number_in (db.trees in_deployed.tree) (e, (p, i))
number_found e p i db rows broker h =
    finds deployed_by_place db broker (Text e ∷ Text p ∷ Text i ∷ []) (e, (p, i)) refl (whole_at in_deployed.version_number) (whole_at 0) (λ r. refl) rows h

-- ---- a deployment

abbrev pub record_sql : List ℕ
record_sql = codes "INSERT INTO deployed (environment, pacticipant, instance, version_number) VALUES (?1, ?2, ?3, ?4) ON CONFLICT (environment, pacticipant, instance) DO UPDATE SET version_number = excluded.version_number"

abbrev update_project : List Term
update_project = col 1 0 ∷ col 1 in_deployed.environment ∷ col 1 in_deployed.pacticipant ∷ col 1 in_deployed.instance ∷ col 0 9 ∷ []

-- the columns of its row
abbrev pub row_for : List ℕ → List ℕ → List ℕ → ℕ → Row
row_for e p i n = Text e ∷ Text p ∷ Text i ∷ Int (pos n) ∷ []

pub recording : (e p i : List ℕ) (n : ℕ) → PutsOver at_deployed record_sql (row_for e p i n)
    (in_deployed.environment ∷ in_deployed.pacticipant ∷ in_deployed.instance ∷ []) 4 update_project (row_for e p i n)
unfolding understood everything
recording e p i n = record {
  terms = lit Null ∷ col 0 0 ∷ col 0 1 ∷ col 0 2 ∷ col 0 3 ∷ [];
  width = 5;
  means = record { is = refl; plain = (refl, refl); unlisted = refl };
  whole = refl;
  kinds = refl;
  one = refl;
  placed = λ v more. refl;
  typed = λ z next. refl;
  keys = refl;
  met = λ made r. refl;
  no_rowid = refl;
  no_first = λ v w r. refl;
  alone = refl;
  fits = refl;
  stored = λ j. Text e ∷ Text p ∷ Text i ∷ cast-Int (pos n) j ∷ [];
}

pub PutsAt-deployed : (e p i : List ℕ) (n : ℕ) → PutsAt deployed_by_place (whole_at in_deployed.version_number) (row_for e p i n) 4 update_project (row_for e p i n) (e, (p, i)) (pos n)
PutsAt-deployed e p i n = record { keyed = λ id. refl; valued = λ id. refl; cells = λ id. refl; last = Int (pos n) ∷ []; whole = refl; sets = λ z r. refl }

-- ---- the end of a deployment

-- whether it is this number
abbrev pub is_number : ℕ → Option ℤ → Bool
is_number n found = option_map_or (eq_by_cmp int_cmp (pos n)) found false

abbrev pub end_sql : List ℕ
end_sql = codes "DELETE FROM deployed WHERE environment = ?1 AND pacticipant = ?2 AND instance = ?3 AND version_number = ?4"

abbrev pub by_version : List Term
by_version = is_param 1 0 ∷ is_param 2 1 ∷ is_param 3 2 ∷ is_param 4 3 ∷ []

pub ending : (e p i : List ℕ) (n : ℕ) → TakesFrom at_deployed end_sql (Text e ∷ Text p ∷ Text i ∷ Int (pos n) ∷ []) by_version
unfolding understood everything
ending e p i n = record { means = record { is = refl; plain = (refl, refl); unlisted = refl }; runs = record { whole = refl; typed = refl; sumless = refl }; alone = refl; fits = λ b. or-true (not b) }

module _ (db : Database) (broker : IsBroker db) (e p i : List ℕ) (n : ℕ) where
  abbrev place : Place
  place = (e, (p, i))

  abbrev params : Row
  params = Text e ∷ Text p ∷ Text i ∷ Int (pos n) ∷ []

  -- the number at the place
  abbrev pub at_place : Option ℤ
  at_place = number_in (db.trees in_deployed.tree) place

  -- WHERE keeps the row of the place, if it has the number
  keeps-by_version : (r : Row) → Has (db.trees in_deployed.tree) r → keeps by_version params r ≡ (eq_by_cmp place_cmp place (place_of r) && eq_by_cmp int_cmp (pos n) (whole_at in_deployed.version_number r))
  keeps-by_version r has =
      list_all-append (holds (params ∷ r ∷ [])) by_place (is_param 4 3 ∷ [])
      ∙ (λ j. keeps-one_key deployed_by_place.columns.of 0 params place refl r (deployed_by_place.columns.typed db broker r has) j && keeps-one_key (whole_key in_deployed.version_number) 3 params (pos n) refl r (λ k. numbers db broker r has k ∷ []) j)

  -- the number at the place decides for each row of it
  keeps-at_place : (r : Row) → Has (db.trees in_deployed.tree) r → keeps by_version params r ≡ (eq_by_cmp place_cmp place (place_of r) && is_number n at_place)
  keeps-at_place r has = keeps-by_version r has ∙ go (eq_by_cmp place_cmp place (place_of r)) refl
    where
      go : (b : Bool) → eq_by_cmp place_cmp place (place_of r) ≡ b
          → (b && eq_by_cmp int_cmp (pos n) (whole_at in_deployed.version_number r)) ≡ (b && is_number n at_place)
      go false miss = refl
      go true hit =
          let same : place ≡ place_of r = by_both-exact_texts place (place_of r) ((Equal-is (place_cmp place (place_of r))).0 hit) in
          let there : at_place ≡ Some (whole_at in_deployed.version_number r) = ap (number_in (db.trees in_deployed.tree)) same ∙ find-of_row by_both-total_texts by_both-exact_texts place_of (whole_at in_deployed.version_number) (db.trees in_deployed.tree) r (IsAscending-keys_of_table deployed_by_place db broker) has in
          sym (ap (is_number n) there)

  keeps-if_number_at_place : (b : Bool) → is_number n at_place ≡ b → (r : Row) → Has (db.trees in_deployed.tree) r
      → keeps by_version params r ≡ (eq_by_cmp place_cmp place (place_of r) && b)
  keeps-if_number_at_place b is r has = keeps-at_place r has ∙ ap (λ c. eq_by_cmp place_cmp place (place_of r) && c) is

  is_number-is_some : (o : Option ℤ) → is_number n o ≡ true → is_some o ≡ true
  is_number-is_some None h = absurd cc
  is_number-is_some (Some z) h = refl

  -- whether a row is kept
  list_any-keeps_by_version : (b : Bool) → is_number n at_place ≡ b → list_any (keeps by_version params) (db.trees in_deployed.tree) ≡ b
  list_any-keeps_by_version true hit =
      list_any-same_tests (keeps by_version params) (λ r. eq_by_cmp place_cmp place (place_of r)) (db.trees in_deployed.tree) (λ r has. keeps-if_number_at_place true hit r has ∙ and-true _)
      ∙ sym (value_at-is_some place_cmp place_of (whole_at in_deployed.version_number) (db.trees in_deployed.tree) place) ∙ is_number-is_some at_place hit
  list_any-keeps_by_version false miss = list_any-same_tests (keeps by_version params) (λ r. false) (db.trees in_deployed.tree) (λ r has. keeps-if_number_at_place false miss r has ∙ and-false _)
      ∙ list_any-false (db.trees in_deployed.tree)

  -- what is left at each place
  number_in-after_removal : (b : Bool) → is_number n at_place ≡ b → (rows : List Row) → rows ≡ filter (λ r. not (keeps by_version params r)) (db.trees in_deployed.tree)
      → (q : Place)
      → number_in rows q ≡ cond (b && eq_by_cmp place_cmp q place) None (number_in (db.trees in_deployed.tree) q)
  number_in-after_removal true hit rows is q =
      value_at-removed by_both-total_texts by_both-exact_texts place_of (whole_at in_deployed.version_number) place (keeps by_version params) (db.trees in_deployed.tree) rows
      (all_of _ (db.trees in_deployed.tree) (λ r has. keeps-if_number_at_place true hit r has ∙ and-true _)) is q
  number_in-after_removal false miss rows is q = ap (λ xs. number_in xs q) (is
      ∙ filter_all (λ r. not (keeps by_version params r)) (db.trees in_deployed.tree) (λ r has. ap not (keeps-if_number_at_place false miss r has ∙ and-false _)))

-- the row of the place goes if it has the number, and the count says whether it did
pub Executes-end_deployment : (e p i : List ℕ) (n : ℕ) (old new : State) (count : ℕ) → (broker : IsBroker old.now) → Executes end_sql (Text e ∷ Text p ∷ Text i ∷ Int (pos n) ∷ []) old new (Ok count)
    → ChangesOnly in_deployed.tree old new × Grows (old.now.trees in_deployed.tree) (new.now.trees in_deployed.tree) × ((b : Bool) → is_number n (at_place old.now broker e p i n) ≡ b → (q : Place) → number_in (new.now.trees in_deployed.tree) q ≡ cond (b && eq_by_cmp place_cmp q (e, (p, i))) None (number_in (old.now.trees in_deployed.tree) q))
    × (nat_lt 0 count ≡ is_number n (at_place old.now broker e p i n))
Executes-end_deployment e p i n old new count broker h =
    let db = old.now in
    let params = Text e ∷ Text p ∷ Text i ∷ Int (pos n) ∷ [] in
    let it = Executes-delete_rows (ending e p i n) old new broker count h in (
      it.0,
      Grows-filter (db.trees in_deployed.tree) (new.now.trees in_deployed.tree) _ it.1,
      λ b is q. number_in-after_removal db broker e p i n b is (new.now.trees in_deployed.tree) it.1 q,
      ap (nat_lt 0) it.2 ∙ length-filter-list_any (keeps by_version params) (db.trees in_deployed.tree)
          ∙ list_any-keeps_by_version db broker e p i n (is_number n (at_place db broker e p i n)) refl,
    )
