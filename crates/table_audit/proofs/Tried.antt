-- A query whose rows are judged tries a rule: what is said of the rows that it shows is said of those of the tables.
use Rattle.std.specs.{Prelude.{MatchOption, ◌↔◌}, List.Sorted.{IsPermutation}}
use Rattle.std.proofs.Common.{◌≡◌, ◌⊎◌, ◌∙◌, inl, inr, ℕ, ℤ, List, [], ◌∷◌, map, filter, length, Option, Some, None, Result, IfErr, refl, sym, ap, subst}
use Rattle.std.proofs.{lemmas.List.{length-map}, lemmas.List.Sorted.{Contains-permutation, length_permutation}, lemmas.Result.{IfErr-weaker}}
use Rattle.sqlite.specs.{Order.{Row}, Term.{Term}, Query.{Query}, Effect.{Database}, State.{State, Shown, HasCleanDisk}}
use Rattle.sqlite_rules.specs.Lists.{Has}
use Rattle.table_access.specs.{declared.StoreFault.{StoreFault}, declared.StoreFault.TheVariants.{Memory}, Calls.{CallsTablesBetween}, Columns.{whole_at}}
use Rattle.table_access.{specs.{Reading.{IsRefusedAs}, Statements.{from_table, shows, keeps}}, proofs.Answered.{IsRefusedAs-HasFailed, IsPermutation-has_each}}
use Rattle.table_access.proofs.{CallLemmas.{CallsBetween-weaken}, Steps.{IsPermutation-kept_rows}}
use Rattle.table_access.proofs.Members.{contains_has, filter_has, has_contains, has_filter, has_map, map_has}
use Rattle.broker_tables.{specs.Holds.{IsBroker}, proofs.TableQuery.{TableQuery, IsShown, Shown-IsShown, Shown-now_same}}
use Rattle.broker_tables.proofs.Frames.{Means-over_broker_schema, Runs-over_broker_schema}
use Rattle.table_audit.specs.{Audit.{EachOf}, Shown.{FindsAmong, TriesBetween}}

-- ---- the call

module _ {sql : List ℕ} {query : Query} (asked : TableQuery sql [] query) (old new : State) where
  pub TriesBetween-of_query : {A : Type 0} (r : Result A StoreFault) (Read : A → List Row → Type 0) (P : A → Database → Type 0)
      → (IsBroker old.now → (rows : List Row) → IsShown asked old.now rows → (a : A) → Read a rows → P a old.now)
      → CallsTablesBetween old new r (λ a. (rows : List Row) × Shown sql [] old new rows × Read a rows)
      → (HasCleanDisk new → IfErr r (λ fault. IsRefusedAs sql [] old new fault ⊎ (fault ≡ Memory)))
      → TriesBetween old new r P
  TriesBetween-of_query r Read P reports call cause = record {
    call = CallsBetween-weaken old new r _ _ (λ a h broker. (reports broker h.0 (Shown-IsShown asked old new broker h.0 h.1) a h.2, Shown-now_same asked old new broker h.0 h.1)) call;
    failure = λ clean inside broker unlimited. IfErr-weaker r _ _ (λ fault why. elim why [
      | inl refused ↦ inl (IsRefusedAs-HasFailed sql [] old new query asked.names (Means-over_broker_schema old.now broker sql asked.means)
          (Runs-over_broker_schema old.now broker sql [] query asked.runs) unlimited fault refused)
      | inr memory ↦ inr memory
    ]) (cause clean);
  }

-- ---- the rows

-- each of these rows is as it has to be, or the one with this number isn't
abbrev pub Finds : List Row → (Row → Type 0) → Option ℤ → Type 0
Finds rows Is found = MatchOption found (EachOf rows Is) (λ number. (r : Row) × Has rows r × (whole_at 0 r ≡ number) × (¬ (Is r)))

-- Each row that is shown is about one of the others, and is as it has to be if that one is. Each of the others is as it
-- has to be if all that are shown are.
pub Finds-of_shown : (rows others : List Row) (Kept Obeys : Row → Type 0)
    → ((row : Row) → Has rows row → (r : Row) × Has others r × (whole_at 0 row ≡ whole_at 0 r) × (Obeys r → Kept row))
    → ((r : Row) → Has others r → EachOf rows Kept → Obeys r)
    → (found : Option ℤ) → Finds rows Kept found → Finds others Obeys found
Finds-of_shown rows others Kept Obeys sound complete None each = λ r has. complete r has each
Finds-of_shown rows others Kept Obeys sound complete (Some number) (row, has, is, broken) =
    let it = sound row has in
    (it.0, it.1, sym it.2 ∙ is, λ obeyed. broken (it.3 obeyed))

-- ---- of one table

filter-keeps_all : (params : Row) (rows : List Row) → filter (keeps [] params) rows ≡ rows
filter-keeps_all params [] = refl
filter-keeps_all params (r ∷ rows) = ap (λ rs. r ∷ rs) (filter-keeps_all params rows)

module _ {sql : List ℕ} {tree : ℕ} {project : List Term} (asked : TableQuery sql [] (from_table tree [] project [])) (db : Database) (rows : List Row) (shown : IsShown asked db rows) where
  all : IsPermutation (map (shows project []) (filter (keeps [] []) (db.trees tree))) rows
  all = IsPermutation-kept_rows db [] tree [] project [] rows shown

  -- as many rows are shown as there are
  pub length-shown : length rows ≡ length (db.trees tree)
  length-shown = length_permutation _ rows all ∙ length-map (filter (keeps [] []) (db.trees tree)) (shows project []) ∙ ap length (filter-keeps_all [] (db.trees tree))

  -- each of them, and no others
  pub shown-of_row : (row : Row) → Has rows row → (r : Row) × Has (db.trees tree) r × (row ≡ shows project [] r)
  shown-of_row row has =
      let one = map_has (shows project []) (filter (keeps [] []) (db.trees tree)) row (IsPermutation-has_each _ rows row all has) in
      (one.0, (filter_has (keeps [] []) (db.trees tree) one.0 one.1).0, one.2)

  pub shown-has_row : (r : Row) → Has (db.trees tree) r → Has rows (shows project [] r)
  shown-has_row r has =
      let one = has_map (shows project []) (filter (keeps [] []) (db.trees tree)) r (has_filter (keeps [] []) (db.trees tree) r has refl) in
      contains_has rows _ (Contains-permutation _ rows _ all (has_contains _ _ one))

  -- what is shown keeps the rule if and only if the row obeys it
  pub Finds-of_table : (Keeps : ℕ → Row → Type 0) (Obeys : Row → Type 0) → ((r : Row) → whole_at 0 (shows project [] r) ≡ whole_at 0 r)
      → ((r : Row) → Has (db.trees tree) r → Keeps (length (db.trees tree)) (shows project [] r) ↔ Obeys r)
      → (found : Option ℤ) → FindsAmong Keeps rows found → Finds (db.trees tree) Obeys found
  Finds-of_table Keeps Obeys number same = Finds-of_shown rows (db.trees tree) (Keeps (length rows)) Obeys
      (λ row has. let it = shown-of_row row has in
      (it.0, it.1, ap (whole_at 0) it.2 ∙ number it.0, λ obeyed. subst (λ n. Keeps n row) (sym length-shown) (subst (Keeps (length (db.trees tree))) (sym it.2) ((same it.0 it.1).1 obeyed))))
      (λ r has each. (same r has).0 (subst (λ n. Keeps n (shows project [] r)) length-shown (each (shows project [] r) (shown-has_row r has))))
