-- A query whose text is understood, and whose parameters are of the right kinds, FailsToQuery-Fails only as the store FailsToQuery-Fails.
use Rattle.std.specs.{List.Sorted.{IsPermutation}, List.{flat_map}}
use Rattle.std.proofs.Common.{◌≡◌, ◌⊎◌, inl, inr, ℕ, take, List, [], ◌∷◌, map, filter, length, slice_get, Bool, true, false, nat_le, ◌==◌, ◌&&◌, Some, None, Option, Ok, Err, Result, refl, sym, ap, subst, subst₂, ◌∙◌, append-nil, drop}
use Rattle.std.proofs.{lemmas.Bool.{leb-true, eqb-true}, lemmas.List.Sorted.{Contains-permutation, IsPermutation-sym}, lemmas.List.{take-append-drop}}
use Rattle.sqlite_keyed.proofs.RuleLemmas.{first_of_both, second_of_both}
use Rattle.sqlite.specs.{Order.{Row}, Tree.{Trees}, Schema.{Schema}, Command.TheVariants.{Select}, Term.{Term, Env, eval_all}, declared.error.Error.{Error}}
use Rattle.sqlite.specs.{Effect.{Database, Answers, RefusesQuery, RefusesToRead}, Listing.{understood, IsSourceOf}, Rows.{Queried}}
use Rattle.sqlite.{specs.State.{State, Shown, FailsToQuery, IsNotRun, IsNoStatement, Fails}, proofs.Callers.{IsPlain, command_of}}
use Rattle.sqlite_sql.specs.{Query.{Query, Join, end, inner, left, counted, made, folded, first, has_no_fold, FoldOverflows}, Program.{QueryOverflows}}
use Rattle.sqlite_sql.specs.Group.{Grouping, Overflows}
use Rattle.sqlite_typing.specs.Types.{accepts_program}
use Rattle.sqlite_value.specs.declared.keys.Key.{Key}
use Rattle.sqlite_resolve.specs.{declared.compiled.Compiled.{Compiled}, declared.error.CompileError.{CompileError}}
use Rattle.sqlite_rules.{specs.Lists.{Has}, proofs.ListLemmas.{has_front}}
use Rattle.table_access.specs.{declared.StoreFault.{StoreFault}, declared.StoreFault.TheVariants.{Memory}, Calls.{HasFailed, fault_of}}
use Rattle.table_access.specs.Reading.{IsRefusedAs, FailsToRead, FailsToTake, ReportsText, ReportsNumber, IsTextAt, IsNumberRow}
use Rattle.table_access.specs.Statements.{from_table, from_both, keeps, keeps_both, shows}
use Rattle.table_access.proofs.{Members.{has_either, contains_has, has_contains, map_has, filter_has}, SoundLemmas.{has_place}}
use Rattle.table_access.proofs.{Joins.{IsPermutation-joined_rows}, Steps.{Means, IsPermutation-selected_rows}}

-- the whole text is one statement, with so many parameters
abbrev pub is_whole : List ℕ → ℕ → Result Compiled CompileError → Bool
is_whole sql given (Ok c) = nat_le (length sql) c.tail && (given == length c.names)
is_whole sql given (Err e) = false

abbrev pub is_ungrouped : Option Grouping → Bool
is_ungrouped None = true
is_ungrouped (Some g) = false

-- nothing is summed up
abbrev pub sums_nothing : Query → Bool
sums_nothing q = is_ungrouped q.group && has_no_fold q.from

-- The query can be run with these parameters: `refl` finds each field, under `unfolding understood everything`, even if
-- the parameters are variables, as only their kinds count.
pub record Runs (schema : Schema) (sql : List ℕ) (params : Row) (q : Query) : Type 0 where
  pub whole : is_whole sql (length params) (understood schema sql) ≡ true
  pub typed : accepts_program schema [] q params ≡ true
  pub sumless : sums_nothing q ≡ true

FoldOverflows-never : (db : Trees) (from : Join) (env : Env) → has_no_fold from ≡ true → ¬ FoldOverflows db from env
FoldOverflows-never db end env plain h = h
FoldOverflows-never db (inner t more) env plain h = FoldOverflows-never db more _ plain h.4
FoldOverflows-never db (left t on more) env plain h = FoldOverflows-never db more _ plain h.4
FoldOverflows-never db (counted most from test more) env plain (inl h) = FoldOverflows-never db from env (first_of_both _ _ plain) h
FoldOverflows-never db (counted most from test more) env plain (inr h) = FoldOverflows-never db more _ (second_of_both _ _ plain) h
FoldOverflows-never db (made m more) env plain h = FoldOverflows-never db more _ plain h
FoldOverflows-never db (folded from test all more) env plain h = absurd cc
FoldOverflows-never db (first from test order shown more) env plain (inl h) = FoldOverflows-never db from env (first_of_both _ _ plain) h
FoldOverflows-never db (first from test order shown more) env plain (inr h) = FoldOverflows-never db more _ (second_of_both _ _ plain) h

Overflows-never_ungrouped : (g : Option Grouping) (all : List Env) → is_ungrouped g ≡ true → ¬ Overflows g all
Overflows-never_ungrouped None all plain h = h
Overflows-never_ungrouped (Some g) all plain h = absurd cc

QueryOverflows-never_sumless : (db : Trees) (params : Row) (q : Query) → sums_nothing q ≡ true → ¬ QueryOverflows q db params
QueryOverflows-never_sumless db params q plain (inl h) = Overflows-never_ungrouped q.group _ (first_of_both _ _ plain) h
QueryOverflows-never_sumless db params q plain (inr h) = FoldOverflows-never db q.from (params ∷ []) (second_of_both _ _ plain) h

-- a plain text that is whole is a statement
pub IsNoStatement-never_plain : (sql : List ℕ) (params : Row) (old : State) → IsPlain (understood old.now.schema sql) → is_whole sql (length params) (understood old.now.schema sql) ≡ true → (e : Error) → ¬ IsNoStatement old sql params e
IsNoStatement-never_plain sql params old plain is_it e (inl h) = let none : false ≡ true = subst (λ r. is_whole sql (length params) r ≡ true) h.1 is_it in cc
IsNoStatement-never_plain sql params old plain is_it e (inr (c, is, why)) =
    let whole = subst (λ r. is_whole sql (length params) r ≡ true) is is_it in
    elim why [
      | inl many ↦ many.0 (leb-true (length sql) c.tail (first_of_both _ _ whole))
      | inr more ↦ elim more [ inl count ↦ count.0 (eqb-true (length params) (length c.names) (second_of_both _ _ whole)) | inr clock ↦ clock.0 (subst IsPlain is plain).1 ]
    ]

-- a query that can be run, with no limit of steps, is refused by nothing
pub RefusesQuery-never : (params : Row) (db : Database) (q : Query) → accepts_program db.schema [] q params ≡ true → sums_nothing q ≡ true → (limit : Option ℕ) → limit ≡ None → (e : Error) → ¬ RefusesQuery limit db (record { lets = []; body = q }) params e
RefusesQuery-never params db q typed sumless limit unlimited e (inl kind) = let clash : true ≡ false = sym typed ∙ kind.1 in cc
RefusesQuery-never params db q typed sumless limit unlimited e (inr (inl sum)) = QueryOverflows-never_sumless _ params q sumless sum.1
RefusesQuery-never params db q typed sumless limit unlimited e (inr (inr stopped)) = let some = rw unlimited at stopped.1 in cc

-- nor is it stopped
pub Queried-never_stops : (params : Row) (db : Database) (q : Query) → accepts_program db.schema [] q params ≡ true → sums_nothing q ≡ true → (limit : Option ℕ) → limit ≡ None → (stop : Option Error) → ¬ Queried limit db (record { lets = []; body = q }) params (Err stop)
Queried-never_stops params db q typed sumless limit unlimited None h = h
Queried-never_stops params db q typed sumless limit unlimited (Some e) h = RefusesQuery-never params db q typed sumless limit unlimited e h

module _ (sql : List ℕ) (params : Row) (old new : State) (q : Query) (names : List (List ℕ)) (means : Means old.now.schema sql (Select (record { lets = []; body = q }) names)) (runs : Runs old.now.schema sql params q)
    (unlimited : old.step_limit ≡ None) where
  -- a failure is one of the store
  FailsToQuery-Fails : (e : Error) → FailsToQuery sql params old new e → Fails old new ⊥ e
  unfolding FailsToQuery IsNotRun
  FailsToQuery-Fails e (inl (inl h)) = absurd (IsNoStatement-never_plain sql params old means.plain runs.whole e h.0)
  FailsToQuery-Fails e (inl (inr h)) = h
  FailsToQuery-Fails e (inr h) =
      let bare = subst IsPlain h.1.is means.plain in
      let it = rw (bare.0, bare.1, append-nil params) at h.2 in
      let db : it.0 ≡ old.now = subst (λ b. IsSourceOf b old.now it.0) means.unlisted it.1 in
      absurd (RefusesQuery-never params old.now q runs.typed runs.sumless old.step_limit unlimited e (subst₂ (λ k d. RefusesToRead old.step_limit k d params e) (ap command_of (sym h.1.is) ∙ means.is) db it.2))

  -- the transaction is over
  pub IsRefusedAs-HasFailed : (fault : StoreFault) → IsRefusedAs sql params old new fault → HasFailed old new fault
  IsRefusedAs-HasFailed fault (e, is, h) = let it = FailsToQuery-Fails e h in record { cause = it.0; fault_is = is ∙ ap fault_of it.1; has = it.2; over = it.3.autocommit; blamed = it.4 }

  -- if the first row has a text and reading it FailsToQuery-Fails, then the store failed or there was no room for the text
  pub FailsToTake-ReportsText : ((rows : List Row) (row : Row) → Shown sql params old new rows → slice_get rows 0 ≡ Some row → IsTextAt 0 row) → (fault : StoreFault) → FailsToTake ReportsText sql params old new fault → HasFailed old new fault ⊎ (fault ≡ Memory)
  FailsToTake-ReportsText is_present fault (inl refused) = inl (IsRefusedAs-HasFailed fault refused)
  FailsToTake-ReportsText is_present fault (inr (rows, shown, row, head, reports)) = elim reports [ inl none ↦ absurd (none.1 (is_present rows row shown head)) | inr room ↦ inr room.0 ]

  -- if the first row has a number and reading it FailsToQuery-Fails, then the store failed
  pub FailsToTake-ReportsNumber : ((rows : List Row) (row : Row) → Shown sql params old new rows → slice_get rows 0 ≡ Some row → IsNumberRow row) → (fault : StoreFault) → FailsToTake ReportsNumber sql params old new fault → HasFailed old new fault
  FailsToTake-ReportsNumber is_present fault (inl refused) = IsRefusedAs-HasFailed fault refused
  FailsToTake-ReportsNumber is_present fault (inr (rows, shown, row, head, reports)) = absurd (reports.1 (is_present rows row shown head))

  -- if a row FailsToQuery-Fails only for lack of memory and reading the list FailsToQuery-Fails, then the store failed or memory ran out
  pub FailsToRead-HasFailed : {A : Type 0} (Reads : Row → A → Type 0) (Fails : Row → StoreFault → Type 0) → ((rows : List Row) (row : Row) → Shown sql params old new rows → Has rows row → (fault : StoreFault) → Fails row fault → fault ≡ Memory) → (fault : StoreFault)
      → FailsToRead Reads Fails sql params old new fault → HasFailed old new fault ⊎ (fault ≡ Memory)
  FailsToRead-HasFailed Reads Fails reads fault (inl refused) = inl (IsRefusedAs-HasFailed fault refused)
  FailsToRead-HasFailed Reads Fails reads fault (inr (rows, shown, row, has, why)) = inr (elim why [ inl failed ↦ reads rows row shown has fault failed | inr room ↦ room.0 ])

-- ---- the rows that are shown

-- the first row is one of the rows
pub slice_get-has_first : (rows : List Row) (row : Row) → slice_get rows 0 ≡ Some row → Has rows row
slice_get-has_first rows = has_place rows 0

-- each is one of the rows in another order
pub IsPermutation-has_each : {X : Type 0} (xs ys : List X) (x : X) → IsPermutation xs ys → Has ys x → Has xs x
IsPermutation-has_each xs ys x same has = contains_has xs x (Contains-permutation ys xs x (IsPermutation-sym xs ys same) (has_contains ys x has))

-- a row that is shown of one table is what is shown of a row that WHERE keeps
pub Shown-of_table_row : (sql : List ℕ) (params : Row) (old new : State) (t : ℕ) (terms project : List Term) (order : List (Term × Key)) (names : List (List ℕ)) → Means old.now.schema sql (Select (record { lets = []; body = from_table t terms project order }) names)
    → (rows : List Row) (row : Row) → Shown sql params old new rows → Has rows row → (r : Row) × Has (old.now.trees t) r × (keeps terms params r ≡ true) × (row ≡ shows project params r)
Shown-of_table_row sql params old new t terms project order names means rows row shown has =
    let kept = filter (keeps terms params) (old.now.trees t) in
    let one = map_has (shows project params) kept row (IsPermutation-has_each _ rows row (IsPermutation-selected_rows sql params old new t terms project order names means rows shown) has) in
    let it = filter_has (keeps terms params) (old.now.trees t) one.0 one.1 in
    (one.0, it.0, it.1, one.2)

-- LIMIT shows no other rows
pub take-sound : {X : Type 0} (n : ℕ) (xs : List X) (x : X) → Has (take n xs) x → Has xs x
take-sound n xs x has = has_front xs (take n xs) (drop n xs) x (sym (take-append-drop n xs)) has

-- a row that is shown of two tables is what is shown of a row of each
flat_map-sound : {X Y : Type 0} (f : X → List Y) (xs : List X) (y : Y) → Has (flat_map f xs) y → (x : X) × Has xs x × Has (f x) y
flat_map-sound f [] y has = absurd has
flat_map-sound f (x ∷ xs) y has = elim (has_either (f x) (flat_map f xs) y has) [ inl here ↦ (x, inl refl, here) | inr later ↦ let it = flat_map-sound f xs y later in (it.0, inr it.1, it.2) ]

pub pair_shown : (db : Database) (params : Row) (t u : ℕ) (terms project : List Term) (order : List (Term × Key)) (rows : List Row) → Answers db (record { lets = []; body = from_both t u terms project order }) params rows
    → (row : Row) → Has rows row → (r s : Row) × Has (db.trees t) r × Has (db.trees u) s × (row ≡ eval_all project (params ∷ r ∷ s ∷ [])) × (keeps_both terms params r s ≡ true)
pair_shown db params t u terms project order rows h row has =
    let one = flat_map-sound (λ r. map (λ s. eval_all project (params ∷ r ∷ s ∷ [])) (filter (keeps_both terms params r) (db.trees u))) (db.trees t) row (IsPermutation-has_each _ rows row (IsPermutation-joined_rows db params t u terms project order rows h) has) in
    let two = map_has (λ s. eval_all project (params ∷ one.0 ∷ s ∷ [])) (filter (keeps_both terms params one.0) (db.trees u)) row one.2 in
    let kept = filter_has (keeps_both terms params one.0) (db.trees u) two.0 two.1 in
    (one.0, two.0, one.1, kept.0, two.2, kept.1)
