-- DELETE from a table of the broker to which no other refers: what it leaves, and that it fails only as the store fails.
use Rattle.std.specs.Option.{option_map_or}
use Rattle.std.proofs.Common.{◌≡◌, ◌∙◌, ◌≤◌, ℕ, List, [], ◌∷◌, filter, length, slice_get, Bool, true, false, not, sym, ap, subst, Some, None, Ok}
use Rattle.sqlite.specs.{Command.TheVariants.{Delete}, Order.{Row}, Schema.{Schema}, State.{State, Executes}, Table.{Table}, Term.{Term, col}}
use Rattle.sqlite.specs.Tree.{IsAscending}
use Rattle.sqlite_schema.specs.Rules.{references_fit}
use Rattle.table_access.specs.{declared.StoreFault.{StoreFault}, Calls.{HasFailed, FailsToRun, fault_of}, Sound.{IsNumbered}}
use Rattle.table_access.{specs.Statements.{ChangesOnly, from_table, keeps}, proofs.{Answered.{Runs}, Deleted.{IsLeaf, delete_fails}, Edits.{IsAlone}}}
use Rattle.table_access.proofs.{SoundLemmas.{has_place}, Steps.{Means, deletes}}
use Rattle.broker_core.specs.State.{State as Broker}
use Rattle.broker_tables.specs.{Schema.{broker_schema}, Holds.{IsBroker, Holds, HoldsAfter}}
use Rattle.broker_tables.proofs.{Frames.{Frame, ChangesOnly-Frame, Means-over_broker_schema, Runs-over_broker_schema}, Inserted.{apart}}
use Rattle.broker_tables.proofs.Placed.{Placed, no_actions, Placed-IsNumbered, slice_get-Placed_plainly, plainly}
use Rattle.broker_tables.proofs.RoomLemmas.{Grows, HoldsAfter-one_table, Grows-filter}

-- The text, with these parameters, takes the rows that WHERE keeps out of the table. `refl` finds each field but the last,
-- under `unfolding understood everything`.
pub record TakesFrom {t : Table} (at : Placed t) (sql : List ℕ) (params : Row) (terms : List Term) : Type 0 where
  pub means : Means broker_schema sql (Delete at.place (record { lets = []; body = from_table t.tree terms (col 1 0 ∷ []) [] }))
  pub runs : Runs broker_schema sql params (from_table t.tree terms (col 1 0 ∷ []) [])
  pub alone : IsAlone broker_schema t.tree
  pub fits : (removes : Bool) → references_fit broker_schema (plainly t) false removes ≡ true

module _ {t : Table} {at : Placed t} {sql : List ℕ} {params : Row} {terms : List Term} (takes : TakesFrom at sql params terms) (old new : State) (broker : IsBroker old.now) where
  slice_get-Delete_table : slice_get old.now.schema.tables at.place ≡ Some (plainly t)
  slice_get-Delete_table = slice_get-Placed_plainly at old.now broker

  IsNumbered-before_delete : IsNumbered (old.now.trees t.tree)
  IsNumbered-before_delete = Placed-IsNumbered at old.now broker

  -- if it is done, these rows are gone, the count says how many they were, and no other table changes
  pub Executes-delete_rows : (count : ℕ) → Executes sql params old new (Ok count) → ChangesOnly t.tree old new × (new.now.trees t.tree ≡ filter (λ r. not (keeps terms params r)) (old.now.trees t.tree))
      × (count ≡ length (filter (keeps terms params) (old.now.trees t.tree)))
  Executes-delete_rows = deletes t.name t.tree t.columns t.key t.primary t.uniques t.orders t.checks t.references sql params old new at.place slice_get-Delete_table terms
      (Means-over_broker_schema old.now broker sql takes.means) (no_actions old.now broker) IsNumbered-before_delete

  -- so the next state is held, if that follows from the rows that are left and the tables that stayed
  pub HoldsAfter-deleted : {taken : ℕ} → 1 ≤ taken → {next : Broker} (count : ℕ) → Executes sql params old new (Ok count)
      → (Frame (t.name ∷ []) old.now new.now → new.now.trees t.tree ≡ filter (λ r. not (keeps terms params r)) (old.now.trees t.tree) → Holds new.now next) → HoldsAfter taken old new next
  HoldsAfter-deleted {taken} some {next} count h holds =
      let it = Executes-delete_rows count h in
      let frame = ChangesOnly-Frame (t.name ∷ []) t.tree at.alone old new broker it.0 in
      HoldsAfter-one_table taken some t.name old new next frame
      (λ counted. subst (λ o. Grows (option_map_or old.now.trees o []) (option_map_or new.now.trees o [])) (sym at.named) (Grows-filter _ _ _ it.1)) (holds frame it.1)

  -- and without a limit of steps it fails only as the store fails
  pub FailsToRun-delete : old.step_limit ≡ None → (fault : StoreFault) → FailsToRun sql params old new fault → HasFailed old new fault
  FailsToRun-delete unlimited fault (error, is, h) =
      let here : (P : Schema → Type 0) → P broker_schema → P old.now.schema = λ P. subst P (sym broker.schema) in
      let leaf : IsLeaf t.name t.tree t.columns t.key t.primary t.uniques t.orders t.checks t.references old.now.schema = record {
        apart = here (λ s. IsAscending (λ a b. a.tree ≡ b.tree → ⊥) s.tables) apart;
        no_actions = no_actions old.now broker;
        alone = here (λ s. IsAlone s t.tree) takes.alone;
        fits = here (λ s. (removes : Bool) → references_fit s (plainly t) false removes ≡ true) takes.fits;
      } in
      let it = delete_fails t.name t.tree t.columns t.key t.primary t.uniques t.orders t.checks t.references sql params old new at.place slice_get-Delete_table terms (Means-over_broker_schema old.now broker sql takes.means)
      (Runs-over_broker_schema old.now broker sql params _ takes.runs) unlimited leaf (has_place _ at.place (plainly t) slice_get-Delete_table) IsNumbered-before_delete.0 broker.kept.sound.obeys.rules error h in
      record { cause = it.0; fault_is = is ∙ ap fault_of it.1; has = it.2; over = it.3.autocommit; blamed = it.4 }
