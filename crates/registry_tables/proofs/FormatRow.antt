-- The statement that shows-made_row the format in meta's row: what it makes of the row, and why it fails.
use Rattle.broker_tables.specs.Schema.{in_meta, in_checked_results, in_strict_environments, checked_results, strict_environments, schema_of, all_tables}
use Rattle.broker_tables.specs.{Holds.{IsMeta, format}, Format1.{HoldsUnmarked, format_1, format_1_tables, added_tables}}
use Rattle.broker_tables.proofs.{Format1.{KeepsOthers, HoldsUnmarked-set_format}, Placed.{meta, broker_schema-HasNoActions}}
use Rattle.std.specs.List.{AllByRecursion}
use Rattle.std.proofs.Common.{◌≡◌, ◌≤◌, ◌^◌, ℕ, ℤ, pos, codes, List, [], ◌∷◌, length, map, not, inl, inr, filter, refl, sym, ap, subst, ◌∙◌, slice_get, Option, Some, None, Ok, Err}
use Rattle.sqlite.specs.{Tree.{rowid}, Cast.{cast_row}, declared.types.Value.TheVariants.{Null, Int, Text}, Order.{Row, column}}
use Rattle.sqlite.specs.{Edit.{id_in, without_all, edit_of}, Term.{Term, col, lit}, Command.{Command}, Command.TheVariants.{Update}, Schema.{Schema}}
use Rattle.sqlite.specs.{Effect.{Answers}, State.{State, Executes, Fails, mode_of}, Listing.{understood}, Rowids.TheVariants.{Given}}
use Rattle.sqlite.specs.{declared.error.Error.{Error}, Rows.{Written, Task, Updates}, Does.{Does}}
use Rattle.sqlite_schema.specs.{declared.program.Program.{Program}, declared.schema.Keys.TheVariants.{Enforced}, declared.schema.Among.TheVariants.{All}}
use Rattle.sqlite_schema.specs.Rules.{Refers}
use Rattle.sqlite_rules.{specs.{Lists.{Has}, Calls.{ids_of}}, proofs.TableLemmas.{int_is}}
use Rattle.sqlite_keyed.proofs.ListLemmas.{IsPermutation-same}
use Rattle.sqlite_tied.specs.Compute.{everything}
use Rattle.table_access.{specs.{Sound.{IsNumbered}, Statements.{from_table, keeps, shows, HasNoActions}}, proofs.Creation.{AllByRecursion-front}}
use Rattle.table_access.proofs.{Steps.{Means, updates, Ok-not_stopped, Ok-injective, shows-one_row}, SoundLemmas.{at_has, column-Text, has_place}}
use Rattle.table_access.proofs.{Removal.{without_all-ids_of}, Answered.{Runs, Queried-never_stops}, Edits.{Suits, goes, refers}}
use Rattle.table_access.proofs.Refused.{EndsAs-stopped, OnTable-stops, IsMisplaced-never_anywhere, Executes-change_fails, Fails-weaken}
use Rattle.broker_core.specs.State.{State as Broker}
use Rattle.registry_tables.{specs.Format.{KeepsFormat1Rows}, proofs.MetaRow.{alone, IsMeta-one_row, row_of, cast_row-row_of, TakesMeta, Suits-meta_row}}

abbrev pub set_sql : List ℕ
set_sql = codes "UPDATE meta SET format = 2"

-- what SET makes of a row
abbrev project : List Term
project = col 1 0 ∷ lit Null ∷ lit (Int (pos format)) ∷ col 1 in_meta.office_digest ∷ []

abbrev query : Program
query = record { lets = []; body = from_table in_meta.tree [] (col 1 0 ∷ project) [] }

abbrev command : Command
command = Update 0 query

-- what the text means over a schema, that it can be run, and that meta takes its row
abbrev IsSet : Schema → Type 0
IsSet schema = Means schema set_sql command × Runs schema set_sql [] query.body × ((id : ℤ) → TakesMeta schema (id ∷ []))

IsSet-all_tables : IsSet (schema_of all_tables)
unfolding understood everything
IsSet-all_tables = (
  record { is = refl; plain = (refl, refl); unlisted = refl },
  record { whole = refl; typed = refl; sumless = refl },
  λ id. record { apart = refl; no_actions = broker_schema-HasNoActions; listed = inl refl; narrow = refl; referred = λ r. refl; alone = inr refl },
)

module _ (old new : State) (s : Broker) (held : HoldsUnmarked format_1 added_tables old.now s) where
  abbrev rows : List Row
  rows = old.now.trees in_meta.tree

  -- the row that meta is to have
  abbrev made : Row
  made = row_of format s.office

  is : IsSet old.now.schema
  is = subst IsSet (sym held.schema) IsSet-all_tables

  slice_get-meta : slice_get old.now.schema.tables 0 ≡ Some meta
  slice_get-meta = ap (λ (c : Schema). slice_get c.tables 0) held.schema

  numbered : IsNumbered rows
  numbered = (subst (λ (c : Schema). AllByRecursion (λ t. IsNumbered (old.now.trees t.tree)) c.tables) held.schema held.kept.numbered).0

  -- SET makes it of the one row
  shows-made_row : (r : Row) × (rows ≡ r ∷ []) × (shows project [] r ≡ made)
  shows-made_row =
      let one = IsMeta-one_row format_1 s.office rows held.meta in
      let r = one.0 in
      let has : Has rows r = subst (λ xs. Has xs r) (sym one.1) (inl refl) in
      let number : column r 0 ≡ Int (pos 1) = int_is (rowid r) (at_has _ rows r numbered.1 has) ∙ ap Int one.2 in
      let digest : column r in_meta.office_digest ≡ Text s.office = column-Text old.now held.kept.sound meta (has_place _ 0 meta slice_get-meta) r has 2 _ refl refl refl refl refl ∙ ap Text one.3 in
      (r, one.1, λ i. number i ∷ Null ∷ Int (pos format) ∷ digest i ∷ [])

  pub Executes-set_format : (count : ℕ) → Executes set_sql [] old new (Ok count) → HoldsUnmarked format added_tables new.now s × KeepsFormat1Rows old.now new.now
  Executes-set_format count h =
      let no_actions : HasNoActions old.now.schema.tables = subst (λ (c : Schema). HasNoActions c.tables) (sym held.schema) broker_schema-HasNoActions in
      let it = updates (codes "meta") 0 meta.columns (Some 0) (0 ∷ []) meta.uniques meta.orders meta.checks [] set_sql [] old new 0 slice_get-meta [] project is.0 no_actions numbered shows-made_row.0 made
      (ap (filter (keeps [] [])) shows-made_row.1) (ap (cast_row meta) shows-made_row.2 ∙ cast_row-row_of format s.office) count h in
      let row : new.now.trees in_meta.tree ≡ made ∷ [] = alone (filter (λ x. not (keeps [] [] x)) rows) (new.now.trees in_meta.tree) made it.1 (ap (filter (λ x. not (keeps [] [] x))) shows-made_row.1) in
      let others = subst (λ (c : Schema). AllByRecursion (KeepsOthers old.now.trees new.now.trees) c.tables) held.schema it.0.others in (
        HoldsUnmarked-set_format format_1 old.now new.now s format held it.0.schema (it.0.kept held.kept) others (subst (IsMeta format s.office) (sym row) refl),
        AllByRecursion-front (KeepsOthers old.now.trees new.now.trees) (schema_of format_1_tables).tables (record checked_results { tree = in_checked_results.tree } ∷ record strict_environments { tree = in_strict_environments.tree } ∷ []) others,
      )

  -- ---- why it fails

  module _ (short : length s.office ≤ 10 ^ 7) (unlimited : old.step_limit ≡ None) where
    abbrev task : Task
    task = record { limit = old.step_limit; keys = (mode_of old).keys; schema = old.now.schema; table = meta; params = [] }

    -- what its query shows makes an edit that Suits-meta_row meta
    edits : (out : List Row) → Answers old.now query [] out → Suits ⊥ old.now.schema Enforced old.now.trees (edit_of old.now.trees meta (ids_of out) Given 1 out)
    edits out answers =
        let number = column shows-made_row.0 0 in
        let gone = id_in number ∷ [] in
        let found : filter (keeps [] []) rows ≡ shows-made_row.0 ∷ [] = ap (filter (keeps [] [])) shows-made_row.1 in
        let none : without_all rows gone ≡ [] =
        without_all-ids_of rows numbered (keeps [] []) ((number ∷ []) ∷ []) (IsPermutation-same _ _ (ap (map (λ x. column x 0 ∷ [])) found)) ∙ ap (filter (λ x. not (keeps [] [] x))) shows-made_row.1 in
        let shown : out ≡ (number ∷ made) ∷ [] = shows-one_row old.now [] in_meta.tree [] (col 1 0 ∷ project) [] out answers shows-made_row.0 found ∙ ap (λ x. (number ∷ x) ∷ []) shows-made_row.2 in
        subst (λ xs. Suits ⊥ old.now.schema Enforced old.now.trees (edit_of old.now.trees meta (ids_of xs) Given 1 xs)) (sym shown)
        (subst (λ x. Suits ⊥ old.now.schema Enforced old.now.trees (record { table = meta; gone = gone; news = x ∷ [] })) (sym (cast_row-row_of format s.office))
        (Suits-meta_row format s.office old.now gone (is.2 (id_in number)) held.kept none short))

    updated : (stop : Option Error) → Updates task query [] old.now.trees (Err stop) → ⊥
    updated stop h = elim (EndsAs-stopped stop h) [
      | inl asked ↦ Queried-never_stops [] old.now query.body is.1.typed refl old.step_limit unlimited stop asked
      | inr given ↦ elim (EndsAs-stopped stop given.2) [ inl edited ↦ (goes ⊥ old.now.schema Enforced old.now.trees _ (edits given.0 given.1) stop edited).1 | inr done ↦ absurd (let h = done.2 in cc) ]
    ]

    left_sound : (w : Written) → Updates task query [] old.now.trees (Ok w) → Refers All old.now.schema w.trees
    left_sound w h =
        let given = Ok-not_stopped h in
        let edited = Ok-not_stopped given.2 in
        subst (λ trees. Refers All old.now.schema trees) (sym (ap (λ (it : Written). it.trees) (Ok-injective edited.2))) (refers ⊥ old.now.schema Enforced old.now.trees _ (edits given.0 given.1) edited.0 edited.1)

    does : (stop : Option Error) → Does old.step_limit (mode_of old) [] old.now set_sql None command (Err stop) → ⊥
    does stop h = elim (OnTable-stops (codes "meta") 0 meta.columns (Some 0) (0 ∷ []) meta.uniques meta.orders meta.checks [] [] old 0 slice_get-meta command stop h) [
      | inl written ↦ updated stop written
      | inr stray ↦ stray.2 (left_sound stray.0 stray.1)
    ]

    -- only as the store fails
    pub format_fails : (e : Error) → Executes set_sql [] old new (Err e) → Fails old new ⊥ e
    format_fails e h = elim (Executes-change_fails set_sql [] old new command (λ e. ⊥) is.0 is.1.whole refl refl (λ e misplaced same. IsMisplaced-never_anywhere old command refl e misplaced) (λ e writes. does (Some e)) e h) [ inl fails ↦ Fails-weaken old new e (does None) fails | inr never ↦ absurd never ]
