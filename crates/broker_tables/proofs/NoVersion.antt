-- Rows that name a version by its number: if no version has the number, there is no such row.
use Rattle.std.{specs.Prelude.{option_map}, proofs.Common.{◌≡◌, ◌∙◌, inl, ℕ, pos, List, [], ◌∷◌, Option, Some, None, true, refl, sym, ap, codes, slice_get}}
use Rattle.sqlite.specs.{declared.types.Value.TheVariants.{Int}, Order.{Row, column}, Collation.TheVariants.{Binary}, Table.{Table}, Effect.{Database}}
use Rattle.sqlite_sql.specs.{Ops.{binary, is_true}, declared.ops.BinaryOp.TheVariants.{Compare}, declared.ops.CompareOp.TheVariants.{Eq}}
use Rattle.sqlite_rules.specs.Lists.{Has}
use Rattle.table_access.specs.{Columns.{text, whole_at}, Reading.{AreRead}}
use Rattle.broker_core.specs.{declared.command.Version.{Version}, Text.{version}, State.{State as Broker}}
use Rattle.broker_tables.{specs.{Schema.{to, in_versions}, Numbers.{number_of}, Holds.{Holds}}, proofs.References.{references-version}}
use Rattle.broker_tables.proofs.VersionRows.{number_of-version_row, binary-Eq_same_Int}

-- a row whose column refers to versions has the number of one
pub references-not_unknown_version : (db : Database) (s : Broker) → Holds db s → (n : ℕ) → ((v : Version) → ¬ (number_of s.versions v ≡ Some n)) → (t : Table) → Has db.schema.tables t → (p : ℕ) → Has t.references (to p (codes "versions") (codes "number"))
    → (r : Row) → Has (db.trees t.tree) r → column r p ≡ Int (whole_at p r) → is_true (binary (Compare Eq Binary) (column r p) (Int (pos n))) ≡ true → ⊥
references-not_unknown_version db s held n none t listed p among r has typed tested =
    let x = references-version db held.broker t listed p among r has typed in
    let k = number_of-version_row db held.broker s.versions held.versions x.0 x.1 in
    let is : whole_at p r ≡ pos n = (binary-Eq_same_Int (column r p) (Int (pos n)) (whole_at p r) (pos n) typed refl).0 tested in
    let ints : pos k.0 ≡ pos n = sym k.2 ∙ x.2 ∙ is in
    let same : k.0 ≡ n = cc in
    none (version (text in_versions.pacticipant x.0) (text in_versions.version x.0)) (k.1 ∙ ap Some same)

-- ---- if no row is shown, nothing is read

pub slice_get-no_rows : (rows : List Row) → ((row : Row) → Has rows row → ⊥) → slice_get rows 0 ≡ None
slice_get-no_rows [] none = refl
slice_get-no_rows (row ∷ rows) none = absurd (none row (inl refl))

pub option_map-no_rows : {X Y : Type 0} (f : X → Y) (g : Row → Y) (rows : List Row) (found : Option X) → ((row : Row) → Has rows row → ⊥) → option_map f found ≡ option_map g (slice_get rows 0) → found ≡ None
option_map-no_rows f g rows None none read = refl
option_map-no_rows f g rows (Some x) none read = absurd (let e = read ∙ ap (option_map g) (slice_get-no_rows rows none) in cc)

pub AreRead-no_rows : {B : Type 0} (reads : Row → B → Type 0) (rows : List Row) (items : List B) → ((row : Row) → Has rows row → ⊥) → AreRead reads rows items → items ≡ []
AreRead-no_rows reads [] [] none are = refl
AreRead-no_rows reads [] (x ∷ items) none are = absurd are
AreRead-no_rows reads (row ∷ rows) items none are = absurd (none row (inl refl))
