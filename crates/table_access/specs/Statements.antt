-- The forms of statement that the tables are read and changed by.
use Rattle.std.specs.Prelude.{ℕ, pos, negsuc, Bool, true, false, List, [], ◌∷◌, Option, None, ◌≡◌, ◌++◌, ◌≢◌, map, filter, fold}
use Rattle.std.specs.List.{list_all, flat_map, AllByRecursion}
use Rattle.sqlite.specs.State.{State}
use Rattle.sqlite.specs.Effect.{Database, IsDatabase}
use Rattle.sqlite.specs.Schema.{Schema}
use Rattle.sqlite.specs.Change.{created, indexed, next_tree, KeepsRows}
use Rattle.table_access.specs.Sound.{IsKept}
use Rattle.sqlite_schema.specs.declared.schema.Column.{Column}
use Rattle.sqlite_schema.specs.declared.schema.Index.{Index}
use Rattle.sqlite_schema.specs.declared.schema.Reference.{Reference}
use Rattle.sqlite_schema.specs.declared.schema.Action.TheVariants.{NoAction}
use Rattle.sqlite_value.specs.declared.keys.Order.{Order}
use Rattle.sqlite.specs.Table.{Table}
use Rattle.sqlite.specs.declared.types.Value.TheVariants.{Int}
use Rattle.sqlite.specs.Order.{Row}
use Rattle.sqlite.specs.Term.{Term, lit, col, op2, eval_all, holds}
use Rattle.sqlite.specs.Collation.TheVariants.{Binary}
use Rattle.sqlite_sql.specs.declared.ops.BinaryOp.TheVariants.{Compare}
use Rattle.sqlite_sql.specs.declared.ops.CompareOp.TheVariants.{Eq}
use Rattle.sqlite.specs.Query.{Query, inner, end}
use Rattle.sqlite_value.specs.declared.keys.Key.{Key}

-- SELECT project FROM a table WHERE filter ORDER BY order
abbrev pub from_table : ℕ → List Term → List Term → List (Term × Key) → Query
from_table tree filter project order = record {
  from = inner tree end;
  filter = filter;
  group = None;
  project = project;
  distinct = false;
  collations = [];
  order = order;
  limit = lit (Int (negsuc 0));
  offset = lit (Int (pos 0));
}

-- the same with LIMIT n
abbrev pub up_to : ℕ → Query → Query
up_to n q = record q { limit = lit (Int (pos n)) }

-- ORDER BY the number of the row, the greatest first
abbrev pub newest : List (Term × Key)
newest = (col 1 0, record { collation = Binary; descending = true }) ∷ []

-- SELECT project FROM a table JOIN another WHERE terms ORDER BY order
abbrev pub from_both : ℕ → ℕ → List Term → List Term → List (Term × Key) → Query
from_both t u terms project order = record {
  from = inner t (inner u end);
  filter = terms;
  group = None;
  project = project;
  distinct = false;
  collations = [];
  order = order;
  limit = lit (Int (negsuc 0));
  offset = lit (Int (pos 0));
}

-- ON and WHERE keep the two rows
abbrev pub keeps_both : List Term → Row → Row → Row → Bool
keeps_both terms params r s = list_all (holds (params ∷ r ∷ s ∷ [])) terms

-- the pairs of rows that ON and WHERE keep
abbrev pub pairs_kept : List Term → Row → List Row → List Row → List (Row × Row)
pairs_kept terms params rs ss = flat_map (λ r. map (λ s. (r, s)) (filter (keeps_both terms params r) ss)) rs

-- WHERE keeps the row
abbrev pub keeps : List Term → Row → Row → Bool
keeps terms params row = list_all (holds (params ∷ row ∷ [])) terms

-- what is shown of the row
abbrev pub shows : List Term → Row → Row → Row
shows project params row = eval_all project (params ∷ row ∷ [])

-- one row more, anywhere in the list
pub record IsAdded (old new : List Row) (row : Row) : Type 0 where
  pub front : List Row
  pub back : List Row
  pub was : old ≡ front ++ back
  pub is : new ≡ front ++ row ∷ back

-- The table at this tree may have changed, and each other one is as it was. Nothing is committed while a
-- transaction is open.
pub record ChangesOnly (tree : ℕ) (old new : State) : Type 0 where
  pub schema : new.now.schema ≡ old.now.schema
  pub kept : IsKept old.now → IsKept new.now
  pub others : AllByRecursion (λ t. t.tree ≢ tree → new.now.trees t.tree ≡ old.now.trees t.tree) old.now.schema.tables
  pub inside : old.in_transaction ≡ true → (new.in_transaction ≡ true) × (new.committed ≡ old.committed)
  pub marks : new.marks ≡ old.marks

-- a table with no AUTOINCREMENT and no computed default
abbrev pub plain_table : List ℕ → ℕ → List Column → Option ℕ → List ℕ → List (List ℕ) → List Order → List Term
    → List Reference → Table
plain_table name tree columns key primary uniques orders checks references = record {
  name = name;
  tree = tree;
  columns = columns;
  key = key;
  primary = primary;
  uniques = uniques;
  orders = orders;
  checks = checks;
  references = references;
  computed = [];
  stamps = record { places = []; terms = []; formats = [] };
  is_counted = false;
}

-- no foreign key acts on a change of its parent
abbrev pub HasNoActions : List Table → Type 0
HasNoActions = AllByRecursion (λ t. AllByRecursion (λ r. (r.on_delete ≡ NoAction) × (r.on_update ≡ NoAction)) t.references)

-- WHERE two columns are the first two parameters
abbrev pub by_two : ℕ → ℕ → List Term
by_two p q = op2 (Compare Eq Binary) (col 1 p) (col 0 0) ∷ op2 (Compare Eq Binary) (col 1 q) (col 0 1) ∷ []

-- a new table has no row, and each other one is as it was
pub record Creates (old new : Database) (table : Table) : Type 0 where
  pub schema : new.schema ≡ created old.schema table
  pub empty : new.trees (next_tree old.schema) ≡ []
  pub others : KeepsRows old.schema.tables old.trees new.trees
  pub sound : IsDatabase new

-- an index is made on a table, and each table is as it was
pub record Indexes (old new : Database) (table : Table) (index : Index) : Type 0 where
  pub schema : new.schema ≡ indexed old.schema table index
  pub others : KeepsRows old.schema.tables old.trees new.trees
  pub sound : IsDatabase new

-- such things are made, one after another
abbrev pub MakesEach : {X : Type 0} → (Database → Database → X → Type 0) → List X → Database → Database → Type 0
MakesEach One [] old new = new ≡ old
MakesEach One (x ∷ xs) old new = (mid : Database) × One old mid x × MakesEach One xs mid new

-- such tables
abbrev pub Makes : List Table → Database → Database → Type 0
Makes = MakesEach Creates

-- an index on its table, and such indexes
abbrev pub IndexesTable : Database → Database → Table × Index → Type 0
IndexesTable old new one = Indexes old new one.0 one.1

abbrev pub MakesIndexes : List (Table × Index) → Database → Database → Type 0
MakesIndexes = MakesEach IndexesTable

-- the schema with an index more, and with such indexes
abbrev pub with_index : Schema → Table × Index → Schema
with_index schema one = indexed schema one.0 one.1

abbrev pub indexed_by : Schema → List (Table × Index) → Schema
indexed_by = fold with_index

-- the trees that they get
abbrev pub new_trees : Schema → List Table → List ℕ
new_trees schema [] = []
new_trees schema (table ∷ tables) = next_tree schema ∷ new_trees (created schema table) tables
