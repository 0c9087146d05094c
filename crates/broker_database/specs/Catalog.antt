-- For private clauses: a broker's tables and indexes as the code has them, and when a declared one is such.
use Rattle.std.specs.Prelude.{◌≡◌, ℕ, ℤ, pos, Bool, true, false, List, [], ◌∷◌, Option, Some, None, IsSomeAnd, map, slice_get}
use Rattle.std.specs.Borrow.{Bor}
use Rattle.std.specs.List.{AllZip}
use Rattle.sqlite.specs.Table.{Table}
use Rattle.sqlite.specs.Schema.{Schema}
use Rattle.sqlite.specs.Collation.TheVariants.{Binary}
use Rattle.sqlite.specs.declared.types.Value.TheVariants.{Null, Int}
use Rattle.sqlite_schema.specs.declared.code.Op.{Op}
use Rattle.sqlite_schema.specs.declared.code.Op.TheVariants as op
use Rattle.sqlite_schema.specs.declared.schema.Action.TheVariants.{NoAction}
use Rattle.sqlite_schema.specs.declared.schema.Column.{Column}
use Rattle.sqlite_schema.specs.declared.schema.Index.{Index}
use Rattle.sqlite_schema.specs.declared.schema.Kind.{Kind}
use Rattle.sqlite_schema.specs.declared.schema.Reference.{Reference}
use Rattle.sqlite_schema.specs.declared.schema.Stamps.{Stamps}
use Rattle.sqlite_sql.specs.Term.{Term}
use Rattle.sqlite_sql.specs.declared.ops.BinaryOp.TheVariants.{Compare, Or}
use Rattle.sqlite_sql.specs.declared.ops.CompareOp.TheVariants.{Eq}
use Rattle.sqlite_value.specs.Keys.{plain}
use Rattle.sqlite_value.specs.declared.keys.Order.{Order}
use Rattle.broker_tables.specs.Schema.{is_number, is_truth}
use Rattle.broker_database.specs.declared.catalog.Check.{Check}
use Rattle.broker_database.specs.declared.catalog.Check.TheVariants.{One, Truth}
use Rattle.broker_database.specs.declared.catalog.IndexForm.{IndexForm}
use Rattle.broker_database.specs.declared.catalog.TableForm.{TableForm}

-- a column by its name, its kind and its NOT NULL
abbrev pub IsColumnOf : List ℕ × Kind × Bool → Column → Type 0
IsColumnOf form c = (c.name ≡ form.0) × (c.kind ≡ form.1) × (c.is_strict ≡ true) × (c.not_null ≡ form.2)
    × (c.default ≡ Null) × (c.collation ≡ Binary)

abbrev pub columns_of : List (Bor (List ℕ) × Kind × Bool) → List (List ℕ × Kind × Bool)
columns_of = map (λ c. (c.0.now, c.1, c.2))

-- a key by its places, and that its index ascends by bytes
abbrev pub IsKeyOf : Bor (List ℕ) → List ℕ → Type 0
IsKeyOf places key = key ≡ places.now

abbrev pub IsPlain : Bor (List ℕ) → Order → Type 0
IsPlain places order = order.digits ≡ 0

-- a REFERENCES by its place, the other table and its column
abbrev pub IsReferenceOf : ℕ × List ℕ × List ℕ → Reference → Type 0
IsReferenceOf form r = (r.columns ≡ form.0 ∷ []) × (r.parent ≡ form.1) × (r.parent_columns ≡ form.2 ∷ [])
    × (r.on_delete ≡ NoAction) × (r.on_update ≡ NoAction) × (r.is_deferred ≡ false)

abbrev pub references_of : List (ℕ × Bor (List ℕ) × Bor (List ℕ)) → List (ℕ × List ℕ × List ℕ)
references_of = map (λ r. (r.0, r.1.now, r.2.now))

-- of an expression's nodes: this one says that the column at the place is the number
abbrev pub IsEqualOp : List Op → ℕ → ℤ → Op → Type 0
IsEqualOp nodes place n (op.Binary o a b) = (o ≡ Compare Eq Binary) × (slice_get nodes a ≡ Some (op.Column 1 place))
    × (slice_get nodes b ≡ Some (op.Literal (Int n)))
IsEqualOp nodes place n (op.Literal v) = ⊥
IsEqualOp nodes place n (op.Column slot at) = ⊥
IsEqualOp nodes place n (op.Unary o a) = ⊥
IsEqualOp nodes place n (op.Case t a b) = ⊥

-- this one says that it is 0 or 1
abbrev pub IsTruthOp : List Op → ℕ → Op → Type 0
IsTruthOp nodes place (op.Binary o a b) = (o ≡ Or) × IsSomeAnd (slice_get nodes a) (IsEqualOp nodes place (pos 0))
    × IsSomeAnd (slice_get nodes b) (IsEqualOp nodes place (pos 1))
IsTruthOp nodes place (op.Literal v) = ⊥
IsTruthOp nodes place (op.Column slot at) = ⊥
IsTruthOp nodes place (op.Unary o a) = ⊥
IsTruthOp nodes place (op.Case t a b) = ⊥

-- a CHECK, and that it is the only one
abbrev pub check_of : Check → Term
check_of (One place) = is_number place 1
check_of (Truth place) = is_truth place

abbrev pub checks_of : Option Check → List Term
checks_of None = []
checks_of (Some check) = check_of check ∷ []

abbrev pub HasNoStamps : Stamps → Type 0
HasNoStamps stamps = (stamps.places ≡ []) × (stamps.terms ≡ []) × (stamps.formats ≡ [])

abbrev pub HasKeysOf : TableForm → Table → Type 0
HasKeysOf form table = (table.key ≡ form.key) × (table.primary ≡ form.primary.now)
    × AllZip IsKeyOf form.uniques.now table.uniques × AllZip IsPlain form.uniques.now table.orders

abbrev pub HasRulesOf : TableForm → Table → Type 0
HasRulesOf form table = (table.checks ≡ checks_of form.check) × AllZip IsReferenceOf (references_of form.references.now) table.references
    × (table.computed ≡ []) × HasNoStamps table.stamps × (table.is_counted ≡ false)

abbrev pub IsTableOf : TableForm → Table → Type 0
IsTableOf form table = (table.name ≡ form.name.now) × (table.tree ≡ form.tree)
    × AllZip IsColumnOf (columns_of form.columns.now) table.columns × HasKeysOf form table × HasRulesOf form table

abbrev pub IsIndexOf : IndexForm → Index → Type 0
IsIndexOf form index = (index.name ≡ form.name.now) × (index.tree ≡ form.tree) × (index.table ≡ form.table)
    × (index.columns ≡ form.columns.now) × (index.order.digits ≡ 0) × (index.is_unique ≡ form.is_unique)

-- these tables and indexes are declared, one after another, and nothing else
abbrev pub HasForms : List TableForm → List IndexForm → Schema → Type 0
HasForms tables indexes schema =
    AllZip IsTableOf tables schema.tables × AllZip IsIndexOf indexes schema.indexes × (schema.views ≡ [])

-- ---- the column, the REFERENCES, the table and the index that a form is of

abbrev pub made_column : List ℕ × Kind × Bool → Column
made_column c = record {
  name = c.0;
  kind = c.1;
  is_strict = true;
  not_null = c.2;
  default = Null;
  collation = Binary;
}

abbrev pub made_reference : ℕ × List ℕ × List ℕ → Reference
made_reference r = record {
  columns = r.0 ∷ [];
  parent = r.1;
  parent_columns = r.2 ∷ [];
  on_delete = NoAction;
  on_update = NoAction;
  is_deferred = false;
}

abbrev pub made_table : TableForm → Table
made_table form = record {
  name = form.name.now;
  tree = form.tree;
  columns = map made_column (columns_of form.columns.now);
  key = form.key;
  primary = form.primary.now;
  uniques = map (λ key. key.now) form.uniques.now;
  orders = map (λ _. plain) form.uniques.now;
  checks = checks_of form.check;
  references = map made_reference (references_of form.references.now);
  computed = [];
  stamps = record { places = []; terms = []; formats = [] };
  is_counted = false;
}

abbrev pub made_index : IndexForm → Index
made_index form = record {
  name = form.name.now;
  tree = form.tree;
  table = form.table;
  columns = form.columns.now;
  order = plain;
  is_unique = form.is_unique;
}

-- the schema that has only these tables and indexes
abbrev pub schema_by : List TableForm → List IndexForm → Schema
schema_by tables indexes = record { tables = map made_table tables; indexes = map made_index indexes; views = [] }
