-- What "SELECT format FROM meta" means over any schema in which a table like meta is found by that name: the schema is
-- asked for the table's place by its name, and for the table at that place, and for nothing else.
use Rattle.std.proofs.Common.{◌≡◌, ℕ, pos, negsuc, codes, List, [], ◌∷◌, map, refl, sym, ap, subst, ◌∙◌, slice_get, Some, None, Ok, Err, Bool, true, false, if◌then◌else◌}
use Rattle.sqlite_value.specs.declared.value.Value.TheVariants.{Int}
use Rattle.sqlite_ast.specs.{declared.Expr.{Expr, roll-Expr}, declared.Expr.TheOpen.{Expr-F, Shown-F}, declared.Shown.{Shown as Written, roll-Shown}}
use Rattle.sqlite_ast.specs.{declared.Source.{Source, roll-Source}, declared.Core.{Core, roll-Core}, declared.Select.{Select, roll-Select}}
use Rattle.sqlite_sql.specs.{Term.{lit, col}, Query.{Query}}
use Rattle.sqlite_schema.specs.{declared.schema.Kind.TheVariants.{Text, Integer}, declared.schema.Column.{Column}, declared.schema.Table.{Table}}
use Rattle.sqlite_schema.specs.{declared.schema.Schema.{Schema}, declared.command.Command.{Command}, Names.{table_named}, Program.{let_in}}
use Rattle.sqlite_draft.specs.{declared.join.Step.TheVariants.{Inner}, declared.query.Draft.{Draft}, Join.{chain}}
use Rattle.sqlite_typing.specs.Types.{accepts_program}
use Rattle.sqlite_resolve.specs.{declared.error.CompileError.TheVariants.{Mismatch}, declared.compiled.Compiled.{Compiled}, Lowering.{Checked}}
use Rattle.sqlite_resolve.specs.{Program.{Building, Shown, query, query_to}, Compile.{compiled}}
use Rattle.sqlite.{specs.Listing.{understood, reads_listing, misses_table, if_select, listing_schema}, proofs.Callers.{command_of, IsPlain}}
use Rattle.sqlite_tied.specs.Compute.{everything}
use Rattle.table_access.{specs.Statements.{from_table}, proofs.Steps.{Means}}
use Rattle.broker_tables.specs.Schema.{meta, in_meta}
use Rattle.sqlite_ast.specs.declared.Origin.TheVariants as origin
use Rattle.sqlite_schema.specs.declared.command.Command.TheVariants as command
use Rattle.sqlite_resolve.specs.Program as program

abbrev pub format_sql : List ℕ
format_sql = codes "SELECT format FROM meta"

-- ---- the text as it is written

abbrev source : Source
source = roll-Source (record { is_left = false; origin = origin.Table (codes "meta"); alias = None; on = None; using = [] })

abbrev written : Expr
written = roll-Expr (Expr-F.Column None (codes "format"))

abbrev one : Written
one = roll-Shown (Shown-F.One written None (codes "format"))

abbrev core : Core
core = roll-Core (record { distinct = false; shown = one ∷ []; from = source ∷ []; filter = None; group = []; having = None })

abbrev select : Select
select = roll-Select (record { with = []; first = core; others = []; order = []; limit = None; offset = None })

-- ---- what is read in it

-- columns of the names and the kinds of meta's, however they are declared
abbrev pub like : Column → Column → Column → List Column
like a b c = record a { name = codes "one"; kind = Integer } ∷ record b { name = codes "format"; kind = Integer } ∷ record c { name = codes "office_digest"; kind = Text } ∷ []

-- a table with the key of meta, and such columns
abbrev pub like_meta : Table → Column → Column → Column → Table
like_meta t a b c = record t { columns = like a b c; key = meta.key }

abbrev pub format_query : ℕ → Query
format_query tree = from_table tree [] (col 1 in_meta.format ∷ []) []

abbrev pub format_command : ℕ → Command
format_command tree = command.Select (record { lets = []; body = format_query tree }) (codes "format" ∷ [])

abbrev pub compiled_of : ℕ → Compiled
compiled_of tree = record { command = format_command tree; returning = None; names = []; formats = []; start = 0; end = 23; tail = 23 }

-- the text as it is read, if its types are accepted
abbrev pub read_if : Bool → ℕ → Checked Compiled
read_if accepted tree = if accepted then Ok (compiled_of tree) else Err Mismatch

module _ (s : Schema) (at : ℕ) (t : Table) (a b c : Column) (there : table_named s (codes "meta") ≡ Some at) (is : slice_get s.tables at ≡ Some (like_meta t a b c)) where
  abbrev draft : Draft
  draft = record { from = chain (Inner t.tree ∷ []); filter = []; group = None; project = col 1 in_meta.format ∷ []; distinct = false; collations = []; order = []; limit = lit (Int (negsuc 0)); offset = lit (Int (pos 0)) }

  abbrev shows : Shown
  shows = (draft, codes "format" ∷ [], Some b.collation ∷ [])

  level-format_text : (query : Schema → Select → Building Shown) → program.level query s select [] ≡ Ok (shows, [])
  unfolding everything
  level-format_text query = simp (there, is)

  query-format_text : query s select ≡ Ok (shows, [])
  unfolding query query_to
  query-format_text = level-format_text (query_to 15)

  -- the command, if the types are accepted
  abbrev accepted : Bool
  accepted = accepts_program s (map let_in []) (format_query t.tree) []

  compiled-format_sql : (ok : Bool) → accepted ≡ ok → compiled s format_sql ≡ read_if ok t.tree
  unfolding everything
  compiled-format_sql true is_accepted = rw (query-format_text, is_accepted)
  compiled-format_sql false is_accepted = rw (query-format_text, is_accepted)

  unlisted : (ok : Bool) → accepted ≡ ok → reads_listing s format_sql ≡ false
  unlisted true is_accepted = ap misses_table (compiled-format_sql true is_accepted)
  unlisted false is_accepted = ap misses_table (compiled-format_sql false is_accepted)

  -- it is read if and only if its types are accepted
  pub understood-format_sql : (ok : Bool) → accepted ≡ ok → understood s format_sql ≡ read_if ok t.tree
  unfolding understood
  understood-format_sql ok is_accepted = ap (λ x. if x then if_select (compiled listing_schema format_sql) else compiled s format_sql) (unlisted ok is_accepted) ∙ compiled-format_sql ok is_accepted

  -- if it is read at all, it is this query
  pub Means-format_sql : (it : Compiled) → understood s format_sql ≡ Ok it → Means s format_sql (format_command t.tree)
  Means-format_sql it e = go accepted refl
    where
      go : (ok : Bool) → accepted ≡ ok → Means s format_sql (format_command t.tree)
      go true is_accepted =
          let so = understood-format_sql true is_accepted in
          record { is = ap command_of so; plain = subst IsPlain (sym so) (refl, refl); unlisted = unlisted true is_accepted }
      go false is_accepted = absurd (let none : Err Mismatch ≡ Ok it = sym (understood-format_sql false is_accepted) ∙ e in cc)
