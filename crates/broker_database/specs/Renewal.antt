-- For private clauses: texts that take a table away.
use Rattle.std.specs.Prelude.{◌≡◌, Bool, true, false, Ok, Err}
use Rattle.sqlite_ast.specs.declared.Statement.{Statement}
use Rattle.sqlite_ast.specs.declared.Statement.TheVariants as written
use Rattle.sqlite_syntax.specs.declared.statement.Parsed.{Parsed}
use Rattle.sqlite_resolve.specs.Lowering.{Checked}

abbrev pub drops : Statement → Bool
drops (written.DropTable if_exists name) = true
drops _ = false

-- the text is one that takes a table away
abbrev pub IsDropText : Checked Parsed → Type 0
IsDropText (Ok p) = drops p.statement ≡ true
IsDropText (Err e) = ⊥
