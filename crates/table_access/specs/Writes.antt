-- Texts that write rows or make a table or an index.
use Rattle.std.specs.Prelude.{◌≡◌, Bool, true, false, Ok, Err}
use Rattle.sqlite_ast.specs.declared.Statement.{Statement}
use Rattle.sqlite_ast.specs.declared.Statement.TheVariants as written
use Rattle.sqlite_syntax.specs.declared.statement.Parsed.{Parsed}
use Rattle.sqlite_resolve.specs.Lowering.{Checked}

abbrev pub writes : Statement → Bool
writes (written.Insert way name columns rows clauses shown) = true
writes (written.Update name sets test shown) = true
writes (written.Delete name test shown) = true
writes (written.CreateTable table) = true
writes (written.CreateIndex index) = true
writes _ = false

-- the text is one that writes rows or makes a table or an index
abbrev pub IsWriteText : Checked Parsed → Type 0
IsWriteText (Ok p) = writes p.statement ≡ true
IsWriteText (Err e) = ⊥
