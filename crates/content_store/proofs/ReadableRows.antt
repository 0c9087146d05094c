-- The rows of contents can be read back, if the state that the database holds can.
use Rattle.std.proofs.Common.{refl, ℕ, ℤ, List, [], ◌∷◌, arith}
use Rattle.sqlite.specs.{Term.{col}, Effect.{Database}}
use Rattle.table_access.specs.{Columns.{text, whole_at}, Reading.{IsTextAt, IsNumberRow}, Statements.{shows}}
use Rattle.broker_tables.{specs.Schema.{in_contents}, proofs.TableQuery.{EachReads, EachShown-of_table, EachShown-up_to}}
use Rattle.broker_tables.proofs.{ReadableRows.{IsLow-content, IsUtf8-body, IsNumberAt-of_column}, Placed.{at_contents, column-texts}}
use Rattle.content_store.proofs.ContentRows.{column-content_number, project, stored, highest, sharing}

-- the text of a number
pub EachReads-content_body : (z : ℤ) (db : Database) → EachReads (stored z) db (IsTextAt 0)
EachReads-content_body z db s held readable = EachShown-of_table (stored z) db _ (λ r has kept. (omega arith, (text in_contents.body r, column-texts at_contents db held.broker in_contents.body refl r has, IsUtf8-body db s held readable r has)))

pub EachReads-highest_content : (db : Database) → EachReads highest db IsNumberRow
EachReads-highest_content db s held readable = EachShown-up_to highest db _ (λ r has kept. IsNumberAt-of_column (shows (col 1 in_contents.number ∷ []) [] r) 0 (whole_at in_contents.number r) (omega arith) (column-content_number db held.broker r has) (IsLow-content db s held readable r has))

-- a candidate has a number and a text
pub EachReads-contents_of_digest : (digest : List ℕ) (db : Database) → EachReads (sharing digest) db (λ row. IsNumberRow row × IsTextAt 1 row)
EachReads-contents_of_digest digest db s held readable = EachShown-of_table (sharing digest) db _ (λ r has kept. (
  IsNumberAt-of_column (shows project [] r) 0 (whole_at in_contents.number r) (omega arith) (column-content_number db held.broker r has) (IsLow-content db s held readable r has),
  (omega arith, (text in_contents.body r, column-texts at_contents db held.broker in_contents.body refl r has, IsUtf8-body db s held readable r has)),
))
