-- For private clauses: what a row has to be that a query shows for a rule, and what is found among such rows.
use Rattle.std.specs.Prelude.{◌≡◌, ◌≤◌, ◌↔◌, ◌⊎◌, ℕ, ℤ, pos, Bool, List, length, Option, IsSome, IfErr, IsTrue, None, MatchOption, Result}
use Rattle.sqlite.specs.declared.types.Value.TheVariants.{Int, Text}
use Rattle.sqlite.specs.Order.{Row, column}
use Rattle.sqlite.specs.Held.{Held, state}
use Rattle.sqlite.specs.State.{State, HasCleanDisk}
use Rattle.sqlite.specs.Effect.{Database}
use Rattle.sqlite_rules.specs.Lists.{Has}
use Rattle.sqlite_trees.specs.declared.store.Store.{Ghosts}
use Rattle.sha2.specs.Sha256.{sha256}
use Rattle.hex.specs.Hex.{encode_lower}
use Rattle.table_access.specs.declared.StoreFault.{StoreFault}
use Rattle.table_access.specs.Calls.{CallsTablesBetween}
use Rattle.table_access.specs.Columns.{text, whole_at}
use Rattle.table_access.specs.Reading.{IsTextAt}
use Rattle.broker_core.specs.Limit.{limit}
use Rattle.broker_tables.specs.Failures.{HasFailedOrMemory}
use Rattle.broker_tables.specs.Holds.{IsBroker, format}
use Rattle.broker_tables.specs.Names.{IsNameAt}
use Rattle.broker_tables.specs.Rows.{run_in}
use Rattle.table_audit.specs.Audit.{EachOf, Obeys, rows_under, IsBroken}
use Rattle.table_audit.specs.declared.auditing.TableRule.{TableRule}
use Rattle.table_audit.specs.declared.auditing.TableRule.TheVariants as rule
use Rattle.table_audit.specs.declared.auditing.Finding.{Finding}

-- each row keeps a rule, or a row with this number in its first column breaks it
abbrev pub FindsAmong : (ℕ → Row → Type 0) → List Row → Option ℤ → Type 0
FindsAmong Keeps rows found = MatchOption found (EachOf rows (Keeps (length rows)))
    (λ number. (row : Row) × Has rows row × (whole_at 0 row ≡ number) × (¬ (Keeps (length rows) row)))

-- ---- the rows

-- the first column holds the number of one of so many rows, which are numbered from 1
abbrev pub HasNumberOf : ℕ → Row → Type 0
HasNumberOf count row = (n : ℕ) × (column row 0 ≡ Int (pos n)) × (1 ≤ n) × (n ≤ count) × (n ≤ limit)

-- both columns hold the same number, or the same text
abbrev pub HoldsSame : ℕ → ℕ → Row → Type 0
HoldsSame one other row = ((n : ℤ) × (column row one ≡ Int n) × (column row other ≡ Int n))
    ⊎ ((t : List ℕ) × (column row one ≡ Text t) × (column row other ≡ Text t))

abbrev pub IsOfficeShown : Row → Type 0
IsOfficeShown row = (column row 1 ≡ Int (pos format)) × IsTextAt 2 row

abbrev pub IsTeamShown : Row → Type 0
IsTeamShown row = IsNameAt 1 row × IsTextAt 2 row

abbrev pub HasTwoNames : Row → Type 0
HasTwoNames row = IsNameAt 1 row × IsNameAt 2 row

-- the third column holds a text, and the second one its digest
abbrev pub IsContentShown : Row → Type 0
IsContentShown row = IsTextAt 2 row × (column row 1 ≡ Text (encode_lower (sha256 (text 2 row))))

abbrev pub SaysRunShown : Row → Type 0
SaysRunShown row = IsSome (run_in (whole_at 0 row) (column row 1))

-- the number in the second column isn't below the one in the first
abbrev pub IsPassedOrSame : Row → Type 0
IsPassedOrSame row = (m n : ℕ) × (column row 0 ≡ Int (pos m)) × (column row 1 ≡ Int (pos n)) × (m ≤ n)

-- ---- a rule

-- each row under the rule obeys it, or one with this number doesn't
abbrev pub FindsUnder : TableRule → Database → Option ℤ → Type 0
FindsUnder rule db found = MatchOption found (EachOf (rows_under rule db) (Obeys rule db))
    (λ number. (r : Row) × Has (rows_under rule db) r × (whole_at 0 r ≡ number) × (¬ (Obeys rule db r)))

-- a broker's tables are judged, nothing changes, and the call fails only as the store fails, or for memory
pub record TriesBetween {A : Type 0} (old new : State) (r : Result A StoreFault) (P : A → Database → Type 0) : Type 0 where
  pub call : CallsTablesBetween old new r (λ found. IsBroker old.now → P found old.now × (new.now ≡ old.now))
  pub failure : HasCleanDisk new → IsTrue old.in_transaction → IsBroker old.now → old.step_limit ≡ None
      → IfErr r (HasFailedOrMemory old new)

-- of a connection over this store
module _ {X A : Type 0} (store : Ghosts X) (old new : Held X) (r : Result A StoreFault) where
  abbrev pub Tries : (A → Database → Type 0) → Type 0
  Tries = TriesBetween (state store old) (state store new) r

-- ---- the whole

-- meta has a row
abbrev pub HasOffice : Bool → Database → Type 0
HasOffice has db = IsTrue has ↔ ((r : Row) × Has (rows_under rule.Office db) r)

-- each rule is obeyed, or a row breaks this one
abbrev pub AreJudged : Option Finding → Database → Type 0
AreJudged found db = MatchOption found ((rule : TableRule) → EachOf (rows_under rule db) (Obeys rule db))
    (λ finding. IsBroken finding db)
