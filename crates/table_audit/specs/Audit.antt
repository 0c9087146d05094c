-- What each row has to be, besides what SQLite tests of a file that is opened (columns, keys, CHECKs and REFERENCES), so
-- that the tables hold a state of the broker that can be read back (this project's own choice).
use Rattle.std.specs.Prelude.{◌≡◌, ◌≤◌, ℕ, pos, List, length, codes, Option, IsSome, IsUtf8, MatchOption, Result, Err, IfOk}
use Rattle.sqlite.specs.Order.{Row, column}
use Rattle.sqlite.specs.Effect.{Database}
use Rattle.sqlite.specs.Held.{Held}
use Rattle.sqlite.specs.State.{State, HasCleanDisk, Survives}
use Rattle.sqlite_rules.specs.Lists.{Has}
use Rattle.sha2.specs.Sha256.{sha256}
use Rattle.hex.specs.Hex.{encode_lower}
use Rattle.table_access.specs.declared.StoreFault.{StoreFault}
use Rattle.table_access.specs.declared.StoreFault.TheVariants as faults
use Rattle.table_access.specs.Calls.{HasFailed}
use Rattle.table_access.specs.Columns.{text, whole_at}
use Rattle.broker_core.specs.Limit.{limit}
use Rattle.broker_core.specs.State.{State as Broker}
use Rattle.broker_tables.specs.Holds.{Holds, IsBroker, format}
use Rattle.broker_tables.specs.Readable.{IsReadable, IsNamed}
use Rattle.broker_tables.specs.Rows.{rows_of, run_in}
use Rattle.broker_tables.specs.Schema.{in_meta, in_teams, in_pacticipants, in_versions, in_contents, in_results, in_latest, in_deployed}
use Rattle.broker_database.specs.Ends.{IsAsBefore, LeavesNoTransaction}
use Rattle.broker_database.specs.Opening.{IsFresh}
use Rattle.table_audit.specs.declared.auditing.TableRule.{TableRule}
use Rattle.table_audit.specs.declared.auditing.TableRule.TheVariants as rule
use Rattle.table_audit.specs.declared.auditing.Finding.{Finding}

-- ---- one row

-- the one row of meta: today's format, and the digest of the office's token
abbrev pub IsSoundOffice : Row → Type 0
IsSoundOffice r = (whole_at in_meta.format r ≡ pos format) × IsUtf8 (text in_meta.office_digest r)

abbrev pub IsSoundTeam : Row → Type 0
IsSoundTeam r = IsNamed (text in_teams.name r) × IsUtf8 (text in_teams.token_digest r)

abbrev pub IsSoundPacticipant : Row → Type 0
IsSoundPacticipant r = IsNamed (text in_pacticipants.name r) × IsNamed (text in_pacticipants.team r)

abbrev pub IsSoundVersion : Row → Type 0
IsSoundVersion r = IsNamed (text in_versions.pacticipant r) × IsNamed (text in_versions.version r)

-- a text with its digest
abbrev pub IsSoundContent : Row → Type 0
IsSoundContent r = IsUtf8 (text in_contents.body r)
    × (text in_contents.digest r ≡ encode_lower (sha256 (text in_contents.body r)))

-- its column says which run it is of, or that it is of none
abbrev pub SaysRun : Row → Type 0
SaysRun r = IsSome (run_in (whole_at in_results.number r) (column r in_results.run))

-- Of a table that numbers its rows from 1: the row's number is one of so many rows. As no number comes twice, the
-- numbers have no gap if this is so of each row.
abbrev pub IsNumberOf : ℕ → Row → Type 0
IsNumberOf count r = (n : ℕ) × (whole_at 0 r ≡ pos n) × (1 ≤ n) × (n ≤ count) × (n ≤ limit)

-- ---- a row beside those of another table

-- each row of a table
abbrev pub EachOf : List Row → (Row → Type 0) → Type 0
EachOf rows Is = (r : Row) → Has rows r → Is r

-- the version whose number is in this column is one of the pacticipant in that column
abbrev pub IsOfPacticipant : Database → (number pacticipant : ℕ) → Row → Type 0
IsOfPacticipant db number pacticipant r = EachOf (rows_of db (codes "versions"))
    (λ v. whole_at in_versions.number v ≡ whole_at number r → text in_versions.pacticipant v ≡ text pacticipant r)

-- the result that a row of `latest` names is for the content and the version of that row
abbrev pub NamesItsOwn : Database → Row → Type 0
NamesItsOwn db l = EachOf (rows_of db (codes "results"))
    (λ r. whole_at in_results.number r ≡ whole_at in_latest.result l
    → (whole_at in_results.content r ≡ whole_at in_latest.content l)
    × (whole_at in_results.provider_version r ≡ whole_at in_latest.provider_version l))

-- for the content and the version of a result, a row of `latest` names it or one with a greater number
abbrev pub IsNamedOrPassed : Database → Row → Type 0
IsNamedOrPassed db r = (l : Row) × Has (rows_of db (codes "latest")) l
    × (whole_at in_latest.content l ≡ whole_at in_results.content r)
    × (whole_at in_latest.provider_version l ≡ whole_at in_results.provider_version r)
    × ((m n : ℕ) × (whole_at in_results.number r ≡ pos m) × (whole_at in_latest.result l ≡ pos n) × (m ≤ n))

-- ---- the rules

-- the rows that a rule is about
abbrev pub rows_under : TableRule → Database → List Row
rows_under rule.Office db = rows_of db (codes "meta")
rows_under rule.Team db = rows_of db (codes "teams")
rows_under rule.Pacticipant db = rows_of db (codes "pacticipants")
rows_under rule.Version db = rows_of db (codes "versions")
rows_under rule.Content db = rows_of db (codes "contents")
rows_under rule.Result db = rows_of db (codes "results")
rows_under rule.Provider db = rows_of db (codes "results")
rows_under rule.Named db = rows_of db (codes "latest")
rows_under rule.Newest db = rows_of db (codes "results")
rows_under rule.Deployed db = rows_of db (codes "deployed")

-- what each of these rows has to be
abbrev pub Obeys : TableRule → Database → Row → Type 0
Obeys rule.Office db r = IsSoundOffice r
Obeys rule.Team db r = IsSoundTeam r
Obeys rule.Pacticipant db r = IsSoundPacticipant r
Obeys rule.Version db r = IsNumberOf (length (rows_of db (codes "versions"))) r × IsSoundVersion r
Obeys rule.Content db r = IsNumberOf (length (rows_of db (codes "contents"))) r × IsSoundContent r
Obeys rule.Result db r = IsNumberOf (length (rows_of db (codes "results"))) r × SaysRun r
Obeys rule.Provider db r = IsOfPacticipant db in_results.provider_version in_results.provider r
Obeys rule.Named db l = NamesItsOwn db l
Obeys rule.Newest db r = IsNamedOrPassed db r
Obeys rule.Deployed db d = IsOfPacticipant db in_deployed.version_number in_deployed.pacticipant d
    × IsUtf8 (text in_deployed.instance d)

-- ---- the whole

-- meta has a row, and each row obeys its rules
pub record IsAudited (db : Database) : Type 0 where
  pub office : (r : Row) × Has (rows_of db (codes "meta")) r
  pub each : (rule : TableRule) → EachOf (rows_under rule db) (Obeys rule db)

-- the tables hold a state that can be read back
abbrev pub HoldsAState : Database → Type 0
HoldsAState db = (s : Broker) × Holds db s × IsReadable s

-- a row with this number breaks the rule; or the rule is about the office, and meta has no row
abbrev pub IsBroken : Finding → Database → Type 0
IsBroken found db = MatchOption found.row
    ((found.rule ≡ rule.Office) × ((r : Row) → ¬ (Has (rows_under rule.Office db) r)))
    (λ row. (r : Row) × Has (rows_under found.rule db) r × (whole_at 0 r ≡ row) × (¬ (Obeys found.rule db r)))

-- what is found in a database: it holds a state, or it holds none, since a rule is broken
abbrev pub Verdict : Option Finding → Database → Type 0
Verdict found db = MatchOption found (HoldsAState db) (λ finding. IsBroken finding db × (¬ (HoldsAState db)))

-- What an audit leaves of a connection, and what it answers, on any disk and any database. `shown` is what a connection
-- shows of its store.
pub record Audited {X : Type 0} (shown : Held X → State) (old new : Held X) (given : Result (Option Finding) StoreFault)
    : Type 0 where
  -- of a broker's tables: whether they hold a state that can be read back, and else which row breaks which rule
  pub finds : HasCleanDisk (shown new) → IsBroker (shown old).now → IfOk given (λ found. Verdict found (shown old).now)
  -- of any database: it is as it was
  pub unchanged : HasCleanDisk (shown new) → IsAsBefore (shown old) (shown new)
  -- Store, of a broker's tables and on a connection as it is opened: the store failed
  pub failure : HasCleanDisk (shown new) → IsFresh (shown old) → IsBroker (shown old).now → given ≡ Err faults.Store
      → HasFailed (shown old) (shown new) faults.Store
  -- for any answer, no transaction is left open
  pub over : LeavesNoTransaction (shown old) (shown new)
  -- on a disk that fails, and when the program is stopped in the call: a crash leaves what it left before
  pub survives : Survives (shown old) (shown new) (λ _. ⊥)
