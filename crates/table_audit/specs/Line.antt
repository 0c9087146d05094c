-- what is written of a rule that is broken (this project's own choice)
use Rattle.std.specs.Prelude.{ℕ, ℤ, List, ◌++◌, Option, None, Some, codes}
use Rattle.std.specs.Fmt.{signed_decimal}
use Rattle.table_audit.specs.declared.auditing.TableRule.{TableRule}
use Rattle.table_audit.specs.declared.auditing.TableRule.TheVariants as rule
use Rattle.table_audit.specs.declared.auditing.Finding.{Finding}

-- the table whose row breaks the rule
abbrev pub table_under : TableRule → List ℕ
table_under rule.Office = codes "meta"
table_under rule.Team = codes "teams"
table_under rule.Pacticipant = codes "pacticipants"
table_under rule.Version = codes "versions"
table_under rule.Content = codes "contents"
table_under rule.Result = codes "results"
table_under rule.Provider = codes "results"
table_under rule.Named = codes "latest"
table_under rule.Newest = codes "results"
table_under rule.Deployed = codes "deployed"

-- and what is wrong with that row
abbrev pub reason_under : TableRule → List ℕ
reason_under rule.Office = codes "not of format 2, or no digest"
reason_under rule.Team = codes "no name, or no digest"
reason_under rule.Pacticipant = codes "no name, or no name of a team"
reason_under rule.Version = codes "a gap in the numbers, or no name"
reason_under rule.Content = codes "a gap in the numbers, or not the text of its digest"
reason_under rule.Result = codes "a gap in the numbers, or no run"
reason_under rule.Provider = codes "its provider isn't the pacticipant of its version"
reason_under rule.Named = codes "it names a result of another content or version"
reason_under rule.Newest = codes "in latest an older result is named, or none"
reason_under rule.Deployed = codes "its version is of another pacticipant, or its instance isn't UTF-8"

-- `TABLE, row N: REASON`
abbrev pub line_with : TableRule → Option ℤ → List ℕ
line_with rule None = codes "meta: no row"
line_with rule (Some row) =
    table_under rule ++ codes ", row " ++ signed_decimal row ++ codes ": " ++ reason_under rule

abbrev pub line_of : Finding → List ℕ
line_of finding = line_with finding.rule finding.row
