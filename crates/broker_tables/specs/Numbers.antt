-- What is numbered from 1 in the order of a list, and the number of a version, by which the tables name it.
use Rattle.std.specs.Prelude.{ℕ, ℤ, pos, List, map, Option}
use Rattle.std.specs.List.{enumerate_from}
use Rattle.std.specs.FinMap.Entries.{find}
use Rattle.table_access.specs.Columns.{pair_cmp}
use Rattle.broker_core.specs.declared.command.Version.{Version}

-- each with its number, as a column holds it
abbrev pub numbered : {X : Type 0} → List X → List (ℤ × X)
numbered xs = map (λ e. (pos e.0, e.1)) (enumerate_from 1 xs)

-- the number of a version, none if the version isn't there
abbrev pub number_of : List Version → Version → Option ℕ
number_of versions v = find pair_cmp (v.pacticipant, v.name)
    (map (λ e. ((e.1.pacticipant, e.1.name), e.0)) (enumerate_from 1 versions))
