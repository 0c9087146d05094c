-- Patterns that are asked later: whether those of an entry hold of texts.
use Rattle.std.specs.Prelude.{Bool, true, List, Option, Some, None, option_map, String, string_bytes, if◌then◌else◌}
use Rattle.std.specs.List.{list_all, list_any}
use Rattle.std.specs.declared.alloc.Global.{Global}
use Rattle.pact_rules.specs.Matching.{pattern_of, is_found}
use Rattle.pact_rules.specs.declared.entry.Entry.{Entry}
use Rattle.pact_rules.specs.declared.gathered.Gathered.{Gathered}

-- the pattern of the second text is found in the first
abbrev pub is_matched : String Global → String Global → Bool
is_matched t p = is_found (pattern_of (string_bytes p)) (string_bytes t)

-- one of the patterns is found in the text, or all are
abbrev pub are_matched : Bool → List (String Global) → String Global → Bool
are_matched any ps t = if any then list_any (is_matched t) ps else list_all (is_matched t) ps

-- so it is of each of the texts
abbrev pub gathered_deferred_hold : Bool → Gathered → List (String Global) → Bool
gathered_deferred_hold any g ts = list_all (are_matched any g.patterns.items) ts

abbrev pub deferred_by : Bool → Option Gathered → List (String Global) → Bool
deferred_by any None ts = true
deferred_by any (Some g) ts = gathered_deferred_hold any g ts

-- the patterns of the entry hold of each of the texts
abbrev pub deferred_hold : Entry → List (String Global) → Bool
deferred_hold e ts = deferred_by e.any (option_map (λ m. m.gathered) e.many) ts
