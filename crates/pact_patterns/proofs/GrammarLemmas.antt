-- What the parser read and what was built are the pattern of their text.
use Rattle.std.{specs.Prelude.{is_some}, proofs.Common.{◌≡◌, ◌≤◌, ◌<◌, ℕ, true, List, length, get_or, Option, Some, None, option_map, IsSomeAnd, refl, chars}}
use Rattle.regex.specs.{declared.string.regex.Regex.{Regex}, Names.{names_of}, Patterns.{Re, find_str, default_config, Reads, SameCaptures}}
use Rattle.regex.{specs.Strings.{regex_pattern, regex_source, regex_config, IsReadFromSource}, proofs.ForCallers.{is_match_alike}}
use Rattle.regex_syntax.specs.{Grammar.{Names, group_count, read}, Brackets.{Nested}}
use Rattle.regex_hir.specs.declared.hir.Hir.{Hir}
use Rattle.pact_patterns.specs.Patterns.{pattern_of, is_found}

find_str-is_found : (o : Option (Nested Re × Names)) (most : ℕ) (a : Re) (names : Names) (hay : List ℕ) → ((k : ℕ) → get_or hay k 0 < 256)
    → IsSomeAnd o (λ (re, found). (re.depth ≤ most) × SameCaptures a re.value × (names ≡ found) × (group_count a ≤ length names))
    → is_some (find_str a hay 0) ≡ is_found (option_map (λ found. found.0.value) o) hay
find_str-is_found None most a names hay bytes h = absurd h
find_str-is_found (Some x) most a names hay bytes h = is_match_alike h.1 hay bytes true 0

-- a regex finds what the pattern of its text finds
pub find_str-pattern_of : (r : Regex) (source hay : List ℕ) → regex_source r ≡ source → regex_config r ≡ default_config → IsReadFromSource r → ((k : ℕ) → get_or hay k 0 < 256)
    → is_some (find_str (regex_pattern r) hay 0) ≡ is_found (pattern_of source) hay
unfolding Reads
find_str-pattern_of r source hay is config reads bytes =
    let as_read : Reads default_config source r.pattern.program.hir (names_of r.pattern.names.items) = rw (is, config) at reads in
    find_str-is_found (read default_config (chars source)) default_config.nest_limit (regex_pattern r) (names_of r.pattern.names.items) hay bytes as_read

is_some-same_captures : (o : Option (Nested Re × Names)) (most : ℕ) (a : Re) (names : Names)
    → IsSomeAnd o (λ (re, found). (re.depth ≤ most) × SameCaptures a re.value × (names ≡ found) × (group_count a ≤ length names)) → is_some (option_map (λ found. found.0.value) o) ≡ true
is_some-same_captures None most a names h = absurd h
is_some-same_captures (Some x) most a names h = refl

-- the grammar reads what the parser read
pub pattern_of-is_some : (source : List ℕ) (hir : Hir) (names : Names) → Reads default_config source hir names → is_some (pattern_of source) ≡ true
unfolding Reads
pattern_of-is_some source hir names reads = is_some-same_captures (read default_config (chars source)) default_config.nest_limit _ names reads
