use Rattle.std.proofs.Common.{map, option_map, string_bytes}
use Rattle.pact_patterns.proofs.GrammarLemmas.{pattern_of-is_some}
use Rattle.pact_patterns.proofs.parts.parsed.Goals as goal

pub returns-in-Ok-clause-read : goal.returns-in-Ok-clause-read
returns-in-Ok-clause-read c =
    pattern_of-is_some c.args.source.now c.in-Ok.parsed.hir (map (option_map string_bytes) c.in-Ok.parsed.names.items) (rw c.default.ensures at c.in-Ok.ensures.ok)
