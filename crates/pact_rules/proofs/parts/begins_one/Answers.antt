use Rattle.std.specs.{Cmp.Lexicographic.{slice_cmp}, Ordering.{nat_cmp}, declared.cmp.Ordering.{Ordering}}
use Rattle.std.proofs.{Common.{rules, ℕ, List, String, Global, string_bytes, sym}, lemmas.Fn.{always_returns_same}}
use Rattle.pact_rules.proofs.PartLemmas.{begins-list_any_at, IsNonDecreasingBy-parts}
use Rattle.pact_rules.proofs.parts.begins_one.Goals as goal

abbrev by_rest : List ℕ → String Global → Ordering
by_rest rest x = slice_cmp nat_cmp (string_bytes x) rest

pub returns-in-Ok : goal.returns-in-Ok
returns-in-Ok c =
    sym (begins-list_any_at c.args.parts.now c.args.rest.now c.in-Ok.field-0 c.in-Ok.ensures.bound (c.in-Ok.ensures.position (by_rest c.args.rest.now) (always_returns_same _ _ _ (λ a r g called. search rules))))

pub begins_before-requires-clause-split : goal.begins_before-requires-clause-split
begins_before-requires-clause-split c =
    c.in-Err.ensures.position (by_rest c.args.rest.now) (always_returns_same _ _ _ (λ a r g called. search rules)) (IsNonDecreasingBy-parts c.args.parts.now c.args.rest.now c.requires)
