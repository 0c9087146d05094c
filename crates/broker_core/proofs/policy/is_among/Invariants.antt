use Rattle.std.{specs.{Prelude.{map}, List.{list_any}}, proofs.Common.{◌≡◌, drop}}
use Rattle.broker_core.specs.Text.{same_text}
use Rattle.broker_core.proofs.policy.is_among.Given as goal

-- what is left answers for all
abbrev pub invariant-loop-other : goal.invariant-loop-other
invariant-loop-other l = list_any (same_text l.text) (map (λ t. t.now) l.texts) ≡ list_any (same_text l.text) (map (λ t. t.now) (drop l.other-index l.texts))
