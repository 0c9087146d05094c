use Rattle.std.{specs.Prelude.{filter_map}, proofs.Common.{◌≡◌, take}}
use Rattle.deploy_tables.proofs.contracts_there.contracts_among.Given as goal

-- those so far
abbrev pub invariant-loop-one : goal.invariant-loop-one
invariant-loop-one l = l.contracts.items ≡ filter_map (λ one. one) (take l.one-index l.found)
