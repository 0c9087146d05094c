use Rattle.std.{specs.Prelude.{filter_map}, proofs.Common.{◌≡◌, ◌++◌, take}}
use Rattle.deploy_tables.specs.Partners.{number_if}
use Rattle.deploy_tables.proofs.partners.with_released.Given as goal

-- the numbers so far
abbrev pub invariant-loop-one : goal.invariant-loop-one
invariant-loop-one l = l.found.items ≡ l.fn.deployed.items ++ filter_map (number_if l.provider) (take l.one-index l.released)
