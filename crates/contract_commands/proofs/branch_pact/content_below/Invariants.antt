use Rattle.std.proofs.Common.{Ok}
use Rattle.broker_tables.specs.Failures.{LooksUpInPlace}
use Rattle.contract_commands.specs.BranchPact.{NoneFrom}
use Rattle.contract_commands.proofs.branch_pact.content_below.Given as goal

-- no version from the bound on has a contract
abbrev pub invariant-loop-value : goal.invariant-loop-value
invariant-loop-value g l =
    LooksUpInPlace g.S.Store l.fn.conn l.conn (Ok l.bound) (λ bound s. NoneFrom s l.provider l.consumer l.branch l.fn.bound → NoneFrom s l.provider l.consumer l.branch bound)

abbrev pub decreases-loop-value : goal.decreases-loop-value
decreases-loop-value g l = l.bound
