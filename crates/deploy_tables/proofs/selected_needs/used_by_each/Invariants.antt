use Rattle.std.proofs.Common.{take, Ok}
use Rattle.broker_tables.specs.Holds.{Queries}
use Rattle.deploy_tables.specs.{Matrix.{IsOfSome}, Needs.{AddsNeeds, AreLatestOf, IsUsed}}
use Rattle.deploy_tables.proofs.selected_needs.used_by_each.Given as goal

-- the needs so far
abbrev pub invariant-loop-contract : goal.invariant-loop-contract
invariant-loop-contract g l = Queries g.S.Store l.fn.conn l.conn (Ok (tt {0}))
    (λ _ s. AreLatestOf s l.question.version.now l.results → AddsNeeds l.fn.found.items l.found.items (λ x. IsOfSome (λ c. IsUsed s l.question c x) (take l.contract-index l.contracts)))
