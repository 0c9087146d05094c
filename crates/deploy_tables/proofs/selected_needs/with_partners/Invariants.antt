use Rattle.std.proofs.Common.{take, Ok}
use Rattle.broker_tables.specs.Holds.{Queries}
use Rattle.deploy_tables.specs.{Matrix.{IsOfSome}, Needs.{AddsNeeds, IsWithPartner}}
use Rattle.deploy_tables.proofs.selected_needs.with_partners.Given as goal

-- the needs so far
abbrev pub invariant-loop-partner : goal.invariant-loop-partner
invariant-loop-partner g l = Queries g.S.Store l.fn.conn l.conn (Ok (tt {0}))
    (λ _ s. AddsNeeds l.fn.found.items l.found.items (λ x. IsOfSome (λ n. IsWithPartner s l.question l.contract n x) (take l.partner-index l.there)))
