use Rattle.sqlite.specs.Held.{state}
use Rattle.broker_tables.proofs.QueryLemmas.{LooksUpBetween-from_both}
use Rattle.contract_commands.proofs.BranchLast.{reaches_branch}
use Rattle.contract_commands.proofs.branch_pact.read_branch_to_show.Goals as goal

pub returns : goal.returns
returns g c =
    let sides = c.in-Ok.value in
    let content = c.in-Ok-read_branch.value in
    LooksUpBetween-from_both (state g.S.Store c.args.conn.now) (state g.S.Store c.read_sides_to_show.new.conn) (state g.S.Store c.read_branch.new.conn) sides content c.admit_branch_pact.result _ _ _
    (λ s h is. reaches_branch s c.args.caller.now c.args.provider.now c.args.consumer.now c.args.branch.now sides content h is c.admit_branch_pact.result c.admit_branch_pact.ensures)
    c.in-Ok.ensures c.in-Ok-read_branch.ensures
