use Rattle.broker_tables.proofs.QueryLemmas.{LooksUpBetween-then}
use Rattle.contract_commands.{specs.BranchPact.{IsBranchContent}, proofs.BranchLast.{NoneFrom-above_all}}
use Rattle.contract_commands.proofs.branch_pact.read_branch.Goals as goal

pub returns : goal.returns
returns g c =
    LooksUpBetween-then _ _ _ c.in-Ok.value c.content_below.result _ _
    (λ content s. IsBranchContent s c.args.provider.now c.args.consumer.now c.args.branch.now content)
    (λ s is content shown. shown (NoneFrom-above_all s c.args.provider.now c.args.consumer.now c.args.branch.now c.in-Ok.value is)) c.in-Ok.ensures c.content_below.ensures
