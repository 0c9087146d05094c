use Rattle.std.proofs.Common.{◌∷◌, []}
use Rattle.broker_core.specs.declared.policy.Rule.TheVariants.{OwnerOrOfficeToRead}
use Rattle.broker_tables.proofs.QueryLemmas.{LooksUpBetween-from_both}
use Rattle.contract_commands.proofs.PactLemmas.{Reaches-of_admits}
use Rattle.contract_commands.proofs.sides.read_contract_to_show.Goals as goal

pub returns : goal.returns
returns g c =
    let path = c.args.path.now in
    let sides = c.in-Ok.value in
    let contract = c.in-Ok-read_contract.value in
    let found = c.admit_contract.result in
    LooksUpBetween-from_both _ _ _ sides contract found _ _ _
    (λ s h k. Reaches-of_admits s c.args.caller.now path OwnerOrOfficeToRead (path.provider ∷ path.consumer ∷ []) (record { sides = sides; contract = contract }) (h, k) found c.admit_contract.ensures)
    c.in-Ok.ensures c.in-Ok-read_contract.ensures
