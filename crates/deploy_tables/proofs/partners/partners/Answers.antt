use Rattle.std.proofs.Common.{sym, subst}
use Rattle.broker_core.specs.Gate.{IsPresent}
use Rattle.deploy_tables.{specs.{ContractsThere.{IsDeployedIn}, Partners.{ArePartners}}, proofs.PartnerRows.{ArePartners-append}}
use Rattle.deploy_tables.proofs.MatrixLoop.{iff-trans, LooksUpBetween-other_answer}
use Rattle.deploy_tables.proofs.partners.partners.Goals as goal

pub returns-in-Ok-with_released : goal.returns-in-Ok-with_released
returns-in-Ok-with_released g c =
    let e = c.args.environment.now in
    let p = c.args.provider.now in
    let deployed = c.in-Ok.value.items in
    LooksUpBetween-other_answer _ _ _ c.each_number_once.result _ _
    (λ s returned released n.
    let are = subst (ArePartners s p (IsPresent s e)) (sym c.in-Ok-with_released.ensures)
    (ArePartners-append s e p deployed c.args.released.now (subst (λ q. ArePartners s q (IsDeployedIn s e) deployed) c.as_str.ensures returned) released.0) in
    iff-trans (c.each_number_once.ensures.exactly n) (are n)) c.in-Ok.ensures
