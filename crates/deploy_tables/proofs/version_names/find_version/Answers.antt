use Rattle.std.proofs.Common.{subst, sym, ◌<◌}
use Rattle.deploy_tables.proofs.MatrixLoop.{iff-trans}
use Rattle.deploy_tables.proofs.version_names.find_version.Goals as goal

pub returns-clause-named : goal.returns-clause-named
returns-clause-named g c clean asked =
    let returned = c.in-Ok.ensures.named clean asked in
    iff-trans c.pop.ensures.variant (λ low. returned.0 (subst (λ n. 0 < n) c.in-Ok.value.ok.0 low), λ there. subst (λ n. 0 < n) (sym c.in-Ok.value.ok.0) (returned.1 there))
