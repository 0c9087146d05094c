use Rattle.std.{specs.Prelude.{Contains, ◌↔◌}, proofs.Common.{◌∙◌, ap, sym, subst}}
use Rattle.contract_tables.specs.ResultsByVersion.{verified_cmp}
use Rattle.deploy_tables.{specs.Matrix.{IsOfContract, rows_with}, proofs.{MatrixLemmas.{Contains-rows_with}, MatrixLoop.{LooksUpBetween-other_answer}}}
use Rattle.broker_core.specs.{Listing.{Lists}, Machine.{IsLatest}, Text.{version}}
use Rattle.deploy_tables.proofs.matrix_rows.of_contract.Goals as goal

pub returns-in-Ok-rows_with : goal.returns-in-Ok-rows_with
returns-in-Ok-rows_with g c =
    let v = c.args.version.now in
    let contract = c.args.contract.now in
    let is = c.in-Ok-rows_with.ensures ∙ ap (rows_with v contract) c.deref.ensures.value in
    LooksUpBetween-other_answer _ _ _ c.in-Ok-rows_with.rows _ _ (λ s listed x.
    let named = subst (λ p. Lists verified_cmp (λ r. IsLatest s contract.content (version p r.provider_version) r) c.in-Ok.value.items) c.as_str.ensures listed in
    subst (λ xs. Contains xs x ↔ IsOfContract s v contract x) (sym is) (Contains-rows_with s v contract _ named x)) c.in-Ok.ensures
