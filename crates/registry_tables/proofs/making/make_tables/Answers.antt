use Rattle.std.proofs.Common.{◌∷◌, []}
use Rattle.table_access.proofs.CallLemmas.{CallsBetween-then_call}
use Rattle.broker_tables.{specs.{Making.{IsBlank}, ChangeRefusals.{AreShort}}, proofs.MakingFails.{FailsByStoreOverBetween-then}}
use Rattle.registry_tables.{specs.Registry.{HasEmptyRegistry}, proofs.MetaRow.{HasTables-registry_part, HasEmptyRegistry-made}}
use Rattle.registry_tables.proofs.making.make_tables.Goals as goal

pub returns-clause-makes : goal.returns-clause-makes
returns-clause-makes g c =
    CallsBetween-then_call _ _ _ c.in-Ok.value c.put_meta.result _ _ _ (λ one _ two blank. HasTables-registry_part c.args.format c.args.digest.now _ _ _ blank (one blank.schema) two) c.in-Ok.ensures.makes c.put_meta.ensures.puts

pub returns-clause-failure : goal.returns-clause-failure
returns-clause-failure g c =
    let digest = c.args.digest.now in
    FailsByStoreOverBetween-then (λ db. IsBlank db × AreShort (digest ∷ [])) (λ db. HasEmptyRegistry db × AreShort (digest ∷ [])) _ _ _ c.in-Ok.value c.put_meta.result _ _ c.in-Ok.ensures.makes c.put_meta.ensures.puts
    c.put_meta.ensures.failure (λ makes it. (HasEmptyRegistry-made _ _ it.0 (makes it.0.schema), it.1))
