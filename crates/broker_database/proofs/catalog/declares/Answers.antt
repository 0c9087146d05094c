use Rattle.broker_database.proofs.CatalogLemmas.{HasForms-schema_by}
use Rattle.broker_database.proofs.catalog.declares.Goals as goal

pub returns : goal.returns
returns c =
    let same = HasForms-schema_by c.args.tables.now c.args.indexes.now c.args.schema.now in
    let by = c.has_forms.ensures in
    (λ is. same.0 (by.0 is), λ is. by.1 (same.1 is))
