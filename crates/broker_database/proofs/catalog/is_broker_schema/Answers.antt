use Rattle.std.proofs.Common.{◌≡◌, ◌↔◌, IsTrue, List, [], subst, ap, ◌∙◌}
use Rattle.sqlite_schema.specs.{declared.schema.Table.{Table}, declared.schema.Index.{Index}, declared.schema.Schema.{Schema}}
use Rattle.broker_tables.specs.Schema.{broker_schema}
use Rattle.broker_database.specs.Catalog.{schema_by}
use Rattle.broker_database.proofs.catalog.is_broker_schema.Goals as goal

pub returns : goal.returns
returns c =
    let tables = ap (λ (x : List Table). record (schema_by c.broker_tables-tables.result c.broker_indexes-indexes.result) { tables = x }) c.broker_tables-tables.ensures in
    let indexes = ap (λ (x : List Index). record { tables = broker_schema.tables; indexes = x; views = [] }) c.broker_indexes-indexes.ensures in
    subst (λ (s : Schema). IsTrue c.declares.result ↔ (c.args.schema.now ≡ s)) (tables ∙ indexes) c.declares.ensures
