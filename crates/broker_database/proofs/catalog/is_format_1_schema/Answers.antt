use Rattle.std.proofs.{Common.{◌≡◌, ◌↔◌, IsTrue, List, [], take, sym, subst, ap, ◌∙◌}, lemmas.List.{take-map}}
use Rattle.sqlite_schema.specs.{declared.schema.Table.{Table}, declared.schema.Index.{Index}, declared.schema.Schema.{Schema}}
use Rattle.broker_tables.specs.Schema.{broker_schema}
use Rattle.broker_database.specs.Catalog.{made_index, made_table, schema_by}
use Rattle.broker_database.proofs.catalog.is_format_1_schema.Goals as goal

pub returns : goal.returns
returns c =
    let all = c.broker_tables-tables.result in
    let keys = c.broker_indexes-indexes.result in
    let first = sym (take-map made_table 13 all) ∙ ap (take 13) c.broker_tables-tables.ensures in
    let second = sym (take-map made_index 12 keys) ∙ ap (take 12) c.broker_indexes-indexes.ensures in
    let tables = ap (λ (x : List Table). record (schema_by (take 13 all) (take 12 keys)) { tables = x }) first in
    let indexes = ap (λ (x : List Index). record { tables = take 13 broker_schema.tables; indexes = x; views = [] }) second in
    subst (λ (s : Schema). IsTrue c.declares.result ↔ (c.args.schema.now ≡ s)) (tables ∙ indexes) c.declares.ensures
