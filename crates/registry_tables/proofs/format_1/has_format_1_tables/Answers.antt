use Rattle.std.proofs.Common.{◌↔◌, IsTrue, subst}
use Rattle.sqlite.specs.Schema.{Schema}
use Rattle.registry_tables.specs.Format.{HasFormat1Tables}
use Rattle.registry_tables.proofs.format_1.has_format_1_tables.Goals as goal

-- as data and as the schema has them the tables of format 1 compute to one
pub returns : goal.returns
returns g c = subst (λ (schema : Schema). IsTrue c.has_tables.result ↔ HasFormat1Tables schema) c.schema.ensures.value c.has_tables.ensures
