use Rattle.std.proofs.Common.{◌∙◌}
use Rattle.table_access.proofs.CallLemmas.{CallsBetween-weaken}
use Rattle.broker_database.proofs.migration.make_exact.Goals as goal

pub returns-clause-makes : goal.returns-clause-makes
returns-clause-makes g c =
    CallsBetween-weaken _ _ c.renew.result _ _ (λ u it same. absurd (let yes = c.is_format_1_schema.ensures.1 (c.schema.ensures.value ∙ same) in let no = c.if-is_format_1_schema.false in cc)) c.renew.ensures

pub returns-clause-failure : goal.returns-clause-failure
returns-clause-failure g c clean inside unlimited can =
    absurd (let yes = c.is_format_1_schema.ensures.1 (c.schema.ensures.value ∙ can.1.schema) in let no = c.if-is_format_1_schema.false in cc)
