use Rattle.std.proofs.Common.{◌==◌, ◌∙◌, ap}
use Rattle.worked_examples.proofs.Asked.{answers, Lists-empty_iff_none}
use Rattle.worked_examples.proofs.tables.is_alone.Goals as goal

pub returns-in-Ok : goal.returns-in-Ok
returns-in-Ok g c = answers _ _ _ _ _ c.is_empty.result (λ s listed v number. Lists-empty_iff_none _ _ (c.is_empty.ensures ∙ ap (λ n. n == 0) c.in-Ok.rows.ok.0) (listed.0 v number)) c.in-Ok.ensures
