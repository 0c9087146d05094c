use Rattle.std.proofs.Common.{◌==◌, ◌∙◌, ap}
use Rattle.worked_examples.proofs.Asked.{answers, Lists-empty_iff_none}
use Rattle.worked_examples.proofs.tables.is_vacant.Goals as goal

pub returns-in-Ok : goal.returns-in-Ok
returns-in-Ok g c = answers _ _ _ _ _ c.is_empty.result (λ s listed. Lists-empty_iff_none _ _ (c.is_empty.ensures ∙ ap (λ n. n == 0) c.in-Ok.there.ok.0) listed) c.in-Ok.ensures.answers
