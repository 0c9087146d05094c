use Rattle.std.proofs.Common.{◌&&◌, Some, refl}
use Rattle.broker_core.specs.{Change.{result_of_run, is_text}, Text.{same_text}}
use Rattle.broker_tables.proofs.QueryLemmas.{LooksUpBetween-from_both}
use Rattle.contract_tables.{specs.Verified.{Returned, by_numbers, numbers_are}, proofs.LastRow.{last_row-at_its_number, option_map-with_mark}}
use Rattle.contract_tables.proofs.lookups.result_of_run.Goals as goal

pub returns-in-Ok-is_checked : goal.returns-in-Ok-is_checked
returns-in-Ok-is_checked g c =
    let stored = c.in-Some.stored in
    LooksUpBetween-from_both _ _ _ (Some stored) c.in-Ok-is_checked.value (Some _) _ _ _
    (λ s one two. option_map-with_mark {B = Returned} s (result_of_run s c.args.provider.now (Some c.args.run.now)) (by_numbers s.versions)
    (λ a checked. (a.0, a.1, a.2, a.3, checked)) (λ a. a.0)
    (numbers_are stored.number stored.content stored.provider_version stored.pass) c.in-Ok-is_checked.value
    (λ e known. (last_row-at_its_number (λ r. same_text r.version.pacticipant c.args.provider.now && is_text c.args.run.now r.run) s.results e known, refl)) one two)
    (rw c.in-Some.is at c.in-Ok.ensures) c.in-Ok-is_checked.ensures.answers
