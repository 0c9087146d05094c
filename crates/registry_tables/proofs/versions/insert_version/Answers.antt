use Rattle.std.proofs.Common.{[], ◌∷◌, ◌++◌, Some, refl, sym, ap, ◌∙◌}
use Rattle.broker_core.specs.{Text.{version as version_named}, State.{State}}
use Rattle.table_access.proofs.CallLemmas.{CallsBetween-weaken}
use Rattle.broker_tables.proofs.NumberLemmas.{number_of-append_new}
use Rattle.registry_tables.proofs.VersionRows.{branches-none_of_unknown}
use Rattle.registry_tables.proofs.versions.insert_version.Goals as goal

pub returns-clause-changes : goal.returns-clause-changes
returns-clause-changes g c =
    let v = version_named c.args.pacticipant.now c.args.version.now in
    CallsBetween-weaken _ _ c.put_version.result _ _ (λ _ puts s held allowed.
    let t : State = record s { versions = s.versions ++ v ∷ [] } in
    let numbered = number_of-append_new s.versions v allowed.0.0 ∙ ap Some (sym allowed.1) in
    (t, (refl, allowed.1, numbered, branches-none_of_unknown _ s v held allowed.0.0), puts s held t (allowed.0.0, allowed.1, refl)))
    c.put_version.ensures.changes
