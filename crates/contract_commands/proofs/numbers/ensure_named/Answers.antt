use Rattle.std.proofs.Common.{◌≡◌, subst}
use Rattle.sqlite.specs.Held.{state}
use Rattle.table_access.proofs.CallLemmas.{CallsBetween-then_Ok}
use Rattle.broker_core.specs.{State.{State}, Text.{version as version_named}, declared.command.Version.{Version}}
use Rattle.broker_tables.specs.Holds.{HoldsAfter}
use Rattle.command_facts.proofs.PerformLemmas.{ChangesAndAnswersBetween-unchanged}
use Rattle.registry_tables.specs.Registry.{AllowsVersionAs, AddsVersion}
use Rattle.contract_commands.specs.{Numbering.{CanName}, declared.numbers.VersionNumber.{VersionNumber}}
use Rattle.contract_commands.proofs.NumberingLemmas.{NamesAs-old, AllowsVersionAs-new, NamesAs-new}
use Rattle.contract_commands.proofs.numbers.ensure_named.Goals as goal

pub returns-in-Old-clause-answers : goal.returns-in-Old-clause-answers
returns-in-Old-clause-answers g c =
    let v = version_named c.args.pacticipant.now c.args.name.now in
    ChangesAndAnswersBetween-unchanged _ c.in-Old.number _ _ (λ s can. NamesAs-old s v c.in-Old.number (subst (λ (n : VersionNumber). CanName s v n) c.in-Old.is can))

pub returns-in-Ok-clause-answers : goal.returns-in-Ok-clause-answers
returns-in-Ok-clause-answers g c =
    let old = state g.S.Store c.args.conn.now in
    let new = state g.S.Store c.insert_version.new.conn in
    let number = c.in-New.number in
    let v = version_named c.args.pacticipant.now c.args.name.now in
    let same : version_named c.as_str.result.now c.as_str-in-New.result.now ≡ v = λ i. version_named (c.as_str.ensures i) (c.as_str-in-New.ensures i) in
    CallsBetween-then_Ok old new c.in-Ok.value number _ _ (λ adds s held can.
    let may = subst (λ (n : VersionNumber). CanName s v n) c.in-New.is can in
    let it = subst (λ (w : Version). AllowsVersionAs number w s → (t : State) × AddsVersion w number s t × HoldsAfter 2 old new t) same (adds s held) (AllowsVersionAs-new s v number may) in
    (it.0, NamesAs-new s v number it.0 may it.1, it.2))
    c.in-Ok.ensures.changes
