use Rattle.std.proofs.Common.{◌≡◌, true, false, sym, ◌∙◌, ap}
use Rattle.broker_core.specs.Text.{put_at, same_text, same_pair, Text}
use Rattle.sqlite.specs.Held.{state}
use Rattle.table_access.proofs.CallLemmas.{ReportsMemoryUnless-Ok}
use Rattle.command_facts.proofs.{CarryLemmas.{CarriesBetween-query_answer, CarriesBetween-query_removal}, InPlace.{ReportsMemory-after_query}}
use Rattle.registry_commands.proofs.grants.delete_grant.Goals as goal

pub returns-in-Some-clause-carries : goal.returns-in-Some-clause-carries
returns-in-Some-clause-carries g c = CarriesBetween-query_answer (λ s may h. c.in-Some.ensures.unchanged s _ _ h) c.in-Ok.ensures

pub returns-in-None-clause-carries : goal.returns-in-None-clause-carries
returns-in-None-clause-carries g c =
    let by = c.as_str.ensures in
    let of = c.as_str-in-None.ensures in
    CarriesBetween-query_removal (λ s may h.
    let it = c.in-None.ensures.changes s c.args.team.now c.args.environment.now h in
    let grant_is : s.grants (c.as_str.result.now, c.as_str-in-None.result.now) ≡ true = ap (λ (k : Text × Text). s.grants k) (λ i. (by i, of i)) ∙ h.grant_is ∙ it.0 in
    (_, (grant_is, λ i. record s { grants = put_at (same_pair same_text same_text) s.grants (sym by i, sym of i) false }), it.1))
    c.returned.ensures c.in-Ok.ensures c.remove_grant.ensures.changes c.remove_grant.ensures.failure

pub returns-in-Some-clause-memory : goal.returns-in-Some-clause-memory
returns-in-Some-clause-memory g c = ReportsMemoryUnless-Ok false (state g.S.Store c.args.conn.now) (state g.S.Store c.read_grant_facts.new.conn) c.in-Some.answer

pub returns-in-None-clause-memory : goal.returns-in-None-clause-memory
returns-in-None-clause-memory g c = ReportsMemory-after_query c.returned.ensures c.in-Ok.ensures.call c.remove_grant.ensures.changes
