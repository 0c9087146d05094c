use Rattle.std.{specs.Option.{is_some}, proofs.Common.{[], ◌∷◌, codes, refl, ◌≡◌, true, false, sym, ◌∙◌, ap, subst}}
use Rattle.broker_names.specs.Name.{IsName}
use Rattle.broker_core.specs.Text.{put_at, same_text, same_pair, Text}
use Rattle.sqlite.specs.Held.{state}
use Rattle.table_access.proofs.CallLemmas.{ReportsMemoryUnless-Ok}
use Rattle.command_facts.proofs.{CarryLemmas.{CarriesBetween-query_answer, CarriesBetween-query_change}, InPlace.{ReportsMemory-after_query}}
use Rattle.command_facts.proofs.ShortTexts.{IsName-short}
use Rattle.registry_commands.proofs.grants.put_grant.Goals as goal

pub returns-in-Some-clause-carries : goal.returns-in-Some-clause-carries
returns-in-Some-clause-carries g c = CarriesBetween-query_answer (λ s may h. c.in-Some.ensures.unchanged s _ _ h) c.in-Ok.ensures

pub returns-in-None-clause-carries : goal.returns-in-None-clause-carries
returns-in-None-clause-carries g c =
    let by = c.as_str.ensures in
    let of = c.as_str-in-None.ensures in
    CarriesBetween-query_change (codes "grants" ∷ []) (refl, tt)
    (λ s may h.
    let it = c.in-None.ensures.changes s c.args.team.now c.args.environment.now h in
    let team_is : is_some (s.teams c.as_str.result.now) ≡ true = ap (λ x. is_some (s.teams x)) by ∙ h.team_is ∙ it.0 in
    let environment_is : is_some (s.environments c.as_str-in-None.result.now) ≡ true = ap (λ x. is_some (s.environments x)) of ∙ h.environment_is ∙ it.1 in
    let grant_is : s.grants (c.as_str.result.now, c.as_str-in-None.result.now) ≡ false = ap (λ (k : Text × Text). s.grants k) (λ i. (by i, of i)) ∙ h.grant_is ∙ it.2 in
    (_, (team_is, environment_is, grant_is, λ i. record s { grants = put_at (same_pair same_text same_text) s.grants (sym by i, sym of i) true }), it.3))
    (λ long named. long (IsName-short _ (subst IsName (sym by) named.0), (IsName-short _ (subst IsName (sym of) named.1), tt)))
    c.returned.ensures c.in-Ok.ensures c.add_grant.ensures.changes c.add_grant.ensures.failure

pub returns-in-Some-clause-memory : goal.returns-in-Some-clause-memory
returns-in-Some-clause-memory g c = ReportsMemoryUnless-Ok false (state g.S.Store c.args.conn.now) (state g.S.Store c.read_grant_facts.new.conn) c.in-Some.answer

pub returns-in-None-clause-memory : goal.returns-in-None-clause-memory
returns-in-None-clause-memory g c = ReportsMemory-after_query c.returned.ensures c.in-Ok.ensures.call c.add_grant.ensures.changes
