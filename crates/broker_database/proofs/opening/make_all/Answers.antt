use Rattle.broker_tables.specs.{Holds.{format}, Making.{HasShortKeys, HasTables, IsBlank}, ChangeRefusals.{AreShort}, Schema.{all_tables, schema_of}}
use Rattle.broker_tables.proofs.MakingFails.{FailsByStoreOverBetween-then, HasTables-HasShortKeys}
use Rattle.broker_tables.proofs.Opening.{HasTables-HasAll, HasAll-Holds_opening, HasAll-HasAllNumbers}
use Rattle.sqlite.specs.Held.{state}
use Rattle.std.proofs.Common.{Ok, [], ◌∷◌, ◌≡◌}
use Rattle.table_access.proofs.CallLemmas.{CallsBetween-then_failed_call, CallsBetween-then_call, CallsBetween-then_call}
use Rattle.broker_database.proofs.opening.make_all.Goals as goal

pub returns-clause-makes : goal.returns-clause-makes
returns-clause-makes g c =
    let old = state g.S.Store c.args.conn.now in
    let first = state g.S.Store c.make_first.new.conn in
    let second = state g.S.Store c.make_rest.new.conn in
    let new = state g.S.Store c.make_indexes.new.conn in
    let digest = c.args.digest.now in
    CallsBetween-then_call old second new c.in-Ok-make_rest.value c.make_indexes.result (λ _. IsBlank old.now → HasTables all_tables format digest second.now) _ _
    (λ has u makes blank. let before = has blank in let all = HasTables-HasAll format digest second.now new.now before (makes before.schema) in (HasAll-Holds_opening digest new.now all, HasAll-HasAllNumbers format digest new.now all))
    (CallsBetween-then_call old first second c.in-Ok.value (Ok c.in-Ok-make_rest.value) _ _ (λ _. IsBlank old.now → HasTables all_tables format digest second.now) (λ has u rest blank. rest digest (has blank)) c.in-Ok.ensures.makes c.in-Ok-make_rest.ensures.makes)
    c.make_indexes.ensures.makes

pub returns-in-Err-make_rest-clause-makes : goal.returns-in-Err-make_rest-clause-makes
returns-in-Err-make_rest-clause-makes g c =
    CallsBetween-then_failed_call _ _ _ c.in-Ok.value c.in-Err-make_rest.fault _ _ _ c.in-Ok.ensures.makes c.in-Err-make_rest.ensures.makes

pub returns-clause-failure : goal.returns-clause-failure
returns-clause-failure g c =
    let old = state g.S.Store c.args.conn.now in
    let second = state g.S.Store c.make_rest.new.conn in
    let digest = c.args.digest.now in
    FailsByStoreOverBetween-then (λ db. IsBlank db × AreShort (digest ∷ [])) (λ db. (db.schema ≡ schema_of all_tables) × HasShortKeys db) old second _ c.in-Ok-make_rest.value c.make_indexes.result
    (λ _. IsBlank old.now → HasTables all_tables format digest second.now) _
    (CallsBetween-then_call old _ second c.in-Ok.value (Ok c.in-Ok-make_rest.value) _ _ (λ _. IsBlank old.now → HasTables all_tables format digest second.now) (λ has u rest blank. rest digest (has blank)) c.in-Ok.ensures.makes c.in-Ok-make_rest.ensures.makes)
    c.make_indexes.ensures.makes c.make_indexes.ensures.failure (λ has it. let all = has it.0 in (all.schema, HasTables-HasShortKeys format digest second.now all))
