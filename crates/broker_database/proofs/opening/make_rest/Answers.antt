use Rattle.std.proofs.Common.{◌≡◌, ◌++◌, ◌∷◌, [], List, ℕ, Ok, Err, inl, refl}
use Rattle.sqlite.specs.Held.{state}
use Rattle.table_access.proofs.CallLemmas.{CallsBetween-then_call, CallsBetween-weaken}
use Rattle.broker_tables.specs.{Schema.{registry_part, contents, contract_part, deploy_part, checked_results, strict_environments, schema_of}, Holds.{format}}
use Rattle.broker_tables.{specs.Making.{HasTables}, proofs.{Opening.{HasTables-append}, MakingFails.{FailsByStoreOverBetween-then}}}
use Rattle.broker_database.proofs.opening.make_rest.Goals as goal

pub returns-clause-makes : goal.returns-clause-makes
returns-clause-makes g c =
    let old = state g.S.Store c.args.conn.now in
    let first = state g.S.Store c.make_tables.new.conn in
    let second = state g.S.Store c.make_checked_results.new.conn in
    let new = state g.S.Store c.make_strict_environments.new.conn in
    CallsBetween-then_call old second new c.in-Ok-make_checked_results.value c.make_strict_environments.result (λ _. (office : List ℕ) → HasTables (registry_part ++ contents ∷ contract_part) format office old.now → HasTables (registry_part ++ contents ∷ contract_part ++ deploy_part ++ checked_results ∷ []) format office second.now) _ _
    (λ has u makes office was. let before = has office was in HasTables-append (registry_part ++ contents ∷ contract_part ++ deploy_part ++ checked_results ∷ []) (strict_environments ∷ []) format office second.now new.now (inl refl) before (new.now, makes before.schema, refl))
    (CallsBetween-then_call old first second c.in-Ok.value (Ok c.in-Ok-make_checked_results.value) (λ _. (office : List ℕ) → HasTables (registry_part ++ contents ∷ contract_part) format office old.now → HasTables (registry_part ++ contents ∷ contract_part ++ deploy_part) format office first.now) _ (λ _. (office : List ℕ) → HasTables (registry_part ++ contents ∷ contract_part) format office old.now → HasTables (registry_part ++ contents ∷ contract_part ++ deploy_part ++ checked_results ∷ []) format office second.now)
    (λ has u makes office was. let before = has office was in HasTables-append (registry_part ++ contents ∷ contract_part ++ deploy_part) (checked_results ∷ []) format office first.now second.now (inl refl) before (second.now, makes before.schema, refl))
    (CallsBetween-weaken old first (Ok c.in-Ok.value) _ _ (λ u makes office was. HasTables-append (registry_part ++ contents ∷ contract_part) deploy_part format office old.now first.now (inl refl) was (makes was.schema)) c.in-Ok.ensures.makes) c.in-Ok-make_checked_results.ensures.makes)
    c.make_strict_environments.ensures.makes

pub returns-clause-failure : goal.returns-clause-failure
returns-clause-failure g c =
    let old = state g.S.Store c.args.conn.now in
    let first = state g.S.Store c.make_tables.new.conn in
    let second = state g.S.Store c.make_checked_results.new.conn in
    FailsByStoreOverBetween-then (λ db. (office : List ℕ) × HasTables (registry_part ++ contents ∷ contract_part) format office db) (λ db. db.schema ≡ schema_of (registry_part ++ contents ∷ contract_part ++ deploy_part ++ checked_results ∷ []))
    old second _ c.in-Ok-make_checked_results.value c.make_strict_environments.result
    (λ _. (office : List ℕ) → HasTables (registry_part ++ contents ∷ contract_part) format office old.now → HasTables (registry_part ++ contents ∷ contract_part ++ deploy_part ++ checked_results ∷ []) format office second.now) _
    (CallsBetween-then_call old first second c.in-Ok.value (Ok c.in-Ok-make_checked_results.value) (λ _. (office : List ℕ) → HasTables (registry_part ++ contents ∷ contract_part) format office old.now → HasTables (registry_part ++ contents ∷ contract_part ++ deploy_part) format office first.now) _ (λ _. (office : List ℕ) → HasTables (registry_part ++ contents ∷ contract_part) format office old.now → HasTables (registry_part ++ contents ∷ contract_part ++ deploy_part ++ checked_results ∷ []) format office second.now)
    (λ has u makes office was. let before = has office was in HasTables-append (registry_part ++ contents ∷ contract_part ++ deploy_part) (checked_results ∷ []) format office first.now second.now (inl refl) before (second.now, makes before.schema, refl))
    (CallsBetween-weaken old first (Ok c.in-Ok.value) _ _ (λ u makes office was. HasTables-append (registry_part ++ contents ∷ contract_part) deploy_part format office old.now first.now (inl refl) was (makes was.schema)) c.in-Ok.ensures.makes) c.in-Ok-make_checked_results.ensures.makes)
    c.make_strict_environments.ensures.makes c.make_strict_environments.ensures.failure (λ has it. (has it.0 it.1).schema)

pub returns-in-Err-make_checked_results-clause-failure : goal.returns-in-Err-make_checked_results-clause-failure
returns-in-Err-make_checked_results-clause-failure g c =
    let old = state g.S.Store c.args.conn.now in
    let first = state g.S.Store c.make_tables.new.conn in
    FailsByStoreOverBetween-then (λ db. (office : List ℕ) × HasTables (registry_part ++ contents ∷ contract_part) format office db) (λ db. db.schema ≡ schema_of (registry_part ++ contents ∷ contract_part ++ deploy_part))
    old first _ c.in-Ok.value (Err c.in-Err-make_checked_results.fault) _ _ c.in-Ok.ensures.makes c.in-Err-make_checked_results.ensures.makes c.in-Err-make_checked_results.ensures.failure
    (λ makes it. (HasTables-append (registry_part ++ contents ∷ contract_part) deploy_part format it.0 old.now first.now (inl refl) it.1 (makes it.1.schema)).schema)
