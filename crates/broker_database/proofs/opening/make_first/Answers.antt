use Rattle.std.proofs.Common.{◌++◌, ◌∷◌, [], Ok, inl, refl}
use Rattle.sqlite.specs.Held.{state}
use Rattle.table_access.proofs.CallLemmas.{CallsBetween-then_call}
use Rattle.broker_tables.specs.{Schema.{registry_part, contents, contract_part}, Holds.{format}, Making.{IsBlank, HasTables}}
use Rattle.broker_tables.proofs.Opening.{HasTables-append}
use Rattle.broker_database.proofs.opening.make_first.Goals as goal

pub returns-clause-makes : goal.returns-clause-makes
returns-clause-makes g c =
    let old = state g.S.Store c.args.conn.now in
    let first = state g.S.Store c.make_tables.new.conn in
    let second = state g.S.Store c.make_tables-2.new.conn in
    let new = state g.S.Store c.make_tables-3.new.conn in
    CallsBetween-then_call old second new c.in-Ok-make_tables.value c.make_tables-3.result (λ _. IsBlank old.now → HasTables (registry_part ++ contents ∷ []) format c.args.digest.now second.now) _ _
    (λ has u makes blank. let before = has blank in HasTables-append (registry_part ++ contents ∷ []) contract_part format c.args.digest.now second.now new.now (inl refl) before (makes before.schema))
    (CallsBetween-then_call old first second c.in-Ok.value (Ok c.in-Ok-make_tables.value) _ _ (λ _. IsBlank old.now → HasTables (registry_part ++ contents ∷ []) format c.args.digest.now second.now)
    (λ has u makes blank. let before = has blank in HasTables-append registry_part (contents ∷ []) format c.args.digest.now first.now second.now (inl refl) before (makes before.schema)) c.in-Ok.ensures.makes c.in-Ok-make_tables.ensures.makes)
    c.make_tables-3.ensures.makes
