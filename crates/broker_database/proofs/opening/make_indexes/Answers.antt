use Rattle.broker_tables.specs.{Making.{HasShortKeys}, Schema.{all_tables, contents_by_digest, contract_indexes, schema_of, versions_by_pacticipant}}
use Rattle.broker_tables.proofs.MakingFails.{FailsByStoreOverBetween-then, HasShortKeys-kept}
use Rattle.sqlite.specs.{Change.{indexed}, Held.{state}}
use Rattle.std.proofs.Common.{Err, Ok, [], ap, refl, ◌∙◌, ◌∷◌, ◌≡◌}
use Rattle.table_access.{specs.Statements.{MakesIndexes, indexed_by}, proofs.CallLemmas.{CallsBetween-then_call}}
use Rattle.table_access.proofs.Indexing.{MakesIndexes-schema, MakesIndexes-append}
use Rattle.broker_database.proofs.opening.make_indexes.Goals as goal

pub returns-clause-makes : goal.returns-clause-makes
returns-clause-makes g c =
    let old = state g.S.Store c.args.conn.now in
    let first = state g.S.Store c.make_index.new.conn in
    let second = state g.S.Store c.make_indexes.new.conn in
    let new = state g.S.Store c.make_index-2.new.conn in
    CallsBetween-then_call old second new c.in-Ok-make_indexes.value c.make_index-2.result (λ _. old.now.schema ≡ schema_of all_tables → MakesIndexes (contents_by_digest ∷ contract_indexes) old.now second.now) _ _
    (λ before u last is. let done = before is in
    MakesIndexes-append (contents_by_digest ∷ contract_indexes) (versions_by_pacticipant ∷ []) old.now second.now new.now done
    (new.now, last (MakesIndexes-schema (contents_by_digest ∷ contract_indexes) old.now second.now done ∙ ap (λ s. indexed_by s (contents_by_digest ∷ contract_indexes)) is), refl))
    (CallsBetween-then_call old first second c.in-Ok.value (Ok c.in-Ok-make_indexes.value) _ _ (λ _. old.now.schema ≡ schema_of all_tables → MakesIndexes (contents_by_digest ∷ contract_indexes) old.now second.now)
    (λ one u rest is. let made = one is in (first.now, made, rest (made.schema ∙ ap (λ s. indexed s contents_by_digest.0 contents_by_digest.1) is))) c.in-Ok.ensures.makes c.in-Ok-make_indexes.ensures.makes)
    c.make_index-2.ensures.makes

pub returns-clause-failure : goal.returns-clause-failure
returns-clause-failure g c =
    let old = state g.S.Store c.args.conn.now in
    let first = state g.S.Store c.make_index.new.conn in
    let second = state g.S.Store c.make_indexes.new.conn in
    FailsByStoreOverBetween-then (λ db. (db.schema ≡ schema_of all_tables) × HasShortKeys db) (λ db. (db.schema ≡ indexed_by (schema_of all_tables) (contents_by_digest ∷ contract_indexes)) × HasShortKeys db)
    old second _ c.in-Ok-make_indexes.value c.make_index-2.result (λ _. old.now.schema ≡ schema_of all_tables → MakesIndexes (contents_by_digest ∷ contract_indexes) old.now second.now) _
    (CallsBetween-then_call old first second c.in-Ok.value (Ok c.in-Ok-make_indexes.value) _ _ (λ _. old.now.schema ≡ schema_of all_tables → MakesIndexes (contents_by_digest ∷ contract_indexes) old.now second.now)
    (λ one u rest is. let made = one is in (first.now, made, rest (made.schema ∙ ap (λ s. indexed s contents_by_digest.0 contents_by_digest.1) is))) c.in-Ok.ensures.makes c.in-Ok-make_indexes.ensures.makes)
    c.make_index-2.ensures.makes c.make_index-2.ensures.failure
    (λ makes it. let done = makes it.0 in (
      MakesIndexes-schema (contents_by_digest ∷ contract_indexes) old.now second.now done ∙ ap (λ s. indexed_by s (contents_by_digest ∷ contract_indexes)) it.0,
      HasShortKeys-kept [] (contents_by_digest ∷ contract_indexes) old.now second.now it.0 done it.1,
    ))

pub returns-in-Err-make_indexes-clause-failure : goal.returns-in-Err-make_indexes-clause-failure
returns-in-Err-make_indexes-clause-failure g c =
    let old = state g.S.Store c.args.conn.now in
    let first = state g.S.Store c.make_index.new.conn in
    FailsByStoreOverBetween-then (λ db. (db.schema ≡ schema_of all_tables) × HasShortKeys db) (λ db. (db.schema ≡ indexed_by (schema_of all_tables) (contents_by_digest ∷ [])) × HasShortKeys db)
    old first _ c.in-Ok.value (Err c.in-Err-make_indexes.fault) _ _ c.in-Ok.ensures.makes c.in-Err-make_indexes.ensures.makes c.in-Err-make_indexes.ensures.failure
    (λ makes it. let made = makes it.0 in (
      made.schema ∙ ap (λ s. indexed s contents_by_digest.0 contents_by_digest.1) it.0,
      HasShortKeys-kept [] (contents_by_digest ∷ []) old.now first.now it.0 (first.now, made, refl) it.1,
    ))
