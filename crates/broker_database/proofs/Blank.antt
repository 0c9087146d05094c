-- A new database in memory has no tables.
use Rattle.std.proofs.Common.{sym, subst}
use Rattle.sqlite.specs.{Tree.{Trees}, Effect.{IsDatabase}, Held.{Held, state}, Steps.{over_memory, IsEmpty}}
use Rattle.sqlite_trees.specs.declared.memory.MemStore.{MemStore}
use Rattle.table_access.specs.Durability.{HoldsDurably}
use Rattle.broker_tables.specs.Making.{IsBlank}

-- so a broker can be created on it
pub HoldsDurably-memory_blank : (c : Held MemStore) → IsEmpty (state over_memory c) → HoldsDurably IsBlank (state over_memory c)
HoldsDurably-memory_blank c it =
    let opened = it.0 in
    let sound : IsDatabase (state over_memory c).committed = (it.1 opened.is_open).1 in
    let blank : IsBlank (state over_memory c).committed = subst IsBlank opened.clean (record { schema = it.2; sound = (it.1 opened.is_open).0 }) in
    record {
      held = λ _. record { autocommit = opened.autocommit; same = opened.clean; sound = sound; has = blank };
      left = λ trees is. record {
        schema = (state over_memory c).committed.schema;
        sound = subst (λ (t : Trees). IsDatabase (record { schema = (state over_memory c).committed.schema; trees = t })) (sym is) sound;
        has = subst (λ (t : Trees). IsBlank (record { schema = (state over_memory c).committed.schema; trees = t })) (sym is) blank;
      };
    }
