-- What the transactions leave that make a broker's tables, look for a format, and bring a database up.
use Rattle.broker_core.specs.{State.{State as Broker, opening}, Text.{Text}}
use Rattle.broker_database.specs.Migration.{DeclaresToday, Migrates, MigratesOrNot, FindsFormat1Alone, HasFormat1RoomFor, IsFormat1, KeepsFormat1Room, OnlyIfNotMigrated, StoresFormat1}
use Rattle.broker_database.specs.Opening.{IsFresh, IsUncommitted, MakesOrFails, OnlyIfRefused, OnlyIfStoreFailed, Refuses, open_fault}
use Rattle.broker_database.specs.{Stored.{HoldsState, Stores}, declared.ending.Failure.{Failure}, declared.ending.Failure.TheVariants.{Call, Commit}}
use Rattle.broker_database.{specs.Transaction.{Concludes, EndsFor, returned}, proofs.MigrationLemmas.{FindsFormat1Alone-format_1}}
use Rattle.broker_database.proofs.{OpenFailures.{ReportsNothing-of_look_up, HasFailed-unbegun}, Sound.{HasSoundContents-opening}}
use Rattle.broker_database.proofs.StoreFailures.{HasFailed-of_transaction}
use Rattle.broker_database.proofs.Transaction.{WholeTransaction, AddsNoCrashState-of_survives, CommitsAtMostOnce-of_survives, Begins-transaction, EndsOrFails-transaction, CommitsAtMostOnce-whole, LeavesNoTransaction-transaction, AddsNoCrashState-transaction, IfOk-kept, IfOk-transaction, IsUnchangedUnless-transaction, Survives-before_whole_end, EndsOrFails-unbegun, LeavesNoTransaction-unbegun, IsUnchangedUnless-unbegun}
use Rattle.broker_tables.specs.{Format1.{format_1}, Holds.{Holds}, Making.{IsBlank, FailsByStoreOverBetween}, Room.{HasAllNumbers, HasRoomFor}}
use Rattle.broker_tables.specs.Schema.{broker_schema}
use Rattle.registry_tables.specs.Format.{FailsToFind, IsOfFormat}
use Rattle.sqlite.specs.{Effect.{Database}, Held.{Held}, State.{HasCleanDisk, State, Survives}}
use Rattle.std.proofs.Common.{Bool, Err, IfErr, IsOk, IsOkAnd, IsTrue, None, Ok, Option, Result, Some, ap, arith, false, inl, inr, is_ok, refl, subst, sym, ℕ, ◌↔◌, ◌∙◌, ◌≡◌, ◌≤◌, ◌⊎◌}
use Rattle.std.proofs.lemmas.Result.{IfErr-weaker, IfOk-weaker}
use Rattle.table_access.specs.{Calls.{CallsStoreBetween, GoesOn, HasFailed}, Durability.{HoldsDurably}, Unit.{Begins, FailsToBegin, IsLeft, RefusesCommit}}
use Rattle.table_access.specs.{declared.StoreFault.{StoreFault}, declared.StoreFault.TheVariants.{Memory, Store}}
use Rattle.table_access.proofs.CallLemmas.{EndsBy-later_call, CallsBetween-may_take_memory}
use Rattle.table_access.proofs.EndLemmas as ends

-- ---- the format is looked for

pub IsOkAnd-never : (r : Result (Option ℕ) StoreFault) → IsTrue false ↔ IsOkAnd r (λ _. ⊥)
IsOkAnd-never (Ok found) = (λ no. absurd (cc), λ no. absurd no)
IsOkAnd-never (Err why) = (λ no. absurd (cc), λ no. absurd no)

-- nothing is kept
abbrev pub looked : (old mid done new : State) (X : Option ℕ → Type 0) (worked result : Result (Option ℕ) StoreFault) → (HasCleanDisk mid → Begins old mid) → Survives old mid (λ _. ⊥) → CallsStoreBetween mid done worked X
    → Concludes done new false worked result → WholeTransaction old mid done new X (λ _. ⊥) result
looked old mid done new X worked result begun begins works concludes =
    record { worked = worked; keeps = false; begun = begun; begins = begins; works = CallsBetween-may_take_memory mid done worked _ works; kept = IsOkAnd-never worked; concludes = concludes }

-- ---- a broker's tables are made

-- the making is kept if and only if it succeeded
pub IsOkAnd-is_ok : (r : Result (Unit {0}) StoreFault) → IsTrue (is_ok r) ↔ IsOkAnd r (λ _. Unit {0})
IsOkAnd-is_ok (Ok u) = (λ _. tt, λ _. refl)
IsOkAnd-is_ok (Err why) = (λ no. absurd (cc), λ no. absurd no)

unfoldable pub made : (office : Text) (old mid done new : State) (worked result : Result (Unit {0}) StoreFault) (keeps : Bool) → (HasCleanDisk mid → Begins old mid) → Survives old mid (λ _. ⊥)
    → CallsStoreBetween mid done worked (λ _. IsBlank mid.now → Holds done.now (opening office) × HasAllNumbers done.now) → keeps ≡ is_ok worked → Concludes done new keeps worked result
    → WholeTransaction old mid done new (λ _. IsBlank mid.now → Holds done.now (opening office) × HasAllNumbers done.now) (λ _. Unit {0}) result
made office old mid done new worked result keeps begun begins works is concludes =
    record { worked = worked; keeps = keeps; begun = begun; begins = begins; works = CallsBetween-may_take_memory mid done worked _ works; kept = subst (λ (k : Bool). IsTrue k ↔ IsOkAnd worked (λ _. Unit {0})) (sym is) (IsOkAnd-is_ok worked); concludes = concludes }

pub MakesOrFails-of_transaction : (office : Text) (old mid done new : State) (r : Result (Unit {0}) StoreFault) → WholeTransaction old mid done new (λ _. IsBlank mid.now → Holds done.now (opening office) × HasAllNumbers done.now) (λ _. Unit {0}) r
    → HasCleanDisk new → HoldsDurably IsBlank old → MakesOrFails office new r
MakesOrFails-of_transaction office old mid done new r t clean holds =
    EndsOrFails-transaction old mid done new _ _ r t IsBlank (λ db. Stores db (opening office)) (λ _. HoldsState (opening office) new × HoldsDurably HasAllNumbers new) clean holds
    (λ u blank makes _. stored blank makes)
    (λ u blank makes _ commit. (commit (λ db. Stores db (opening office)) (stored blank makes), commit HasAllNumbers (makes blank).1))
    (λ u blank makes never kept. absurd (never tt))
  where
    stored : IsBlank mid.now → (IsBlank mid.now → Holds done.now (opening office) × HasAllNumbers done.now) → Stores done.now (opening office)
    stored blank makes = record { tables = (makes blank).0; contents = HasSoundContents-opening office }

IsOk-of_kept : {A : Type 0} (Keeps : A → Type 0) (r : Result A StoreFault) → IsOkAnd r Keeps → IsOk r
IsOk-of_kept Keeps (Ok a) is = refl
IsOk-of_kept Keeps (Err why) is = absurd is

module _ {X A : Type 0} (shown : Held X → State) (Ready Before : Database → Type 0) (s : Broker) (old mid done new : Held X) (Does Keeps : A → Type 0) (result : Result A Failure) (t : WholeTransaction (shown old) (shown mid) (shown done) (shown new) Does Keeps (returned result)) where
  module _ (failure : FailsByStoreOverBetween Ready (shown mid) (shown done) t.worked) (refused : HasCleanDisk (shown new) → IfErr result (EndsFor shown t.keeps t.worked done new))
      (ready : (db : Database) → Before db → Ready db) (makes : (a : A) → Does a → Keeps a → Before (shown mid).now → Holds (shown done).now s) (clean : HasCleanDisk (shown new)) (fresh : IsFresh (shown old)) (holds : HoldsDurably Before (shown old)) where
    begun : Begins (shown old) (shown mid)
    begun = Begins-transaction (shown old) (shown mid) (shown done) (shown new) Does Keeps (returned result) t clean

    before : Before (shown mid).now
    before = ends.begins Before (shown old) (shown mid) begun holds

    -- the work fails by Store only as the store fails
    work_failure : (Why : Type 0) → IfErr t.worked (λ fault. fault ≡ Store → HasFailed (shown mid) (shown done) fault ⊎ Why)
    work_failure Why =
        let worked : HasCleanDisk (shown done) = omega (arith, t.concludes.ends.survives.clean, clean) in
        IfErr-weaker t.worked _ _ (λ fault failed store. inl failed) (failure worked begun.1.mode (t.begins.limit ∙ fresh.1) (ready (shown mid).now before))

    -- so does a call
    by_call : result ≡ Err (Call Store) → HasFailed (shown old) (shown new) Store
    by_call is =
        let why : EndsFor shown t.keeps t.worked done new (Call Store) = subst (λ (r : Result A Failure). IfErr r (EndsFor shown t.keeps t.worked done new)) is (refused clean) in
        elim (HasFailed-of_transaction (shown old) (shown mid) (shown done) (shown new) Does Keeps ⊥ clean (returned result) t (work_failure ⊥) (λ a did keeps kept on. absurd (why kept (IsOk-of_kept Keeps t.worked (t.kept.0 kept)))) (ap returned is)) [
          | inl failed ↦ failed
          | inr never ↦ absurd never
        ]

    -- COMMIT is refused only if the store failed, or if memory ran out
    by_commit : (why : StoreFault) → result ≡ Err (Commit why) → HasFailed (shown old) (shown new) Store ⊎ ((why ≡ Memory) × IsUncommitted shown s old new)
    by_commit why is =
        let refusal : EndsFor shown t.keeps t.worked done new (Commit why) = subst (λ (r : Result A Failure). IfErr r (EndsFor shown t.keeps t.worked done new)) is (refused clean) in
        HasFailed-of_transaction (shown old) (shown mid) (shown done) (shown new) Does Keeps ((why ≡ Memory) × IsUncommitted shown s old new) clean (returned result) t (work_failure ((why ≡ Memory) × IsUncommitted shown s old new))
        (λ a did keeps kept on. not_kept (makes a did keeps before) on why refusal.1) (ap returned is)
      where
        not_kept : Holds (shown done).now s → GoesOn (shown mid) (shown done) → (fault : StoreFault) → RefusesCommit shown done new fault → HasFailed (shown old) (shown new) Store ⊎ ((fault ≡ Memory) × IsUncommitted shown s old new)
        not_kept made on Store refusal =
            inl (EndsBy-later_call (shown old) (shown done) (shown new) Store (on.0, λ _. on.1 begun.1.is_open) (let up : (shown old).faults ≤ (shown done).faults = omega (arith, t.begins.counts, t.works.survives.counts) in up) (refusal.failed on.0))
        not_kept made on Memory refusal =
            inr (refl, record { worked = done; inside = on.0; survives = Survives-before_whole_end (shown old) (shown mid) (shown done) (shown new) Does Keeps (returned result) t; made = made; refused = refusal })

  -- why it fails by Store: of a database from which the work makes one that holds this state
  pub OnlyIfRefused-of_transaction : FailsByStoreOverBetween Ready (shown mid) (shown done) t.worked → (HasCleanDisk (shown new) → IfErr result (EndsFor shown t.keeps t.worked done new))
      → ((db : Database) → Before db → Ready db) → ((a : A) → Does a → Keeps a → Before (shown mid).now → Holds (shown done).now s) → OnlyIfRefused shown Before s old new result
  OnlyIfRefused-of_transaction failure refused ready makes = record {
    call = by_call failure refused ready makes;
    commit = by_commit failure refused ready makes;
  }

-- the fault that is reported is Store only for these causes
pub OnlyIfStoreFailed-of_refused : {X A : Type 0} (shown : Held X → State) (Before : Database → Type 0) (s : Broker) (old new : Held X) (result : Result A Failure) → OnlyIfRefused shown Before s old new result → OnlyIfStoreFailed shown Before s old new (returned result ≡ Err Store)
OnlyIfStoreFailed-of_refused shown Before s old new (Ok a) why clean fresh holds is = absurd (cc)
OnlyIfStoreFailed-of_refused shown Before s old new (Err (Call Memory)) why clean fresh holds is = absurd (cc)
OnlyIfStoreFailed-of_refused shown Before s old new (Err (Call Store)) why clean fresh holds is = inl (why.call clean fresh holds refl)
OnlyIfStoreFailed-of_refused shown Before s old new (Err (Commit fault)) why clean fresh holds is = elim (why.commit clean fresh holds fault refl) [ inl failed ↦ inl failed | inr refused ↦ inr refused.1 ]

-- the failure as the fault of making a broker
pub Refuses-of_fails : (office : Text) (new : State) (why : StoreFault) → MakesOrFails office new (Err why) → Refuses IsBlank (λ db. Stores db (opening office)) new (open_fault why)
Refuses-of_fails office new Memory it = it
Refuses-of_fails office new Store it = it

-- ---- a database of format 1 is upgraded

abbrev pub IsUpgraded : State → State → Option ℕ → Type 0
IsUpgraded mid done found = FindsFormat1Alone mid.now found × (found ≡ Some format_1 → Migrates mid.now done.now × (done.now.schema ≡ broker_schema))

-- nothing is committed but by a database of format 1
pub IsFormat1-of_found : (db : Database) (found : Option ℕ) → FindsFormat1Alone db found → found ≡ Some format_1 → IsFormat1 db
IsFormat1-of_found db None it is = absurd (cc)
IsFormat1-of_found db (Some n) it is = let same : n ≡ format_1 = cc in (subst (λ k. IsOfFormat k db) same it.0, it.1 same)

abbrev pub going_up : (old mid done new : State) (worked result : Result (Option ℕ) StoreFault) (keeps : Bool) → (HasCleanDisk mid → Begins old mid) → Survives old mid (λ _. ⊥)
    → CallsStoreBetween mid done worked (IsUpgraded mid done) → (IsTrue keeps ↔ IsOkAnd worked (λ found. found ≡ Some format_1)) → Concludes done new keeps worked result
    → WholeTransaction old mid done new (IsUpgraded mid done) (λ found. found ≡ Some format_1) result
going_up old mid done new worked result keeps begun begins works kept concludes =
    record { worked = worked; keeps = keeps; begun = begun; begins = begins; works = CallsBetween-may_take_memory mid done worked _ works; kept = kept; concludes = concludes }

pub MigratesOrNot-of_transaction : {X : Type 0} (shown : Held X → State) (old mid done new : Held X) (worked result : Result (Option ℕ) StoreFault) (keeps : Bool) → (HasCleanDisk (shown mid) → Begins (shown old) (shown mid)) → Survives (shown old) (shown mid) (λ _. ⊥)
    → CallsStoreBetween (shown mid) (shown done) worked (IsUpgraded (shown mid) (shown done)) → (IsTrue keeps ↔ IsOkAnd worked (λ found. found ≡ Some format_1)) → Concludes (shown done) (shown new) keeps worked result
    → (HasCleanDisk (shown done) → (shown mid).step_limit ≡ None → IfErr worked (λ fault. FailsToFind (shown mid) (shown done) fault ⊎ IsFormat1 (shown mid).now))
    → OnlyIfNotMigrated shown old new (result ≡ Err Store) → MigratesOrNot shown old new result
MigratesOrNot-of_transaction shown old mid done new worked result keeps begun begins works kept concludes looks not_migrated = record {
  found = λ clean. IfOk-weaker result _ _ (λ found it. (it.0, subst (λ (db : Database). FindsFormat1Alone db found) it.1 it.2.0)) (IfOk-transaction (shown old) (shown mid) (shown done) (shown new) _ _ result t clean);
  ends = λ clean s holds.
      let begun = Begins-transaction (shown old) (shown mid) (shown done) (shown new) _ _ result t clean in
      EndsOrFails-transaction (shown old) (shown mid) (shown done) (shown new) _ _ result t (λ db. StoresFormat1 db s) (λ db. Stores db s) (λ found. (found ≡ Some format_1) × HoldsState s (shown new) × KeepsFormat1Room (shown old) (shown new)) clean holds
      (λ found was up is. stored s found was up is)
      (λ found was up is commit. (
        is,
        commit (λ db. Stores db s) (stored s found was up is),
        λ n room. commit (HasRoomFor n) (((up.1 is).0 s was.tables).1 n (subst (HasFormat1RoomFor n) (sym begun.1.now_is) room)),
      ))
      (λ found was up other kept. absurd (other (FindsFormat1Alone-format_1 (shown mid).now s found was.tables up.0)));
  today = λ clean. IfOk-kept (shown old) (shown mid) (shown done) (shown new) _ _ result t clean DeclaresToday (λ found up is. (up.1 is).1);
  unchanged = IsUnchangedUnless-transaction (shown old) (shown mid) (shown done) (shown new) _ _ result t;
  over = LeavesNoTransaction-transaction (shown old) (shown mid) (shown done) (shown new) _ _ result t;
  survives = CommitsAtMostOnce-whole (shown old) (shown mid) (shown done) (shown new) _ _ result t;
  spares = λ clean other. AddsNoCrashState-transaction (shown old) (shown mid) (shown done) (shown new) _ _ result t (λ found same up is. other (subst IsFormat1 same (IsFormat1-of_found (shown mid).now found up.0 is))) clean;
  failure = λ clean fresh. ReportsNothing-of_look_up (shown old) (shown mid) (shown done) (shown new) _ _ result t clean fresh IsFormat1 looks (λ found up is. IsFormat1-of_found (shown mid).now found up.0 is);
  failure_format_1 = not_migrated;
}
  where
    t : WholeTransaction (shown old) (shown mid) (shown done) (shown new) (IsUpgraded (shown mid) (shown done)) (λ found. found ≡ Some format_1) result
    t = going_up (shown old) (shown mid) (shown done) (shown new) worked result keeps begun begins works kept concludes

    stored : (s : Broker) (found : Option ℕ) → StoresFormat1 (shown mid).now s → IsUpgraded (shown mid) (shown done) found → found ≡ Some format_1 → Stores (shown done).now s
    stored s found was up is = record { tables = ((up.1 is).0 s was.tables).0; contents = was.contents }

-- if BEGIN was refused
pub MigratesOrNot-unbegun : {X : Type 0} (shown : Held X → State) (old new : Held X) (why : StoreFault) → (HasCleanDisk (shown new) → IsLeft (shown old) (shown new)) → (HasCleanDisk (shown new) → FailsToBegin (shown old) (shown new) why) → Survives (shown old) (shown new) (λ _. ⊥)
    → MigratesOrNot shown old new (Err why)
MigratesOrNot-unbegun shown old new why refused cause begins = record {
  found = λ clean. tt;
  ends = λ clean s holds. EndsOrFails-unbegun (shown old) (shown new) why refused begins (λ db. StoresFormat1 db s) (λ db. Stores db s) (λ found. (found ≡ Some format_1) × HoldsState s (shown new) × KeepsFormat1Room (shown old) (shown new)) clean holds;
  today = λ clean. tt;
  unchanged = IsUnchangedUnless-unbegun (shown old) (shown new) why refused begins (λ found. found ≡ Some format_1);
  over = LeavesNoTransaction-unbegun (shown old) (shown new) refused;
  survives = CommitsAtMostOnce-of_survives (shown old) (shown new) begins;
  spares = λ clean other. AddsNoCrashState-of_survives (shown old) (shown new) begins clean;
  failure = λ clean fresh is. inl (inl (failed clean fresh is));
  failure_format_1 = λ s fit clean fresh holds is. inl (failed clean fresh is);
}
  where
    failed : HasCleanDisk (shown new) → IsFresh (shown old) → ◌≡◌ {A = Result (Option ℕ) StoreFault} (Err why) (Err Store) → HasFailed (shown old) (shown new) Store
    failed clean fresh is = HasFailed-unbegun (shown old) (shown new) why fresh (cause clean) (let same : why ≡ Store = (let h = is in cc) in same)
