-- What a transaction leaves of the connection that it began on.
use Rattle.std.specs.Prelude.{is_ok}
use Rattle.std.proofs.Common.{◌≡◌, ◌⊎◌, ◌↔◌, inl, inr, Bool, true, false, refl, IsTrue, IsOkAnd, IfOk, Result, Ok, Err, sym, subst, ◌∙◌, arith}
use Rattle.sqlite.{specs.{Effect.{Database, IsDatabase}, Tree.{Trees}, State.{State, HasCleanDisk, Survives}}, proofs.StateLemmas.{survives_then}}
use Rattle.table_access.specs.{Unit.{Begins, IsLeft, IsOver}, declared.StoreFault.{StoreFault}, Calls.{CallsTablesBetween, KeepsLastCommit, GoesOn}}
use Rattle.table_access.{specs.Durability.{HoldsDurably, HoldsEither}, proofs.CallLemmas.{IsLeft-KeepsLastCommit}}
use Rattle.table_access.proofs.EndLemmas.{begins, commits, HoldsEither-refused_commit, HoldsDurably-HoldsEither}
use Rattle.broker_database.specs.Ends.{IsAsBefore, IsUnchangedUnless, AddsNoCrashState, CommitsAtMostOnce, LeavesNoTransaction}
use Rattle.broker_database.specs.Transaction.{Finishes, Concludes, EndsOrFails, worst, conclusion}
use Rattle.table_access.specs.declared.StoreFault.TheVariants as fault

IsLeft-ended : (old new : State) → IsLeft old new → old.in_transaction ≡ false → old.now ≡ old.committed → IsTrue new.is_open → (new.in_transaction ≡ false) × (new.now ≡ new.committed)
IsLeft-ended old new (inl same) outside settled now = (same.0.mode ∙ outside, same.0.now_is ∙ settled ∙ sym same.0.committed_is)
IsLeft-ended old new (inr back) outside settled now = (back.autocommit, (back.undone now).0 ∙ sym (back.undone now).1)

-- and if none was open KeepsLastCommit-before_end, none is
pub IsOver-of_left : (old new : State) → IsLeft old new → IsOver old → IsOver new
IsOver-of_left old new it over now =
    let was = over ((IsLeft-KeepsLastCommit old new it).was_open now) in
    IsLeft-ended old new it was.0 was.1 now

-- after its end no transaction is open
pub IsOver-of_finished : (done new : State) (keeps : Bool) (ended : Result (Unit {0}) StoreFault) → Finishes done new keeps ended → HasCleanDisk new → IsOver new
IsOver-of_finished done new true (Ok u) it clean now = let commit = it.committed clean refl in (commit.0.mode, commit.0.now_is ∙ sym commit.0.committed_is)
IsOver-of_finished done new false ended it clean now = (it.over clean (inl refl)).1 now
IsOver-of_finished done new true (Err f) it clean now = (it.over clean (inr refl)).1 now

-- the transaction isn't begun
pub IsAsBefore-not_begun : (old new : State) → IsLeft old new → Survives old new (λ _. ⊥) → HasCleanDisk new → IsAsBefore old new
IsAsBefore-not_begun old new it s clean = record {
  commit = IsLeft-KeepsLastCommit old new it;
  left = λ trees may. elim (s.crash clean trees may) [ inl KeepsLastCommit-before_end ↦ KeepsLastCommit-before_end | inr never ↦ absurd never ];
  ended = IsLeft-ended old new it;
}

module _ {A : Type 0} (old mid done : State) (r : Result A StoreFault) (X : A → Type 0) (begun : Begins old mid) (s : Survives old mid (λ _. ⊥)) (work : CallsTablesBetween mid done r X) (clean : HasCleanDisk done) where
  -- nothing is committed in the transaction
  KeepsLastCommit-before_end : KeepsLastCommit old done
  KeepsLastCommit-before_end = let it = work.commits clean begun.1.mode in record { was_open = λ _. begun.1.was_open; committed = λ now. it.committed now ∙ begun.1.committed_is }

  -- what a crash leaves KeepsLastCommit-before_end the end, it left KeepsLastCommit-before_end the transaction
  AddsNoCrashState-before_end : AddsNoCrashState old done
  AddsNoCrashState-before_end trees may = elim (work.survives.crash clean trees may) [
    | inl mids ↦ elim (s.crash (omega (arith, work.survives.clean, clean)) trees mids) [ inl olds ↦ olds | inr never ↦ absurd never ]
    | inr outside ↦ absurd (let inside = begun.1.mode in cc)
  ]

  -- it ends with nothing committed
  pub KeepsLastCommit-over_end : (new : State) → KeepsLastCommit done new → KeepsLastCommit old new
  KeepsLastCommit-over_end new it = record { was_open = λ now. KeepsLastCommit-before_end.was_open (it.was_open now); committed = λ now. it.committed now ∙ KeepsLastCommit-before_end.committed (it.was_open now) }

  pub AddsNoCrashState-over_end : (new : State) → HasCleanDisk new → Survives done new (λ _. ⊥) → AddsNoCrashState old new
  AddsNoCrashState-over_end new now_clean t trees may = elim (t.crash now_clean trees may) [ inl dones ↦ AddsNoCrashState-before_end trees dones | inr never ↦ absurd never ]

  -- it is rolled back
  pub IsAsBefore-rolled_back : (new : State) → (IsTrue new.is_open → (new.in_transaction ≡ false) × (new.now ≡ new.committed)) → KeepsLastCommit done new → HasCleanDisk new → Survives done new (λ _. ⊥) → IsAsBefore old new
  IsAsBefore-rolled_back new ended it now_clean t = record { commit = KeepsLastCommit-over_end new it; left = AddsNoCrashState-over_end new now_clean t; ended = λ _ _. ended }

-- what was kept still is
pub HoldsDurably-as_before : (P : Database → Type 0) (old new : State) → IsAsBefore old new → HoldsDurably P old → HoldsDurably P new
HoldsDurably-as_before P old new it keeps = record {
  held = λ now.
      let was = keeps.held (it.commit.was_open now) in
      let same = it.commit.committed now in
      let over = it.ended was.autocommit was.same now in
      record { autocommit = over.0; same = over.1; sound = subst IsDatabase (sym same) was.sound; has = subst P (sym same) was.has };
  left = λ trees may. keeps.left trees (it.left trees may);
}

-- ---- what calls leave of the connection, one after another, for all that they commit

-- a connection on which nothing is called survives
pub Survives-refl : {P : Trees → Type 0} (c : State) → Survives c c P
Survives-refl {P} c = record { clean = omega arith; shield = λ h. h; counts = omega arith; limit = refl; closes = λ _ h. inl h; crash = λ _ db h. inl h }

-- and is as it was
pub IsAsBefore-refl : (c : State) → IsAsBefore c c
IsAsBefore-refl c = record { commit = record { was_open = λ is_open. is_open; committed = λ _. refl }; left = λ trees may. may; ended = λ autocommit same _. (autocommit, same) }

-- a crash leaves what it left, or more
pub Survives-weaker : {P Q : Trees → Type 0} (a b : State) → ((trees : Trees) → P trees → Q trees) → Survives a b P → Survives a b Q
Survives-weaker a b f s = record {
  clean = s.clean;
  shield = s.shield;
  counts = s.counts;
  limit = s.limit;
  closes = s.closes;
  crash = λ clean trees may. elim (s.crash clean trees may) [ inl was ↦ inl was | inr is ↦ inr (f trees is) ];
}

-- if nothing is committed, no more is left by a crash, and there is one commit at most
pub AddsNoCrashState-of_survives : (a b : State) → Survives a b (λ _. ⊥) → HasCleanDisk b → AddsNoCrashState a b
AddsNoCrashState-of_survives a b s clean trees may = elim (s.crash clean trees may) [ inl was ↦ was | inr never ↦ absurd never ]

pub CommitsAtMostOnce-of_survives : (a b : State) → Survives a b (λ _. ⊥) → CommitsAtMostOnce a b
CommitsAtMostOnce-of_survives a b s = (a.now.trees, Survives-weaker a b (λ trees never. absurd never) s)

-- ---- a whole transaction: begun, worked in, and committed or rolled back

pub record IsTransaction {A : Type 0} (old mid done new : State) (r : Result A StoreFault) (X Keeps : A → Type 0) (keeps : Bool) (ended : Result (Unit {0}) StoreFault) : Type 0 where
  pub begun : HasCleanDisk mid → Begins old mid
  pub begins : Survives old mid (λ _. ⊥)
  pub works : CallsTablesBetween mid done r X
  pub kept : IsTrue keeps ↔ IsOkAnd r Keeps
  pub ends : Finishes done new keeps ended

module _ {A : Type 0} (old mid done new : State) (r : Result A StoreFault) (X Keeps : A → Type 0) (keeps : Bool) (ended : Result (Unit {0}) StoreFault) (t : IsTransaction old mid done new r X Keeps keeps ended) where
  -- nothing is committed KeepsLastCommit-before_end the end
  Survives-before_end : Survives old done (λ _. ⊥)
  Survives-before_end = survives_then old mid done (λ _. ⊥) _ (λ _. ⊥) (λ _ db never. never) (λ clean db outside.
      let mid_clean : HasCleanDisk mid = omega (arith, t.works.survives.clean, clean) in
      let inside = (t.begun mid_clean).1.mode in
      absurd (cc)) t.begins t.works.survives

  -- so there is one commit at most, and none if nothing is kept
  pub CommitsAtMostOnce-transaction : CommitsAtMostOnce old new
  CommitsAtMostOnce-transaction = (done.now.trees, survives_then old done new _ _ _ (λ _ db never. absurd never) (λ _ db is. is.1) Survives-before_end t.ends.survives)

  pub Survives-nothing_kept : keeps ≡ false → Survives old new (λ _. ⊥)
  Survives-nothing_kept unkept = survives_then old done new _ _ _ (λ _ db never. never) (λ _ db is. absurd (let kept = is.0 in cc)) Survives-before_end t.ends.survives

  HasCleanDisk-before_end : HasCleanDisk new → HasCleanDisk done
  HasCleanDisk-before_end clean = omega (arith, t.ends.survives.clean, clean)

  Begins-of_clean : HasCleanDisk new → Begins old mid
  Begins-of_clean clean =
      let worked : HasCleanDisk done = HasCleanDisk-before_end clean in
      let mid_clean : HasCleanDisk mid = omega (arith, t.works.survives.clean, worked) in
      t.begun mid_clean

  -- what was held is HoldsDurably-seen by the work
  HoldsDurably-seen : HasCleanDisk new → (P : Database → Type 0) → HoldsDurably P old → P mid.now
  HoldsDurably-seen clean P holds = begins P old mid (Begins-of_clean clean) holds

  pub Begins-opened : HasCleanDisk new → IsTrue old.is_open × (mid.now ≡ old.now)
  Begins-opened clean = let begun = Begins-of_clean clean in (begun.1.was_open, begun.1.now_is)

  -- it is rolled back
  IsAsBefore-nothing_kept : HasCleanDisk new → keeps ≡ false → IsAsBefore old new
  IsAsBefore-nothing_kept clean unkept =
      let over = t.ends.over clean (inl unkept) in
      IsAsBefore-rolled_back old mid done r X (Begins-of_clean clean) t.begins t.works (HasCleanDisk-before_end clean) new over.1 over.0 clean (Survives-weaker done new (λ trees is. absurd (let kept = is.0 in cc)) t.ends.survives)

  -- the commit is HoldsEither-refused_commit, after work that went well
  unsure : HasCleanDisk new → (P Q : Database → Type 0) → HoldsDurably P old → IsTrue keeps → is_ok ended ≡ false → (HasCleanDisk done → IsTrue mid.in_transaction → GoesOn mid done) → Q done.now → HoldsEither P Q new
  unsure clean P Q holds is_kept undone on has =
      let begun = Begins-of_clean clean in
      HoldsEither-refused_commit P old mid done r X holds begun t.begins t.works (HasCleanDisk-before_end clean) new Q ((on (HasCleanDisk-before_end clean) begun.1.mode).1 begun.1.is_open) (t.ends.live is_kept) t.ends.settled (t.ends.over clean (inr undone)).0 clean
      (Survives-weaker done new (λ trees is. is.1) t.ends.survives) has

  -- if the end was HoldsEither-refused_commit, by any fault, the last commit is the old one
  KeepsLastCommit-end_refused : HasCleanDisk new → is_ok ended ≡ false → KeepsLastCommit old new
  KeepsLastCommit-end_refused clean undone = KeepsLastCommit-over_end old mid done r X (Begins-of_clean clean) t.begins t.works (HasCleanDisk-before_end clean) new (t.ends.over clean (inr undone)).0

module _ {A : Type 0} (old mid done new : State) (X Keeps : A → Type 0) where
  -- a commit is HoldsEither-refused_commit as Store
  IsTransaction-commit_not_memory : (r : Result A StoreFault) → IsTransaction old mid done new r X Keeps true (Err fault.Memory) → ⊥
  IsTransaction-commit_not_memory r t = let clash = t.ends.unsure refl in cc

  -- if nothing is to be kept, a failure leaves what was there
  module _ (r : Result A StoreFault) (ended : Result (Unit {0}) StoreFault) (t : IsTransaction old mid done new r X Keeps false ended) (clean : HasCleanDisk new) where
    undone_ends : (P Q : Database → Type 0) (Answers : A → Type 0) → HoldsDurably P old → (f : StoreFault) → EndsOrFails P Q Answers new (Err f)
    undone_ends P Q Answers holds fault.Memory = HoldsDurably-as_before P old new (IsAsBefore-nothing_kept old mid done new r _ _ false ended t clean refl) holds
    undone_ends P Q Answers holds fault.Store = HoldsDurably-HoldsEither P Q new (HoldsDurably-as_before P old new (IsAsBefore-nothing_kept old mid done new r _ _ false ended t clean refl) holds)

    undone_unchanged : (f : StoreFault) → IsUnchangedUnless Keeps old new (Err f)
    undone_unchanged fault.Memory = IsAsBefore-nothing_kept old mid done new r _ _ false ended t clean refl
    undone_unchanged fault.Store = (IsAsBefore-nothing_kept old mid done new r _ _ false ended t clean refl).commit

  -- what it leaves of a connection that held a database of the kind P, and what it is answered by: from what is done
  -- KeepsLastCommit-before_end a commit, from the commit, and from that nothing has changed
  ends : (P Q : Database → Type 0) (Answers : A → Type 0) (r : Result A StoreFault) (keeps : Bool) (ended : Result (Unit {0}) StoreFault) → IsTransaction old mid done new r X Keeps keeps ended → HasCleanDisk new → HoldsDurably P old
      → ((a : A) → P mid.now → X a → Keeps a → Q done.now)
      → ((a : A) → P mid.now → X a → Keeps a → ((R : Database → Type 0) → R done.now → HoldsDurably R new) → Answers a)
      → ((a : A) → P mid.now → X a → ¬ (Keeps a) → HoldsDurably P new → Answers a)
      → EndsOrFails P Q Answers new (conclusion r ended)
  ends P Q Answers (Ok a) true (Ok u) t clean holds next kept undone =
      kept a (HoldsDurably-seen old mid done new (Ok a) _ _ true (Ok u) t clean P holds) (t.works.ok (HasCleanDisk-before_end old mid done new (Ok a) _ _ true (Ok u) t clean)) (t.kept.0 refl)
      (λ R has. commits R done new (t.ends.committed clean refl) (t.ends.live refl) t.ends.settled has)
  ends P Q Answers (Ok a) true (Err fault.Store) t clean holds next kept undone =
      unsure old mid done new (Ok a) _ _ true (Err fault.Store) t clean P Q holds refl refl t.works.goes_on
      (next a (HoldsDurably-seen old mid done new (Ok a) _ _ true (Err fault.Store) t clean P holds) (t.works.ok (HasCleanDisk-before_end old mid done new (Ok a) _ _ true (Err fault.Store) t clean)) (t.kept.0 refl))
  ends P Q Answers (Ok a) true (Err fault.Memory) t clean holds next kept undone = absurd (IsTransaction-commit_not_memory (Ok a) t)
  ends P Q Answers (Ok a) false (Ok u) t clean holds next kept undone =
      undone a (HoldsDurably-seen old mid done new (Ok a) _ _ false (Ok u) t clean P holds) (t.works.ok (HasCleanDisk-before_end old mid done new (Ok a) _ _ false (Ok u) t clean)) (λ is. let yes = t.kept.1 is in cc)
      (HoldsDurably-as_before P old new (IsAsBefore-nothing_kept old mid done new (Ok a) _ _ false (Ok u) t clean refl) holds)
  ends P Q Answers (Err f) false (Ok u) t clean holds next kept undone = undone_ends (Err f) (Ok u) t clean P Q Answers holds f
  ends P Q Answers (Err f) true ended t clean holds next kept undone = absurd (t.kept.0 refl)
  ends P Q Answers r false (Err f) t clean holds next kept undone = undone_ends r (Err f) t clean P Q Answers holds (worst r f)

  IsUnchangedUnless-of_parts : (r : Result A StoreFault) (keeps : Bool) (ended : Result (Unit {0}) StoreFault) → IsTransaction old mid done new r X Keeps keeps ended → HasCleanDisk new → IsUnchangedUnless Keeps old new (conclusion r ended)
  IsUnchangedUnless-of_parts (Ok a) true (Ok u) t clean = λ undone. absurd (undone (t.kept.0 refl))
  IsUnchangedUnless-of_parts (Ok a) true (Err fault.Store) t clean = KeepsLastCommit-end_refused old mid done new (Ok a) _ _ true (Err fault.Store) t clean refl
  IsUnchangedUnless-of_parts (Ok a) true (Err fault.Memory) t clean = absurd (IsTransaction-commit_not_memory (Ok a) t)
  IsUnchangedUnless-of_parts (Ok a) false (Ok u) t clean = λ _. IsAsBefore-nothing_kept old mid done new (Ok a) _ _ false (Ok u) t clean refl
  IsUnchangedUnless-of_parts (Err f) false (Ok u) t clean = undone_unchanged (Err f) (Ok u) t clean f
  IsUnchangedUnless-of_parts (Err f) true ended t clean = absurd (t.kept.0 refl)
  IsUnchangedUnless-of_parts r false (Err f) t clean = undone_unchanged r (Err f) t clean (worst r f)

  -- an answer is that of the work, on what was there KeepsLastCommit-before_end
  IfOk-of_parts : (r : Result A StoreFault) (keeps : Bool) (ended : Result (Unit {0}) StoreFault) → IsTransaction old mid done new r X Keeps keeps ended → HasCleanDisk new → IfOk (conclusion r ended) (λ a. IsTrue old.is_open × (mid.now ≡ old.now) × X a)
  IfOk-of_parts (Ok a) keeps (Ok u) t clean = let is = Begins-opened old mid done new (Ok a) _ _ keeps (Ok u) t clean in (is.0, is.1, t.works.ok (HasCleanDisk-before_end old mid done new (Ok a) _ _ keeps (Ok u) t clean))
  IfOk-of_parts (Err f) keeps (Ok u) t clean = tt
  IfOk-of_parts r keeps (Err f) t clean = tt

  -- what is kept is committed
  IfOk-kept_of_parts : (r : Result A StoreFault) (keeps : Bool) (ended : Result (Unit {0}) StoreFault) → IsTransaction old mid done new r X Keeps keeps ended → HasCleanDisk new → (R : Database → Type 0) → ((a : A) → X a → Keeps a → R done.now)
      → IfOk (conclusion r ended) (λ a. Keeps a → HoldsDurably R new)
  IfOk-kept_of_parts (Ok a) true (Ok u) t clean R has =
      λ is. commits R done new (t.ends.committed clean refl) (t.ends.live refl) t.ends.settled (has a (t.works.ok (HasCleanDisk-before_end old mid done new (Ok a) _ _ true (Ok u) t clean)) is)
  IfOk-kept_of_parts (Ok a) false (Ok u) t clean R has = λ is. absurd (let yes = t.kept.1 is in cc)
  IfOk-kept_of_parts (Err f) keeps (Ok u) t clean R has = tt
  IfOk-kept_of_parts r keeps (Err f) t clean R has = tt

  -- if nothing that the work may return on what was there is kept, nothing is committed
  AddsNoCrashState-of_parts : (r : Result A StoreFault) (keeps : Bool) (ended : Result (Unit {0}) StoreFault) → IsTransaction old mid done new r X Keeps keeps ended → ((a : A) → mid.now ≡ old.now → X a → ¬ (Keeps a)) → HasCleanDisk new → AddsNoCrashState old new
  AddsNoCrashState-of_parts r false ended t never clean = AddsNoCrashState-of_survives old new (Survives-nothing_kept old mid done new r _ _ false ended t refl) clean
  AddsNoCrashState-of_parts (Err f) true ended t never clean = absurd (t.kept.0 refl)
  AddsNoCrashState-of_parts (Ok a) true ended t never clean =
      absurd (never a (Begins-opened old mid done new (Ok a) _ _ true ended t clean).1 (t.works.ok (HasCleanDisk-before_end old mid done new (Ok a) _ _ true ended t clean)) (t.kept.0 refl))

  -- what is HoldsDurably-seen then is what was HoldsDurably-seen KeepsLastCommit-before_end, or what the work left
  now-of_parts : (r : Result A StoreFault) (keeps : Bool) (ended : Result (Unit {0}) StoreFault) → IsTransaction old mid done new r X Keeps keeps ended → HasCleanDisk new → old.now ≡ old.committed → IsTrue new.is_open
      → (new.now ≡ old.now) ⊎ ((a : A) × X a × (mid.now ≡ old.now) × (new.now ≡ done.now))
  now-of_parts (Ok a) true (Ok u) t clean settled now =
      inr (a, t.works.ok (HasCleanDisk-before_end old mid done new (Ok a) _ _ true (Ok u) t clean), (Begins-opened old mid done new (Ok a) _ _ true (Ok u) t clean).1, (t.ends.committed clean refl).0.now_is)
  now-of_parts r true (Err f) t clean settled now = inl (((t.ends.over clean (inr refl)).1 now).1 ∙ (KeepsLastCommit-end_refused old mid done new r _ _ true (Err f) t clean refl).committed now ∙ sym settled)
  now-of_parts (Err f) true (Ok u) t clean settled now = absurd (t.kept.0 refl)
  now-of_parts r false ended t clean settled now =
      inl (((t.ends.over clean (inl refl)).1 now).1 ∙ (IsAsBefore-nothing_kept old mid done new r _ _ false ended t clean refl).commit.committed now ∙ sym settled)

-- one that was begun, worked in and concluded so
pub record WholeTransaction {A : Type 0} (old mid done new : State) (X Keeps : A → Type 0) (result : Result A StoreFault) : Type 0 where
  pub worked : Result A StoreFault
  pub keeps : Bool
  pub begun : HasCleanDisk mid → Begins old mid
  pub begins : Survives old mid (λ _. ⊥)
  pub works : CallsTablesBetween mid done worked X
  pub kept : IsTrue keeps ↔ IsOkAnd worked Keeps
  pub concludes : Concludes done new keeps worked result

module _ {A : Type 0} (old mid done new : State) (X Keeps : A → Type 0) (result : Result A StoreFault) (t : WholeTransaction old mid done new X Keeps result) where
  -- in its IsTransaction-of_whole
  pub IsTransaction-of_whole : IsTransaction old mid done new t.worked X Keeps t.keeps t.concludes.ended
  IsTransaction-of_whole = record { begun = t.begun; begins = t.begins; works = t.works; kept = t.kept; ends = t.concludes.ends }

  pub EndsOrFails-transaction : (P Q : Database → Type 0) (Answers : A → Type 0) → HasCleanDisk new → HoldsDurably P old
      → ((a : A) → P mid.now → X a → Keeps a → Q done.now)
      → ((a : A) → P mid.now → X a → Keeps a → ((R : Database → Type 0) → R done.now → HoldsDurably R new) → Answers a)
      → ((a : A) → P mid.now → X a → ¬ (Keeps a) → HoldsDurably P new → Answers a)
      → EndsOrFails P Q Answers new result
  EndsOrFails-transaction P Q Answers clean holds next kept undone =
      subst (EndsOrFails P Q Answers new) (sym t.concludes.answer) (ends old mid done new X Keeps P Q Answers t.worked t.keeps t.concludes.ended IsTransaction-of_whole clean holds next kept undone)

  pub IsUnchangedUnless-transaction : HasCleanDisk new → IsUnchangedUnless Keeps old new result
  IsUnchangedUnless-transaction clean = subst (IsUnchangedUnless Keeps old new) (sym t.concludes.answer) (IsUnchangedUnless-of_parts old mid done new X Keeps t.worked t.keeps t.concludes.ended IsTransaction-of_whole clean)

  pub IfOk-transaction : HasCleanDisk new → IfOk result (λ a. IsTrue old.is_open × (mid.now ≡ old.now) × X a)
  IfOk-transaction clean = subst (λ (r : Result A StoreFault). IfOk r (λ a. IsTrue old.is_open × (mid.now ≡ old.now) × X a)) (sym t.concludes.answer) (IfOk-of_parts old mid done new X Keeps t.worked t.keeps t.concludes.ended IsTransaction-of_whole clean)

  pub IfOk-kept : HasCleanDisk new → (R : Database → Type 0) → ((a : A) → X a → Keeps a → R done.now) → IfOk result (λ a. Keeps a → HoldsDurably R new)
  IfOk-kept clean R has = subst (λ (r : Result A StoreFault). IfOk r (λ a. Keeps a → HoldsDurably R new)) (sym t.concludes.answer) (IfOk-kept_of_parts old mid done new X Keeps t.worked t.keeps t.concludes.ended IsTransaction-of_whole clean R has)

  pub now-after_transaction : HasCleanDisk new → old.now ≡ old.committed → IsTrue new.is_open → (new.now ≡ old.now) ⊎ ((a : A) × X a × (mid.now ≡ old.now) × (new.now ≡ done.now))
  now-after_transaction = now-of_parts old mid done new X Keeps t.worked t.keeps t.concludes.ended IsTransaction-of_whole

  pub AddsNoCrashState-transaction : ((a : A) → mid.now ≡ old.now → X a → ¬ (Keeps a)) → HasCleanDisk new → AddsNoCrashState old new
  AddsNoCrashState-transaction = AddsNoCrashState-of_parts old mid done new X Keeps t.worked t.keeps t.concludes.ended IsTransaction-of_whole

  pub Begins-transaction : HasCleanDisk new → Begins old mid
  Begins-transaction = Begins-of_clean old mid done new t.worked _ _ t.keeps t.concludes.ended IsTransaction-of_whole

  pub LeavesNoTransaction-transaction : LeavesNoTransaction old new
  LeavesNoTransaction-transaction clean was = IsOver-of_finished done new t.keeps t.concludes.ended t.concludes.ends clean

  pub CommitsAtMostOnce-whole : CommitsAtMostOnce old new
  CommitsAtMostOnce-whole = CommitsAtMostOnce-transaction old mid done new t.worked _ _ t.keeps t.concludes.ended IsTransaction-of_whole

  -- nothing is committed KeepsLastCommit-before_end its end
  pub Survives-before_whole_end : Survives old done (λ _. ⊥)
  Survives-before_whole_end = Survives-before_end old mid done new t.worked _ _ t.keeps t.concludes.ended IsTransaction-of_whole

-- ---- one that wasn't begun

pub LeavesNoTransaction-unbegun : (old new : State) → (HasCleanDisk new → IsLeft old new) → LeavesNoTransaction old new
LeavesNoTransaction-unbegun old new HoldsEither-refused_commit clean = IsOver-of_left old new (HoldsEither-refused_commit clean)

module _ {A : Type 0} (old new : State) (why : StoreFault) (HoldsEither-refused_commit : HasCleanDisk new → IsLeft old new) (begins : Survives old new (λ _. ⊥)) where
  pub EndsOrFails-unbegun : (P Q : Database → Type 0) (Answers : A → Type 0) → HasCleanDisk new → HoldsDurably P old → EndsOrFails P Q Answers new (Err why)
  EndsOrFails-unbegun P Q Answers clean holds = by why
    where
      kept : HoldsDurably P new
      kept = HoldsDurably-as_before P old new (IsAsBefore-not_begun old new (HoldsEither-refused_commit clean) begins clean) holds

      by : (f : StoreFault) → EndsOrFails P Q Answers new (Err f)
      by fault.Memory = kept
      by fault.Store = HoldsDurably-HoldsEither P Q new kept

  pub IsUnchangedUnless-unbegun : (Keeps : A → Type 0) → HasCleanDisk new → IsUnchangedUnless Keeps old new (Err why)
  IsUnchangedUnless-unbegun Keeps clean = by why
    where
      is : IsAsBefore old new
      is = IsAsBefore-not_begun old new (HoldsEither-refused_commit clean) begins clean

      by : (f : StoreFault) → IsUnchangedUnless Keeps old new (Err f)
      by fault.Memory = is
      by fault.Store = is.commit
