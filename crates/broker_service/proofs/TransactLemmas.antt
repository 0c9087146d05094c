-- What the transaction of a command leaves.
use Rattle.std.proofs.Common.{◌≡◌, ◌⊎◌, ◌↔◌, ◌≤◌, inl, inr, arith, Option, Result, Ok, Err, IsOk, IfErr, IsOkAnd, Bool, IsTrue, refl, ap, sym, subst, subst₂, ◌∙◌}
use Rattle.std.proofs.lemmas.Result.{IfErr-weaker}
use Rattle.sqlite.specs.{Effect.{Database}, Held.{Held}, State.{State, HasCleanDisk, Survives}}
use Rattle.table_access.specs.{Calls.{HasFailed, GoesOn, EndsBy}, Unit.{Begins, IsLeft, FailsToBegin, RefusesCommit}, declared.StoreFault.{StoreFault}}
use Rattle.table_access.{specs.declared.StoreFault.TheVariants.{Memory, Store}, proofs.CallLemmas.{EndsBy-later_call, EndsBy-weaken}}
use Rattle.broker_core.specs.{Change.{Transition}, Contents.{HasSoundContents}, Laws.{IsDone}, Machine.{Step}, State.{State as Broker}, Text.{Text}}
use Rattle.broker_core.specs.{declared.answer.Answer.{Answer}, declared.answer.Answer.TheVariants.{Done}, declared.command.Command.{Command}}
use Rattle.broker_core.specs.SoundNames.{AreNames}
use Rattle.broker_tables.specs.{Failures.{ShowsState, HasFailedOrMemory, FailsFromBetween}, Holds.{Holds, HoldsAfter}, Room.{HasRoomFor, TakesRoom, enough}}
use Rattle.broker_tables.proofs.RoomLemmas.{TakesRoom-same}
use Rattle.command_facts.specs.{Performs.{PerformsBetween, TokensStep, IsToChange, IsMisnamed}, Primitives.{broker_primitives}}
use Rattle.broker_database.specs.{Causes.{HoldsReadable, IsToBeDone, KeepsRoom}, Ends.{HoldsNext, Steps, KeepsAtPattern}, Stored.{Stores, HoldsState}}
use Rattle.broker_database.specs.{Transaction.{Concludes, EndsFor, returned}, declared.ending.Failure.{Failure}}
use Rattle.broker_database.specs.declared.ending.Failure.TheVariants.{Call, Commit}
use Rattle.broker_database.proofs.Transaction.{WholeTransaction, EndsOrFails-transaction, IsUnchangedUnless-transaction, now-after_transaction, Begins-transaction, LeavesNoTransaction-transaction, CommitsAtMostOnce-whole, Survives-before_whole_end, EndsOrFails-unbegun, IsUnchangedUnless-unbegun, LeavesNoTransaction-unbegun, CommitsAtMostOnce-of_survives}
use Rattle.broker_database.proofs.StoreFailures.{HasFailed-of_transaction, HasFailed-of_work}
use Rattle.broker_service.specs.Transacted.{AppliesOrFails, FailsAtCommit, FailsInside, Transacted}
use Rattle.broker_service.proofs.EndLemmas.{Step-of_done, Stores-next, Steps-of_step, Steps-of_undone}
use Rattle.table_access.proofs.EndLemmas as ends

module _ (token : Option Text) (command : Command) where
  -- what the work promises of its answer
  abbrev IsPerformed : State → State → Answer → Type 0
  IsPerformed mid done answer = (s : Broker) → Holds mid.now s → (t : Broker)
      × TokensStep token command s (record { answer = answer; state = t }) × HoldsAfter enough mid done t

  -- what is done is a step
  IsPerformed-done_step : (s : Broker) (mid done : State) (answer : Answer) → Stores mid.now s → IsPerformed mid done answer → IsDone answer
      → (t : Broker) × Step broker_primitives s token command (record { answer = answer; state = t }) × Stores done.now t
  IsPerformed-done_step s mid done answer was performs is_done =
      let next = performs s was.tables in
      let step = Step-of_done s token command mid.now was (record { answer = answer; state = next.0 }) (next.1 was.contents) is_done in
      (next.0, step, Stores-next s token command mid.now was (record { answer = answer; state = next.0 }) done.now step next.2.0)

  AppliesOrFails-of_transaction : (old mid done new : State) (result : Result Answer StoreFault) → WholeTransaction old mid done new (IsPerformed mid done) IsDone result
      → HasCleanDisk new → (s : Broker) → HoldsState s old → AppliesOrFails s token command new result
  AppliesOrFails-of_transaction old mid done new result t clean s holds =
      EndsOrFails-transaction old mid done new _ _ result t (λ db. Stores db s) (HoldsNext s token command) (λ answer. Steps s token command new answer ⊎ KeepsAtPattern s token command new answer) clean holds
      (λ answer was performs is_done. let it = IsPerformed-done_step s mid done answer was performs is_done in (answer, it.0, it.1, it.2))
      (λ answer was performs is_done commit. let it = IsPerformed-done_step s mid done answer was performs is_done in Steps-of_step s token command mid.now was answer it.0 new it.1 (commit (λ db. Stores db it.0) it.2))
      (λ answer was performs undone kept. let next = performs s was.tables in Steps-of_undone s token command mid.now was (record { answer = answer; state = next.0 }) new (next.1 was.contents) undone kept)

  -- what a refused change was to do is to be done
  IsToBeDone-of_change : (s : Broker) (db : Database) → Stores db s → IsToChange (TokensStep token command) s → IsToBeDone s token command
  IsToBeDone-of_change s db was change =
      let out : Transition = record { answer = Done change.0; state = change.1 } in
      (out, tt, Step-of_done s token command db was out (change.2 was.contents) tt)

  -- if BEGIN was refused, no transaction was open
  HasFailed-at_begin : (s : Broker) (old new : State) (fault : StoreFault) → HoldsState s old → FailsToBegin old new fault → HasFailed old new fault
  HasFailed-at_begin s old new fault holds (ran, inl failed) = failed
  HasFailed-at_begin s old new fault holds (ran, inr within) = absurd (let outside = (holds.held within.1.0.was_open).autocommit in let inside = within.0 in cc)

  -- a result that is done is an answer
  IsOk-of_done : (r : Result Answer StoreFault) → IsOkAnd r IsDone → IsOk r
  IsOk-of_done (Ok answer) is = refl
  IsOk-of_done (Err fault) is = absurd is

  IfErr-of_ok : (P : StoreFault → Type 0) (r : Result Answer StoreFault) → IsOk r → IfErr r P
  IfErr-of_ok P (Ok answer) is = tt
  IfErr-of_ok P (Err fault) is = absurd (cc)

  -- and nothing changed
  now-unchanged_unbegun : {s : Broker} (old new : State) → HoldsState s old → IsLeft old new → IsTrue new.is_open → new.now ≡ old.now
  now-unchanged_unbegun old new holds (inl same) now = same.0.now_is
  now-unchanged_unbegun old new holds (inr back) now = (back.undone now).0 ∙ sym (holds.held (back.was_open now)).same

  -- at most the numbers of a command are taken
  KeepsRoom-of_transaction : (old mid done new : State) (result : Result Answer StoreFault) → WholeTransaction old mid done new (IsPerformed mid done) IsDone result → HasCleanDisk new → (s : Broker) → HoldsState s old → KeepsRoom old new
  KeepsRoom-of_transaction old mid done new result t clean s holds now =
      let begun = Begins-transaction old mid done new _ _ result t clean in
      let was : Stores mid.now s = ends.begins (λ db. Stores db s) old mid begun holds in
      elim (now-after_transaction old mid done new _ _ result t clean (holds.held begun.1.was_open).same now) [
        | inl same ↦ TakesRoom-same enough old.now new.now same
        | inr left ↦ subst₂ (TakesRoom enough) left.2 (sym left.3) (left.1 s was.tables).2.1
      ]

  module _ {X : Type 0} (shown : Held X → State) where
    module _ (old mid done new : Held X) (result : Result Answer Failure) (t : WholeTransaction (shown old) (shown mid) (shown done) (shown new) (IsPerformed (shown mid) (shown done)) IsDone (returned result)) (clean : HasCleanDisk (shown new)) (s : Broker) (ready : HoldsReadable s (shown old)) where
      begun_there : Begins (shown old) (shown mid)
      begun_there = Begins-transaction (shown old) (shown mid) (shown done) (shown new) _ _ (returned result) t clean

      was : Stores (shown mid).now s
      was = ends.begins (λ db. Stores db s) (shown old) (shown mid) begun_there ready.held

      worked_clean : HasCleanDisk (shown done)
      worked_clean = omega (arith, t.concludes.ends.survives.clean, clean)

      -- the last commit is still of that state
      last : IsTrue (shown done).is_open → Stores (shown done).committed s
      last now = subst (λ db. Stores db s) (sym ((t.works.commits worked_clean begun_there.1.mode).committed now ∙ begun_there.1.committed_is)) (ready.held.held begun_there.1.was_open).has

      -- what a refused change was to do is to be done
      work_fails : AreNames command → (fault : StoreFault) → HasFailedOrMemory (shown mid) (shown done) fault ⊎ (IsToChange (TokensStep token command) s × (HasRoomFor enough (shown mid).now → EndsBy (IsMisnamed command) (shown mid) (shown done) fault)) → fault ≡ Store
          → HasFailed (shown mid) (shown done) fault ⊎ FailsInside s token command (shown old) (shown new)
      work_fails named fault (inl (inl failed)) is = inl failed
      work_fails named fault (inl (inr memory)) is = absurd (let clash : Memory ≡ Store = sym memory ∙ is in cc)
      work_fails named fault (inr (change, ended)) is =
          inr (
            IsToBeDone-of_change s (shown mid).now was change,
            λ room.
                let failed = EndsBy-weaken (shown mid) (shown done) fault (λ long. long named) (ended (subst (HasRoomFor enough) (sym begun_there.1.now_is) room)) in
                HasFailed-of_work (shown old) (shown mid) (shown done) (shown new) _ _ clean (returned result) t Store (subst (HasFailed (shown mid) (shown done)) is failed),
          )

      -- and what was done isn't kept
      not_kept : (answer : Answer) → IsPerformed (shown mid) (shown done) answer → IsDone answer → GoesOn (shown mid) (shown done) → (fault : StoreFault) → RefusesCommit shown done new fault → HasFailed (shown old) (shown new) Store ⊎ FailsAtCommit shown s token command old new fault
      not_kept answer performs is_done on Store refused =
          inl (EndsBy-later_call (shown old) (shown done) (shown new) Store (on.0, λ _. on.1 begun_there.1.is_open) (let up : (shown old).faults ≤ (shown done).faults = omega (arith, t.begins.counts, t.works.survives.counts) in up) (refused.failed on.0))
      not_kept answer performs is_done on Memory refused =
          let next = IsPerformed-done_step s (shown mid) (shown done) answer was performs is_done in
          inr (
            refl,
            (record { answer = answer; state = next.0 }, is_done, next.1),
            record {
              worked = done;
              inside = on.0;
              survives = Survives-before_whole_end (shown old) (shown mid) (shown done) (shown new) _ _ (returned result) t;
              last = last (on.1 begun_there.1.is_open);
              next = (answer, next.0, next.1, next.2);
              refused = refused;
            },
          )

      module _ (refused : IfErr result (EndsFor shown t.keeps t.worked done new)) where
        -- why a call is IfOk-told_conclusion Store
        by_call : AreNames command → FailsFromBetween (shown mid) (shown done) t.worked (IsMisnamed command) (HasSoundContents broker_primitives) (IsToChange (TokensStep token command))
            → result ≡ Err (Call Store) → HasFailed (shown old) (shown new) Store ⊎ FailsInside s token command (shown old) (shown new)
        by_call named why is =
            let served : ShowsState (shown mid) s = record { inside = begun_there.1.mode; unlimited = t.begins.limit ∙ ready.unlimited; held = was.tables; readable = ready.readable } in
            let none : EndsFor shown t.keeps t.worked done new (Call Store) = subst (λ (r : Result Answer Failure). IfErr r (EndsFor shown t.keeps t.worked done new)) is refused in
            HasFailed-of_transaction (shown old) (shown mid) (shown done) (shown new) _ _ (FailsInside s token command (shown old) (shown new)) clean (returned result) t
            (IfErr-weaker t.worked _ _ (λ fault it store. work_fails named fault it store) (why worked_clean s served was.contents))
            (λ answer performs is_done kept on. absurd (none kept (IsOk-of_done t.worked (t.kept.0 kept)))) (ap returned is)

        -- why COMMIT was refused
        by_commit : (fault : StoreFault) → result ≡ Err (Commit fault) → HasFailed (shown old) (shown new) Store ⊎ FailsAtCommit shown s token command old new fault
        by_commit fault is =
            let refusal : EndsFor shown t.keeps t.worked done new (Commit fault) = subst (λ (r : Result Answer Failure). IfErr r (EndsFor shown t.keeps t.worked done new)) is refused in
            HasFailed-of_transaction (shown old) (shown mid) (shown done) (shown new) _ _ (FailsAtCommit shown s token command old new fault) clean (returned result) t
            (IfErr-of_ok (λ f. f ≡ Store → HasFailed (shown mid) (shown done) f ⊎ FailsAtCommit shown s token command old new fault) t.worked (IsOk-of_done t.worked (t.kept.0 refusal.0)))
            (λ answer performs is_done kept on. not_kept answer performs is_done on fault refusal.1) (ap returned is)

    pub transacted : (old mid done new : Held X) (worked : Result Answer StoreFault) (result : Result Answer Failure) (keeps : Bool) → (HasCleanDisk (shown mid) → Begins (shown old) (shown mid)) → Survives (shown old) (shown mid) (λ _. ⊥)
        → PerformsBetween (shown mid) (shown done) (TokensStep token command) worked
        → FailsFromBetween (shown mid) (shown done) worked (IsMisnamed command) (HasSoundContents broker_primitives) (IsToChange (TokensStep token command)) → (IsTrue keeps ↔ IsOkAnd worked IsDone) → Concludes (shown done) (shown new) keeps worked (returned result)
        → (HasCleanDisk (shown new) → IfErr result (EndsFor shown keeps worked done new)) → Transacted shown token command old new result
    transacted old mid done new worked result keeps begun begins works failure kept concludes refused = record {
      ends = AppliesOrFails-of_transaction (shown old) (shown mid) (shown done) (shown new) (returned result) t;
      unchanged = IsUnchangedUnless-transaction (shown old) (shown mid) (shown done) (shown new) _ _ (returned result) t;
      failure = λ clean named s ready. by_call old mid done new result t clean s ready (refused clean) named failure;
      refused = λ clean s ready. by_commit old mid done new result t clean s ready (refused clean);
      room = KeepsRoom-of_transaction (shown old) (shown mid) (shown done) (shown new) (returned result) t;
      over = LeavesNoTransaction-transaction (shown old) (shown mid) (shown done) (shown new) _ _ (returned result) t;
      survives = CommitsAtMostOnce-whole (shown old) (shown mid) (shown done) (shown new) _ _ (returned result) t;
    }
      where
        t : WholeTransaction (shown old) (shown mid) (shown done) (shown new) (IsPerformed (shown mid) (shown done)) IsDone (returned result)
        t = record { worked = worked; keeps = keeps; begun = begun; begins = begins; works = works; kept = kept; concludes = concludes }

    -- if BEGIN was refused
    pub untransacted : (old new : Held X) (why : StoreFault) → (HasCleanDisk (shown new) → IsLeft (shown old) (shown new)) → (HasCleanDisk (shown new) → FailsToBegin (shown old) (shown new) why)
        → Survives (shown old) (shown new) (λ _. ⊥) → Transacted shown token command old new (Err (Call why))
    untransacted old new why refused cause begins = record {
      ends = λ clean s holds. EndsOrFails-unbegun (shown old) (shown new) why refused begins (λ db. Stores db s) (HoldsNext s token command) (λ answer. Steps s token command (shown new) answer ⊎ KeepsAtPattern s token command (shown new) answer) clean holds;
      unchanged = IsUnchangedUnless-unbegun (shown old) (shown new) why refused begins IsDone;
      failure = λ clean named s ready is. let same : why ≡ Store = (let h = is in cc) in inl (subst (HasFailed (shown old) (shown new)) same (HasFailed-at_begin s (shown old) (shown new) why ready.held (cause clean)));
      refused = λ clean s ready fault is. absurd (let h = is in cc);
      room = λ clean s holds now. TakesRoom-same enough (shown old).now (shown new).now (now-unchanged_unbegun (shown old) (shown new) holds (refused clean) now);
      over = LeavesNoTransaction-unbegun (shown old) (shown new) refused;
      survives = CommitsAtMostOnce-of_survives (shown old) (shown new) begins;
    }
