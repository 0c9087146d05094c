-- What the three texts mean, under any schema.
use Rattle.std.{specs.Prelude.{⊤}, proofs.Common.{◌≡◌, ◌⊎◌, inl, inr, List, [], ℕ, codes, true, false, None, Some, Err, refl, sym, ap, subst, ◌∙◌}}
use Rattle.std.proofs.lemmas.Bool.{cases_Bool}
use Rattle.sqlite.specs.{Order.{Row}, Tree.{Trees}, Schema.{Schema}, Command.{Command}, Command.TheVariants.{Begin, Commit, Rollback, Release}}
use Rattle.sqlite.specs.{declared.error.Error.{Error}, Listing.{understood}, declared.error.Error.TheVariants.{ExecuteReturnedResults}, Does.{Does}}
use Rattle.sqlite.specs.State.{State, Executes, ExecutesIn, CommitsBy, MayWrite, MayChange, IsNotRun, IsNoStatement, IsMisplaced, IsUnchanged, Fails, HasCause, shows_rows, mode_of}
use Rattle.sqlite.proofs.Callers.{IsPlain, command_of}
use Rattle.sqlite_tied.specs.Compute.{everything}
use Rattle.sqlite_resolve.specs.declared.compiled.Compiled.{Compiled}
use Rattle.sqlite_trees.specs.{declared.error.StoreError.{StoreError}, declared.error.StoreError.TheVariants.{Unstorable}}
use Rattle.table_access.{specs.{Unit.{IsLeft}, Calls.{fault_of}, declared.StoreFault.TheVariants.{Store}}, proofs.StatementRefusals.{Does-Store}}
use Rattle.table_access.proofs.{Steps.{Means}, Answered.{is_whole}}

pub codes-begin : (schema : Schema) → Means schema (codes "BEGIN") Begin × (is_whole (codes "BEGIN") 0 (understood schema (codes "BEGIN")) ≡ true)
unfolding understood everything
codes-begin schema = (record { is = refl; plain = (refl, refl); unlisted = refl }, refl)

pub codes-commit : (schema : Schema) → Means schema (codes "COMMIT") Commit × (is_whole (codes "COMMIT") 0 (understood schema (codes "COMMIT")) ≡ true)
unfolding understood everything
codes-commit schema = (record { is = refl; plain = (refl, refl); unlisted = refl }, refl)

pub codes-rollback : (schema : Schema) → Means schema (codes "ROLLBACK") Rollback × (is_whole (codes "ROLLBACK") 0 (understood schema (codes "ROLLBACK")) ≡ true)
unfolding understood everything
codes-rollback schema = (record { is = refl; plain = (refl, refl); unlisted = refl }, refl)

-- a statement that was refused changed nothing and its fault is Store, or the store failed
abbrev pub IsRefused : State → State → Error → Type 0
IsRefused old new e = (IsUnchanged old new × (fault_of e ≡ Store)) ⊎ Fails old new ⊤ e

pub IsNoStatement-Store : (s : State) (sql : List ℕ) (params : Row) (e : Error) → IsNoStatement s sql params e → fault_of e ≡ Store
IsNoStatement-Store s sql params e (inl h) = ap fault_of h.2
IsNoStatement-Store s sql params e (inr h) = elim h.2 [ inl many ↦ ap fault_of many.1 | inr more ↦ elim more [ inl count ↦ ap fault_of count.1 | inr clock ↦ ap fault_of clock.1 ] ]

pub Does-misplaced_or_Store : (old : State) (c : Compiled) (text : List ℕ) (params : Row) (e : Error) → IsMisplaced old c.command e ⊎ (MayChange c × Does old.step_limit (mode_of old) params old.now text c.returning c.command (Err (Some e))) → fault_of e ≡ Store
Does-misplaced_or_Store old c text params e (inl (inl h)) = ap fault_of h.0
Does-misplaced_or_Store old c text params e (inl (inr h)) = ap fault_of h.0
Does-misplaced_or_Store old c text params e (inr h) = Does-Store old.step_limit (mode_of old) params old.now text c.returning c.command e h.1

-- what is so if a row was too big may be weakened
pub HasCause-weaken : {A B : Type 0} (a b : State) (cause : StoreError) → (A → B) → HasCause a b A cause → HasCause a b B cause
HasCause-weaken a b Unstorable more h = more h
HasCause-weaken a b _ more h = h

pub Executes-IsRefused : (sql : List ℕ) (params : Row) (old new : State) (e : Error) → Executes sql params old new (Err e) → IsRefused old new e
unfolding ExecutesIn IsNotRun
Executes-IsRefused sql params old new e (inl (inl h)) = inl (h.1, IsNoStatement-Store old sql params e h.0)
Executes-IsRefused sql params old new e (inl (inr h)) = inr (h.0, h.1, HasCause-weaken old new h.0 (λ big. tt) h.2, h.3, h.4)
Executes-IsRefused sql params old new e (inr h) = elim (cases_Bool (shows_rows false h.0)) [
  | inl shows ↦ let it = (rw shows at h.2) in let same : e ≡ ExecuteReturnedResults = (let is = it.0 in cc) in inl (it.1, ap fault_of same)
  | inr runs ↦ elim (rw runs at h.2) [ inl same ↦ inl (same.1, Does-misplaced_or_Store old h.0 _ _ e same.0) | inr fails ↦ inr (fails.0, fails.1, HasCause-weaken old new fails.0 (λ big. tt) fails.2, fails.3, fails.4) ]
]

-- A statement that is refused changes nothing, or rolls back.
pub Executes-IsLeft : (sql : List ℕ) (params : Row) (old new : State) (e : Error) → Executes sql params old new (Err e) → IsLeft old new
Executes-IsLeft sql params old new e h = elim (Executes-IsRefused sql params old new e h) [ inl same ↦ inl same.0 | inr fails ↦ inr fails.3 ]

-- What a text without parameters commits, by its command.
CommitsBy-by_command : (sql : List ℕ) (old : State) (command : Command) → Means old.now.schema sql command → (db : Trees) → CommitsBy sql [] old db
    → ((command ≡ Commit) × (db ≡ old.now.trees)) ⊎ (((name : List ℕ) × (command ≡ Release name)) ⊎ ((text : List ℕ) × (params : Row) × MayWrite old None command text params db))
unfolding CommitsBy
CommitsBy-by_command sql old command means db h =
    let bare = subst IsPlain h.1.is means.plain in
    let same : h.0.command ≡ command = sym (ap command_of h.1.is) ∙ means.is in
    elim h.2 [
      | inl ends ↦ elim ends.0 [ inl c ↦ inl (sym same ∙ c, ends.1) | inr r ↦ inr (inl (r.0, sym same ∙ r.2)) ]
      | inr may ↦ inr (inr (_, _, rw (bare.0, same) at may))
    ]

pub CommitsBy-begin_never : (old : State) (db : Trees) → ¬ CommitsBy (codes "BEGIN") [] old db
CommitsBy-begin_never old db h = elim (CommitsBy-by_command (codes "BEGIN") old Begin (codes-begin old.now.schema).0 db h) [
  | inl a ↦ let e = a.0 in cc
  | inr b ↦ elim b [ inl c ↦ let e = c.1 in cc | inr w ↦ let e = w.2.3 in cc ]
]

pub CommitsBy-rollback_never : (old : State) (db : Trees) → ¬ CommitsBy (codes "ROLLBACK") [] old db
CommitsBy-rollback_never old db h = elim (CommitsBy-by_command (codes "ROLLBACK") old Rollback (codes-rollback old.now.schema).0 db h) [
  | inl a ↦ let e = a.0 in cc
  | inr b ↦ elim b [ inl c ↦ let e = c.1 in cc | inr w ↦ let e = w.2.3 in cc ]
]

pub CommitsBy-commit : (old : State) (db : Trees) → CommitsBy (codes "COMMIT") [] old db → db ≡ old.now.trees
CommitsBy-commit old db h = elim (CommitsBy-by_command (codes "COMMIT") old Commit (codes-commit old.now.schema).0 db h) [
  | inl a ↦ a.1
  | inr b ↦ elim b [ inl c ↦ absurd (let e = c.1 in cc) | inr w ↦ absurd (let e = w.2.3 in cc) ]
]
