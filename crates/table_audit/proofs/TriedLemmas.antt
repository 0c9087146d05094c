-- One call that tries after another.
use Rattle.std.specs.Prelude.{is_some}
use Rattle.std.proofs.Common.{◌≡◌, ◌∙◌, ◌+◌, ◌<◌, ◌≤◌, inl, inr, ℕ, ℤ, List, [], ◌∷◌, length, take, get_or, true, false, Option, Some, None, Result, Ok, Err, refl, sym, subst, arith}
use Rattle.std.proofs.{lemmas.List.{take_all, take_more}, lemmas.Result.{IfErr-weaker}}
use Rattle.sqlite.specs.{Effect.{Database}, State.{State, HasCleanDisk}}
use Rattle.table_access.specs.{declared.StoreFault.{StoreFault}, Calls.{GoesOn}}
use Rattle.table_access.proofs.{CallLemmas.{CallsBetween-no_call, CallsBetween-pass_Err, CallsBetween-then_call, CallsBetween-then_Ok}, Members.{has_either}}
use Rattle.broker_tables.{specs.Holds.{IsBroker}, proofs.QueryLemmas.{EndsBy-later_or_Memory}}
use Rattle.sqlite_rules.specs.Lists.{Has}
use Rattle.table_audit.specs.{Audit.{EachOf, Obeys, rows_under}, Shown.{AreJudged, FindsUnder, TriesBetween}, declared.auditing.TableRule.{TableRule}}
use Rattle.table_audit.specs.declared.auditing.TableRule.TheVariants as of

-- the second one's answer, with what the first said
pub TriesBetween-then : {A B : Type 0} (old mid new : State) (a : A) (r : Result B StoreFault) (P : A → Database → Type 0) (Q R : B → Database → Type 0)
    → ((db : Database) → IsBroker db → P a db → (b : B) → Q b db → R b db) → TriesBetween old mid (Ok a) P → TriesBetween mid new r Q → TriesBetween old new r R
TriesBetween-then old mid new a r P Q R join one two = record {
  call = CallsBetween-then_call old mid new a r _ _ _ (λ was b is broker.
      let first = was broker in
      let second = is (subst IsBroker (sym first.1) broker) in
      (join old.now broker first.0 b (subst (Q b) first.1 second.0), second.1 ∙ first.1)) one.call two.call;
  failure = λ clean inside broker unlimited.
      let mid_clean : HasCleanDisk mid = omega (arith, two.call.survives.clean, clean) in
      let on : GoesOn old mid = one.call.goes_on mid_clean inside in
      let same = (one.call.ok mid_clean broker).1 in
      IfErr-weaker r _ _ (λ fault why. EndsBy-later_or_Memory old mid new fault on one.call.survives.counts why)
      (two.failure clean on.0 (subst IsBroker (sym same) broker) (one.call.survives.limit ∙ unlimited));
}

-- before the first one
pub TriesBetween-no_call : {A : Type 0} (c : State) (a : A) (P : A → Database → Type 0) → ((db : Database) → P a db) → TriesBetween c c (Ok a) P
TriesBetween-no_call c a P is = record { call = CallsBetween-no_call c a _ (λ broker. (is c.now, refl)); failure = λ clean inside broker unlimited. tt }

-- of an answer, another one
pub TriesBetween-other_answer : {A B : Type 0} (old new : State) (a : A) (b : B) (P : A → Database → Type 0) (Q : B → Database → Type 0)
    → ((db : Database) → IsBroker db → P a db → Q b db) → TriesBetween old new (Ok a) P → TriesBetween old new (Ok b) Q
TriesBetween-other_answer old new a b P Q more one = record {
  call = CallsBetween-then_Ok old new a b _ _ (λ was broker. (more old.now broker (was broker).0, (was broker).1)) one.call;
  failure = λ clean inside broker unlimited. tt;
}

-- an answer of what both said
pub TriesBetween-both : {A B C : Type 0} (old mid new : State) (a : A) (b : B) (c : C) (P : A → Database → Type 0) (Q : B → Database → Type 0) (R : C → Database → Type 0)
    → ((db : Database) → P a db → Q b db → R c db) → TriesBetween old mid (Ok a) P → TriesBetween mid new (Ok b) Q → TriesBetween old new (Ok c) R
TriesBetween-both old mid new a b c P Q R join one two = TriesBetween-other_answer old new b c (λ b db. P a db × Q b db) R (λ db broker both. join db both.0 both.1)
    (TriesBetween-then old mid new a (Ok b) P Q (λ b db. P a db × Q b db) (λ db broker was b is. (was, is)) one two)

-- a failure is one of any call
TriesBetween-pass_Err : {A B : Type 0} (old new : State) (fault : StoreFault) (P : A → Database → Type 0) (Q : B → Database → Type 0)
    → TriesBetween {A = A} old new (Err fault) P → TriesBetween {A = B} old new (Err fault) Q
TriesBetween-pass_Err old new fault P Q one = record { call = CallsBetween-pass_Err old new fault _ _ one.call; failure = one.failure }

pub TriesBetween-then_failed : {A B C : Type 0} (old mid new : State) (a : A) (fault : StoreFault) (P : A → Database → Type 0) (Q : B → Database → Type 0) (R : C → Database → Type 0)
    → TriesBetween old mid (Ok a) P → TriesBetween {A = B} mid new (Err fault) Q → TriesBetween {A = C} old new (Err fault) R
TriesBetween-then_failed old mid new a fault P Q R one two = TriesBetween-pass_Err old new fault Q R (TriesBetween-then old mid new a (Err fault) P Q Q (λ db broker was b is. is) one two)

-- ---- the rules

-- what is said of a rule is said of it by its other name
pub TriesBetween-same_rule : (old new : State) (r : Result (Option ℤ) StoreFault) (a b : TableRule) → a ≡ b
    → TriesBetween old new r (λ found db. FindsUnder b db found) → TriesBetween old new r (λ found db. FindsUnder a db found)
TriesBetween-same_rule old new r a b same = subst (λ rule. TriesBetween old new r (λ found db. FindsUnder rule db found)) (sym same)

-- each rule so far is obeyed
abbrev pub ObeyedBefore : List TableRule → ℕ → Database → Type 0
ObeyedBefore rules at db = (rule : TableRule) → Has (take at rules) rule → EachOf (rows_under rule db) (Obeys rule db)

-- and one more, in which no row was found
pub ObeyedBefore-next : (rules : List TableRule) (at : ℕ) (d : TableRule) (db : Database) (found : Option ℤ) → at < length rules → is_some found ≡ false
    → ObeyedBefore rules at db → FindsUnder (get_or rules at d) db found → ObeyedBefore rules (at + 1) db
ObeyedBefore-next rules at d db (Some row) low none before judged = absurd (let e = none in cc)
ObeyedBefore-next rules at d db None low none before this = λ one has.
    elim (has_either (take at rules) (get_or rules at d ∷ []) one (subst (λ rs. Has rs one) (take_more rules at d low) has)) [
      | inl earlier ↦ before one earlier
      | inr (inl same) ↦ subst (λ r. EachOf (rows_under r db) (Obeys r db)) (sym same) this
      | inr (inr other) ↦ absurd other
    ]

-- a row that was found breaks the rule
pub AreJudged-of_found : (rule : TableRule) (db : Database) (found : Option ℤ) → is_some found ≡ true → FindsUnder rule db found → AreJudged (Some (record { rule = rule; row = found })) db
AreJudged-of_found rule db None some = absurd (let e = some in cc)
AreJudged-of_found rule db (Some row) some = λ judged. judged

-- all of them, in the order in which they are tried
abbrev pub all_rules : List TableRule
all_rules = of.Office ∷ of.Team ∷ of.Pacticipant ∷ of.Version ∷ of.Content ∷ of.Result ∷ of.Provider ∷ of.Named ∷ of.Newest ∷ of.Deployed ∷ []

all_rules-has : (rule : TableRule) → Has all_rules rule
all_rules-has of.Office = inl refl
all_rules-has of.Team = inr (inl refl)
all_rules-has of.Pacticipant = inr (inr (inl refl))
all_rules-has of.Version = inr (inr (inr (inl refl)))
all_rules-has of.Content = inr (inr (inr (inr (inl refl))))
all_rules-has of.Result = inr (inr (inr (inr (inr (inl refl)))))
all_rules-has of.Provider = inr (inr (inr (inr (inr (inr (inl refl))))))
all_rules-has of.Named = inr (inr (inr (inr (inr (inr (inr (inl refl)))))))
all_rules-has of.Newest = inr (inr (inr (inr (inr (inr (inr (inr (inl refl))))))))
all_rules-has of.Deployed = inr (inr (inr (inr (inr (inr (inr (inr (inr (inl refl)))))))))

-- so each rule is obeyed if all of these are
pub ObeyedBefore-all : (at : ℕ) (db : Database) → length all_rules ≤ at → ObeyedBefore all_rules at db → (rule : TableRule) → EachOf (rows_under rule db) (Obeys rule db)
ObeyedBefore-all at db past before rule = before rule (subst (λ rs. Has rs rule) (sym (take_all at all_rules past)) (all_rules-has rule))
