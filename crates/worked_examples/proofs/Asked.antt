-- A query's promise for another form of its answer, and what an empty list says.
use Rattle.std.specs.{Prelude.{Contains, ◌↔◌}, declared.cmp.Ordering.{Ordering}}
use Rattle.std.proofs.Common.{◌≡◌, ◌==◌, Bool, true, false, List, [], ◌∷◌, length, Option, Some, None, Ok, IsTrue, refl, sym, ◌∙◌, arith}
use Rattle.std.proofs.lemmas.Bool.{eqb-true}
use Rattle.sqlite.specs.State.{State}
use Rattle.broker_core.specs.{Faults.{fault_of, fault_cmp, IsFaultAmong}, Gate.{IsNeed, IsGood}, Listing.{Lists}, State.{State as Broker}, Text.{Text}}
use Rattle.broker_core.specs.{declared.command.Version.{Version}, declared.need.Latest.{Latest}, declared.need.Need.{Need}, declared.need.PairFault.{PairFault}}
use Rattle.broker_tables.specs.Failures.{LooksUpBetween}
use Rattle.deploy_tables.specs.Needs.{need_cmp}

-- ---- queries

-- another answer
pub answers : {A B : Type 0} (old new : State) (x : A) (P : A → Broker → Type 0) (Q : B → Broker → Type 0) (y : B) → ((s : Broker) → P x s → Q y s) → LooksUpBetween true old new (Ok x) P → LooksUpBetween true old new (Ok y) Q
answers old new x P Q y more it = record {
  call = record {
    ok = λ clean s held. let read = it.call.ok clean s held in (more s read.0, read.1);
    goes_on = it.call.goes_on;
    fails = λ clean inside. tt;
    commits = it.call.commits;
    survives = it.call.survives;
    memory = tt;
  };
  failure = λ clean s here. tt;
}

-- ---- lists

length-zero_nil : {X : Type 0} (xs : List X) → (length xs == 0) ≡ true → xs ≡ []
length-zero_nil [] is = refl
length-zero_nil (x ∷ xs) is = absurd (omega (arith, eqb-true (length (x ∷ xs)) 0 is))

-- the list of what is such is empty if and only if nothing is
pub Lists-empty_iff_none : {X : Type 0} {cmp : X → X → Ordering} {Is : X → Type 0} (xs : List X) (empty : Bool) → empty ≡ (length xs == 0) → Lists cmp Is xs → IsTrue empty ↔ ((x : X) → ¬ (Is x))
Lists-empty_iff_none {X} {cmp} {Is} xs empty reports listed = (λ yes x is. none xs (length-zero_nil xs (sym reports ∙ yes)) x ((listed.exactly x).1 is), λ never. reports ∙ go xs (λ x there. never x ((listed.exactly x).0 there)))
  where
    none : (ys : List X) → ys ≡ [] → (x : X) → ¬ (Contains ys x)
    none [] is x there = omega (arith, there.1)
    none (y ∷ ys) is x there = cc

    go : (ys : List X) → ((x : X) → ¬ (Contains ys x)) → (length ys == 0) ≡ true
    go [] never = refl
    go (y ∷ ys) never = absurd (never y (0, omega arith, refl))

-- ---- needs

-- a need is good if and only if it has no fault
fault_of-none_iff_good : (strict : Bool) (need : Need) → ((fault : PairFault) → ¬ (fault_of strict need ≡ Some fault)) ↔ IsGood strict need
fault_of-none_iff_good strict need = go need.provider_version need.latest
  where
    of : Option Text → Option Latest → Need
    of partner said = record { consumer = need.consumer; consumer_version = need.consumer_version; provider = need.provider; provider_version = partner; latest = said }

    says : (w : Text) (pass checked strict : Bool) → ((fault : PairFault) → ¬ (fault_of strict (of (Some w) (Some (record { pass = pass; checked = checked }))) ≡ Some fault))
        ↔ IsGood strict (of (Some w) (Some (record { pass = pass; checked = checked })))
    says w true true true = (λ none. (refl, (refl, λ yes. refl)), λ good fault is. cc)
    says w true true false = (λ none. (refl, (refl, λ yes. refl)), λ good fault is. cc)
    says w true false true = (λ none. absurd (none _ refl), λ good. absurd (let wrong = good.1.1 refl in cc))
    says w true false false = (λ none. (refl, (refl, λ yes. absurd (let wrong = yes in cc))), λ good fault is. cc)
    says w false checked strict = (λ none. absurd (none _ refl), λ good. absurd (let wrong = good.1.0 in cc))

    go : (partner : Option Text) (said : Option Latest) → ((fault : PairFault) → ¬ (fault_of strict (of partner said) ≡ Some fault)) ↔ IsGood strict (of partner said)
    go None said = (λ none. absurd (none _ refl), λ good. absurd (let wrong = good.0 in cc))
    go (Some w) None = (λ none. absurd (none _ refl), λ good. absurd good.1)
    go (Some w) (Some said) = says w said.pass said.checked strict

-- no fault is decided of needs that are good, and of no others
pub IsFaultAmong-none_iff_good : (s : Broker) (v : Version) (e : Text) (strict empty : Bool) (needs : List Need) (faults : List PairFault) → empty ≡ (length faults == 0) → Lists need_cmp (IsNeed s v e) needs → Lists fault_cmp (IsFaultAmong strict needs) faults
    → IsTrue empty ↔ ((need : Need) → IsNeed s v e need → IsGood strict need)
IsFaultAmong-none_iff_good s v e strict empty needs faults reports listed decided =
    let nothing = Lists-empty_iff_none faults empty reports decided in (
      λ yes need is. (fault_of-none_iff_good strict need).0 (λ fault of. nothing.0 yes fault (need, (listed.exactly need).1 is, of)),
      λ good. nothing.1 (λ fault is. (fault_of-none_iff_good strict is.0).1 (good is.0 ((listed.exactly is.0).0 is.1)) fault is.2),
    )
