-- What is deferred, and what is asked, one after the other.
use Rattle.std.specs.List.{list_all, AllByRecursion}
use Rattle.std.proofs.Common.{◌≡◌, ◌∙◌, ℕ, zero, suc, length, Bool, true, false, ◌&&◌, List, [], ◌∷◌, ◌++◌, set, Some, slice_get, refl, sym, ap, subst}
use Rattle.std.proofs.{lemmas.Option.{same_Some}, Math.Bool.{and_assoc}}

pub and-true : (a : Bool) → (a && true) ≡ a
and-true true = refl
and-true false = refl

and-false : (a : Bool) → (a && false) ≡ false
and-false true = refl
and-false false = refl

-- a first question that holds but for what it leaves, and then a second one
pub Defers-then : (old mid new b h k : Bool) → mid ≡ (old && h) → (b && new) ≡ (mid && k) → (b && new) ≡ (old && (h && k))
Defers-then old mid new b h k first second = second ∙ ap (λ a. a && k) first ∙ and_assoc old h k

-- of a loop: what is deferred, and what is still asked, say as much as all
pub Defers-next : (all old new f now rest : Bool) → all ≡ (old && now) → now ≡ (f && rest) → new ≡ (old && f) → all ≡ (new && rest)
Defers-next all old new f now rest kept step one =
    kept ∙ ap (λ a. old && a) step ∙ sym (and_assoc old f rest) ∙ ap (λ a. a && rest) (sym one)

-- one that doesn't hold is enough
pub Defers-stop : (all old f now rest : Bool) → all ≡ (old && now) → now ≡ (f && rest) → false ≡ (old && f) → false ≡ all
Defers-stop all old f now rest kept step one = sym (Defers-next all old false f now rest kept step one)

-- ---- one of several

and-of_first : (b p q r h : Bool) → (b && q) ≡ (p && h) → (b && (q && r)) ≡ ((p && r) && h)
and-of_first true true q r true e = ap (λ a. a && r) e ∙ sym (and-true r)
and-of_first true true q r false e = ap (λ a. a && r) e ∙ sym (and-false r)
and-of_first true false q r h e = ap (λ a. a && r) e
and-of_first false true q r true e = absurd cc
and-of_first false true q r false e = sym (and-false r)
and-of_first false false q r h e = refl

and-of_rest : (b p r s h : Bool) → (b && s) ≡ (r && h) → (b && (p && s)) ≡ ((p && r) && h)
and-of_rest b true r s h e = e
and-of_rest true false r s h e = refl
and-of_rest false false r s h e = refl

-- if one of them, with what was asked, says as much as before, all do
pub list_all-DefersToAsk : {A : Type 0} (test : A → Bool) (xs : List A) (i : ℕ) (x y : A) (b h : Bool) → slice_get xs i ≡ Some x → (b && test y) ≡ (test x && h)
    → (b && list_all test (set xs i y)) ≡ (list_all test xs && h)
list_all-DefersToAsk test [] i x y b h is e = absurd cc
list_all-DefersToAsk test (z ∷ zs) zero x y b h is e = and-of_first b (test z) (test y) (list_all test zs) h (e ∙ ap (λ a. test a && h) (sym (same_Some z x is)))
list_all-DefersToAsk test (z ∷ zs) (suc i) x y b h is e = and-of_rest b (test z) (list_all test zs) (list_all test (set zs i y)) h (list_all-DefersToAsk test zs i x y b h is e)

pub slice_get-push : {A : Type 0} (xs : List A) (x : A) → slice_get (xs ++ x ∷ []) (length xs) ≡ Some x
slice_get-push [] x = refl
slice_get-push (y ∷ ys) x = slice_get-push ys x

pub AllByRecursion-slice_get : {A : Type 0} (P : A → Type 0) (xs : List A) (i : ℕ) (x : A) → slice_get xs i ≡ Some x → AllByRecursion P xs → P x
AllByRecursion-slice_get P [] i x is all = absurd cc
AllByRecursion-slice_get P (y ∷ ys) zero x is all = subst P (same_Some y x is) all.0
AllByRecursion-slice_get P (y ∷ ys) (suc i) x is all = AllByRecursion-slice_get P ys i x is all.1
