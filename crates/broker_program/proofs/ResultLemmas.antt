-- facts of a result
use Rattle.std.proofs.Common.{◌≡◌, ◌∙◌, Bool, true, false, Option, None, Some, is_none, IfErr, IfOk, IfSome, MatchResult, OnErr, Result, Ok, Err, refl, ap, subst, sym}

pub IfOk-const : {T E P : Type 0} (r : Result T E) → P → IfOk r (λ _. P)
IfOk-const (Ok x) p = p
IfOk-const (Err y) p = tt

pub OnErr-const : {T E P : Type 0} (r : Result T E) → P → OnErr r P
OnErr-const (Ok x) p = tt
OnErr-const (Err y) p = p

-- the error of a result that is reported in other words
pub IfErr-reworded : {T B E F : Type 0} (h : T → B) (f : E → F) (r : Result T E) (s : Result B F) (Q : F → Type 0) → MatchResult r (λ x. s ≡ Ok (h x)) (λ e. s ≡ Err (f e)) → IfErr r (λ e. Q (f e)) → IfErr s Q
IfErr-reworded {T} {B} {E} {F} h f (Ok x) s Q is q = subst (λ (t : Result B F). IfErr t Q) (sym is) tt
IfErr-reworded {T} {B} {E} {F} h f (Err e) s Q is q = subst (λ (t : Result B F). IfErr t Q) (sym is) q

-- a result has one end
pub Err-not_ok : {T E : Type 0} (r : Result T E) (e : E) (x : T) → r ≡ Err e → r ≡ Ok x → ⊥
Err-not_ok {T} {E} r e x is_err is_ok = subst (λ (s : Result T E). MatchResult s (λ _. ⊥) (λ _. Unit {0})) (sym is_err ∙ is_ok) tt

pub None-not_some : {T E : Type 0} (r : Result (Option T) E) (found : Option T) (x : T) → r ≡ Ok found → found ≡ None → r ≡ Ok (Some x) → ⊥
None-not_some {T} {E} r found x is none same =
    let path : Ok None ≡ Ok (Some x) = sym (is ∙ ap (λ (o : Option T). let s : Result (Option T) E = Ok o in s) none) ∙ same in
    subst (λ (s : Result (Option T) E). IfOk s (λ o. IfSome o (λ _. ⊥))) path tt

-- what follows of either end
pub MatchResult-of_both : {T E : Type 0} {A P : T → Type 0} {B Q : E → Type 0} (r : Result T E) → ((x : T) → A x → P x) → ((e : E) → B e → Q e) → IfOk r A → IfErr r B → MatchResult r P Q
MatchResult-of_both (Ok x) ok err a b = ok x a
MatchResult-of_both (Err e) ok err a b = err e b

-- two facts of a result that is Ok give a third
pub IfOk-both : {T E : Type 0} (r : Result T E) (P Q R : T → Type 0) → ((x : T) → P x → Q x → R x) → IfOk r P → IfOk r Q → IfOk r R
IfOk-both (Ok x) P Q R both p q = both x p q
IfOk-both (Err y) P Q R both p q = tt

Ok-unique_flag : {F : Type 0} (r : Result Bool F) (a b : Bool) → r ≡ Ok a → r ≡ Ok b → a ≡ b
Ok-unique_flag {F} r a b is_a is_b = subst (λ (t : Result Bool F). MatchResult t (λ x. a ≡ x) (λ _. Unit {0})) (sym is_a ∙ is_b) refl

-- whether nothing is in a result, as it was looked at
module _ {T X F Q : Type 0} (f : X → F) (s : Result Bool F) where
  pub is_none-true : (r : Result (Option T) X) → MatchResult r (λ found. s ≡ Ok (is_none found)) (λ e. s ≡ Err (f e)) → s ≡ Ok true → IfOk r (λ found. found ≡ None → Q) → Q
  is_none-true (Ok None) returned is q = q refl
  is_none-true (Ok (Some x)) returned is q = absurd (let bad : false ≡ true = Ok-unique_flag s _ _ returned is in cc)
  is_none-true (Err e) returned is q = absurd (Err-not_ok s (f e) true returned is)

  pub is_none-false : (r : Result (Option T) X) → MatchResult r (λ found. s ≡ Ok (is_none found)) (λ e. s ≡ Err (f e)) → s ≡ Ok false → IfOk r (λ found. IfSome found (λ _. Q)) → Q
  is_none-false (Ok None) returned is q = absurd (let bad : true ≡ false = Ok-unique_flag s _ _ returned is in cc)
  is_none-false (Ok (Some x)) returned is q = q
  is_none-false (Err e) returned is q = absurd (Err-not_ok s (f e) false returned is)
