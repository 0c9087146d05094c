-- What a read that succeeds went through.
use Rattle.std.{specs.Option.{ok_or}, proofs.Common.{◌≡◌, Bool, true, false, Option, Some, None, option_map, option_and_then, Result, Ok, Err, refl}}
use Rattle.std.proofs.lemmas.Option.{same_Some}
use Rattle.pact_rules.specs.Outcome.{◌>>=◌, guard}

-- if two steps in a row succeed, the first gave some value and the second succeeds on it
pub Result-bind_ok : {A B F : Type 0} (r : Result A F) (f : A → Result B F) (y : B) → (r >>= f) ≡ Ok y → (x : A) × (r ≡ Ok x) × (f x ≡ Ok y)
Result-bind_ok (Ok x) f y h = (x, refl, h)
Result-bind_ok (Err e) f y h = absurd cc

-- if a value that may be absent is required and the answer is a success, it was there
pub ok_or-ok : {A F : Type 0} (o : Option A) (fault : F) (x : A) → ok_or o fault ≡ Ok x → o ≡ Some x
ok_or-ok None fault x h = absurd cc
ok_or-ok (Some y) fault x h = cc

pub ok_or-err : {A F : Type 0} (o : Option A) (fault e : F) → ok_or o fault ≡ Err e → (o ≡ None) × (fault ≡ e)
ok_or-err None fault e h = (refl, cc)
ok_or-err (Some y) fault e h = absurd cc

pub guard-ok : {F : Type 0} (b : Bool) (fault : F) (x : Unit {0}) → guard b fault ≡ Ok x → b ≡ true
guard-ok true fault x h = refl
guard-ok false fault x h = absurd cc

-- two successes that are the same answer hold the same value
pub Ok-injective : {A F : Type 0} (x y : A) (h : Path (Result A F) (Ok x) (Ok y)) → x ≡ y
Ok-injective x y h = cc

-- two faults that are the same answer are the same fault, and none is a success
pub Err-injective : {A F : Type 0} (x y : F) (h : Path (Result A F) (Err x) (Err y)) → x ≡ y
Err-injective x y h = cc

pub Ok-not_Err : {A F : Type 0} {P : Type 0} (x : A) (y : F) (h : Path (Result A F) (Ok x) (Err y)) → P
Ok-not_Err x y h = absurd cc

pub option_map-some : {A B : Type 0} (f : A → B) (o : Option A) (y : B) → option_map f o ≡ Some y → (x : A) × (o ≡ Some x) × (f x ≡ y)
option_map-some f None y h = absurd cc
option_map-some f (Some x) y h = (x, refl, same_Some _ _ h)

-- if two lookups in a row find a value, the first found one and the second finds its value from that
pub option_and_then-some : {A B : Type 0} (f : A → Option B) (o : Option A) (y : B) → option_and_then f o ≡ Some y → (x : A) × (o ≡ Some x) × (f x ≡ Some y)
option_and_then-some f None y h = absurd cc
option_and_then-some f (Some x) y h = (x, refl, h)
