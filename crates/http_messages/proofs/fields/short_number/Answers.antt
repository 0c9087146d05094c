use Rattle.std.specs.{List.{list_all}, Char.{is_ascii_digit, digit_value}}
use Rattle.std.proofs.{Common.{◌≡◌, ℕ, ◌+◌, ◌*◌, ◌^◌, ◌<◌, Bool, true, ◌&&◌, List, length, get_or, take, sym, ap, ◌∙◌, arith, add-one}, Math.Nat.{pow-suc}}
use Rattle.std.proofs.{lemmas.Bool.Decides.{nat_tests}, lemmas.Int.Digits.{digits_value_more}, lemmas.List.{take_more}, lemmas.List.Folds.{list_all-append}}
use Rattle.http_messages.proofs.fields.short_number.Goals as goal

list_all_more : {X : Type 0} (p : X → Bool) (xs : List X) (i : ℕ) (d : X) → i < length xs → list_all p (take i xs) ≡ true → p (get_or xs i d) ≡ true → list_all p (take (i + 1) xs) ≡ true
list_all_more p xs i d inside before here =
    ap (list_all p) (take_more xs i d inside) ∙ list_all-append p (take i xs) _ ∙ (λ k. before k && (here k && true))

more_digits : (n digit i : ℕ) → n < 10 ^ i → digit < 10 → n * 10 + digit < 10 ^ (i + 1)
more_digits n digit i small one = rw (add-one, pow-suc) (omega arith)

pub loop-b-preserved : goal.loop-b-preserved
loop-b-preserved c =
    let digit : digit_value (get_or c.args.text.now c.loop-b.b-index 0) ≡ c.from.result = grind (arith, nat_tests) in
    let one : c.from.result < 10 = grind (arith, nat_tests) in
    record {
      digits = list_all_more is_ascii_digit _ _ 0 c.loop-b-test.true c.loop-b.invariant.digits (sym c.if-not-is_ascii_digit.ensures.value);
      value = omega (arith, digits_value_more 10 c.args.text.now _ c.loop-b-test.true, c.loop-b.invariant.value);
      small = more_digits c.loop-b.n c.from.result c.loop-b.b-index c.loop-b.invariant.small one;
    }
