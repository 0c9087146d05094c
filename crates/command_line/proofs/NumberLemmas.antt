-- the number that `get_one` reads at a type of 32 bits
use Rattle.std.specs.{Prelude.{Result}, declared.num.ParseIntError.{ParseIntError}}
use Rattle.std.specs.Str.Parse.{IsNumeral, ParsesUnsigned, ExplainsUnsignedError, HasUnsignedDigitsIfOk, digits_value, without_leading_plus}
use Rattle.std.proofs.Common.{◌≡◌, ◌∙◌, ◌≤◌, ℕ, List, Option, Some, None, refl, sym, arith}
use Rattle.clap.{specs.{Words.{ReadsOne, Text, one_of, one_text, rows_of}, declared.parser.matches.Found.{Found}}, proofs.WalkLemmas.{one_text-rows}}
use Rattle.command_line.specs.Lines.{HasNoNumber}

abbrev Gives : List ℕ → Result ℕ ParseIntError → Type 0
Gives bs r = ParsesUnsigned 32 10 bs r × ExplainsUnsignedError 10 bs r × HasUnsignedDigitsIfOk bs r

ReadsOne-some_numeral : (o : Option Text) (r : Option ℕ) (n : ℕ) → (o ≡ None → r ≡ None) → ((t : Text) → o ≡ Some t → ReadsOne Gives t r) → r ≡ Some n
    → (t : Text) × (o ≡ Some t) × IsNumeral 10 (without_leading_plus t) × (n ≡ digits_value 10 (without_leading_plus t))
ReadsOne-some_numeral None r n none value is = let bad : None ≡ Some n = sym (none refl) ∙ is in cc
ReadsOne-some_numeral (Some t) r n none value is =
    let read : ReadsOne Gives t (Some n) = rw is at value t refl in
    (t, refl, read.0.0.0, read.0.1)

pub ReadsOne-number : (f : Found) (id : Text) (r : Option ℕ) (n : ℕ) → (one_text f id ≡ None → r ≡ None) → ((t : Text) → one_text f id ≡ Some t → ReadsOne Gives t r) → r ≡ Some n
    → (t : Text) × (one_of id (rows_of f) ≡ Some t) × IsNumeral 10 (without_leading_plus t) × (n ≡ digits_value 10 (without_leading_plus t))
ReadsOne-number f id r n none value is =
    let got = ReadsOne-some_numeral (one_text f id) r n none value is in
    (got.0, sym (one_text-rows f id) ∙ got.1, got.2, got.3)

-- the text is a number's, and it isn't read as one that is in the range
ReadsOne-unread : (t : Text) (r : Option ℕ) (n : ℕ) → ReadsOne Gives t r → ((m : ℕ) → r ≡ Some m → 1 ≤ m → m ≤ 1000000 → ⊥)
    → IsNumeral 10 (without_leading_plus t) → n ≡ digits_value 10 (without_leading_plus t) → 1 ≤ n → n ≤ 1000000 → ⊥
ReadsOne-unread t None n read outside numeral is low high =
    let small : digits_value 10 (without_leading_plus t) ≤ 1000000 = rw (← is) high in
    read.1.0 (numeral, omega (arith, small))
ReadsOne-unread t (Some m) n read outside numeral is low high =
    let same : m ≡ n = read.0.1 ∙ sym is in
    outside m refl (rw same low) (rw same high)

pub HasNoNumber-of_unread : (f : Found) (id : Text) (r : Option ℕ) → ((t : Text) → one_text f id ≡ Some t → ReadsOne Gives t r)
    → ((m : ℕ) → r ≡ Some m → 1 ≤ m → m ≤ 1000000 → ⊥) → HasNoNumber (rows_of f) id
HasNoNumber-of_unread f id r value outside n has =
    ReadsOne-unread has.0 r n (value has.0 (one_text-rows f id ∙ has.1)) outside has.2 has.3 has.4 has.5
