use Rattle.std.specs.{Result.{result_ok}, Str.{all_ascii_digits}, Str.Parse.{digits_value}}
use Rattle.std.proofs.Common.{◌≡◌, ◌<◌, ◌≤◌, ◌^◌, ◌∙◌, true, cond, length, None, Some, refl, sym, ap, arith, lt-ltb, le-leb}
use Rattle.std.proofs.lemmas.Str.Parse.{numerals_by_value, tells_all_ascii_digits, parse_gives, digits_value_short, IsNumeralModel}
use Rattle.pact_paths.specs.Spelling.{is_index}
use Rattle.pact_paths.proofs.path_reader.number.Goals as goal

own : IsNumeralModel (λ ds. all_ascii_digits ds ≡ true) (digits_value 10)
own = numerals_by_value _ tells_all_ascii_digits

pub returns-then-digits-le9 : goal.returns-then-digits-le9
returns-then-digits-le9 c =
    let ds = c.args.digits.now in
    let digits : all_ascii_digits ds ≡ true = sym c.are_digits.ensures ∙ c.if-are_digits.true in
    let some : 0 < length ds = grind (arith, c.is_empty.ensures, c.if-not-is_empty.true) in
    let few : length ds ≤ 9 = c.if-digits-le9.true in
    let small : digits_value 10 ds < 10 ^ 9 = digits_value_short own ds 9 digits few in
    let read = parse_gives own 64 ds c.parse.result c.parse.ensures.value.0 digits some (omega arith) in
    let test : is_index ds ≡ true = rw (digits, lt-ltb 0 (length ds) some, le-leb (length ds) 9 few) refl in
    c.ok.ensures.value ∙ ap result_ok read ∙ sym (ap (λ b. cond b (Some (digits_value 10 ds)) None) test)
