-- The strings of a JSON text that is UTF-8 are UTF-8.
use Rattle.std.specs.{Char.{digit_value, is_digit, encode_utf8, IsScalar}, Str.{IsUtf8}}
use Rattle.std.proofs.Common.{◌≡◌, ℕ, zero, suc, ◌+◌, ◌*◌, ◌<◌, ◌&&◌, ◌==◌, nat_lt, List, [], ◌∷◌, ◌++◌, length, get_or, Bool, true, false, cond, Some, None, option_and_then, refl, sym, subst, arith, append_assoc, append-nil, take_at}
use Rattle.std.proofs.lemmas.Str.{IsUtf8-append, IsUtf8-take, IsUtf8-drop, IsUtf8-encode, IsUtf8-from_ascii, IsCharBoundary-before_ascii, IsCharBoundary-after_ascii}
use Rattle.std.proofs.{lemmas.Bool.{and_parts, eqb-true}, lemmas.Bool.Decides.{nat_tests}, Math.Seq.{get_or-append_seam, drop-append-add}}
use Rattle.std.proofs.{lemmas.List.{length-append}, lemmas.Option.{same_Some, cond_some}}
use Rattle.json.specs.Text.{code_unit, short_escape, is_high_surrogate, is_low_surrogate, surrogate_pair, plain, after_backslash, after_u, after_high, prepend, content}
use Rattle.pact_file.proofs.Steps.{option_map-some, option_and_then-some}

-- ---- beside an ASCII byte

length-append_cons_lt : (front : List ℕ) (x : ℕ) (xs : List ℕ) → length front < length (front ++ x ∷ xs)
length-append_cons_lt front x xs = omega (arith, length-append front (x ∷ xs))

pub IsUtf8-before_ascii : (front : List ℕ) (x : ℕ) (xs : List ℕ) → IsUtf8 (front ++ x ∷ xs) → x < 128 → IsUtf8 front
IsUtf8-before_ascii front x xs u h =
    let low : get_or (front ++ x ∷ xs) (length front) 0 < 128 = omega (arith, get_or-append_seam front x xs 0) in
    subst IsUtf8 (take_at front (x ∷ xs) (length front) refl) (IsUtf8-take (front ++ x ∷ xs) (length front) u (IsCharBoundary-before_ascii (front ++ x ∷ xs) (length front) (length-append_cons_lt front x xs) low))

pub IsUtf8-after_ascii : (front : List ℕ) (x : ℕ) (xs : List ℕ) → IsUtf8 (front ++ x ∷ xs) → x < 128 → IsUtf8 xs
IsUtf8-after_ascii front x xs u h =
    let low : get_or (front ++ x ∷ xs) (length front) 0 < 128 = omega (arith, get_or-append_seam front x xs 0) in
    subst IsUtf8 (drop-append-add front (x ∷ xs) 1) (IsUtf8-drop (front ++ x ∷ xs) (length front + 1) u (IsCharBoundary-after_ascii (front ++ x ∷ xs) (length front) u (length-append_cons_lt front x xs) low))

-- ---- the tests

is_digit-small : (a : ℕ) → is_digit a 16 ≡ true → (a < 128) × (digit_value a < 16)
is_digit-small a h = (grind (arith, nat_tests), grind (arith, nat_tests))

short_escape-small : (x c : ℕ) → short_escape x ≡ Some c → (x < 128) × (c < 128)
unfolding short_escape
short_escape-small x c h = (grind (arith, nat_tests), grind (arith, nat_tests))

record IsUnit (a b c d u : ℕ) : Type 0 where
  low_a : a < 128
  low_b : b < 128
  low_c : c < 128
  low_d : d < 128
  small : u < 65536

IsUnit-of_code_unit : (a b c d u : ℕ) → code_unit a b c d ≡ Some u → IsUnit a b c d u
unfolding code_unit
IsUnit-of_code_unit a b c d u h =
    let t = cond_some (is_digit a 16 && is_digit b 16 && is_digit c 16 && is_digit d 16) (digit_value a * 4096 + digit_value b * 256 + digit_value c * 16 + digit_value d) u h in
    let abc = and_parts (is_digit a 16 && is_digit b 16 && is_digit c 16) (is_digit d 16) t.0 in
    let ab = and_parts (is_digit a 16 && is_digit b 16) (is_digit c 16) abc.0 in
    let p = and_parts (is_digit a 16) (is_digit b 16) ab.0 in
    record {
      low_a = (is_digit-small a p.0).0;
      low_b = (is_digit-small b p.1).0;
      low_c = (is_digit-small c ab.1).0;
      low_d = (is_digit-small d abc.1).0;
      small = omega (arith, (is_digit-small a p.0).1, (is_digit-small b p.1).1, (is_digit-small c ab.1).1, (is_digit-small d abc.1).1, t.1);
    }

IsScalar-of_unit : (u : ℕ) → u < 65536 → is_high_surrogate u ≡ false → is_low_surrogate u ≡ false → IsScalar u
IsScalar-of_unit u small high low = grind (arith, nat_tests)

IsScalar-surrogate_pair : (h l : ℕ) → is_high_surrogate h ≡ true → is_low_surrogate l ≡ true → IsScalar (surrogate_pair h l)
IsScalar-surrogate_pair h l high low = grind (arith, nat_tests)

-- ---- the content of a string

IsUtf8-one_byte : (x : ℕ) → x < 128 → IsUtf8 (x ∷ [])
IsUtf8-one_byte x h = IsUtf8-from_ascii (x ∷ []) (λ i. first_low i) where
  first_low : (i : ℕ) → get_or (x ∷ []) i 0 < 128
  first_low zero = h
  first_low (suc i) = omega arith

content-plain_case : (q b c : Bool) (front : List ℕ) (x : ℕ) (xs s : List ℕ) → (x == 34) ≡ q → (x == 92) ≡ b → IsUtf8 (front ++ x ∷ xs)
    → ((t : List ℕ) → content plain xs ≡ Some t → IsUtf8 (front ++ x ∷ t)) → ((t : List ℕ) → IsUtf8 xs → content after_backslash xs ≡ Some t → IsUtf8 t)
    → cond q (Some []) (cond b (content after_backslash xs) (cond c None (prepend (x ∷ []) (content plain xs)))) ≡ Some s → IsUtf8 (front ++ s)
content-plain_case true b c front x xs s is eq u more escape e =
    let low : x < 128 = omega (arith, eqb-true x 34 is) in
    let none : [] ≡ s = same_Some _ _ e in
    subst (λ t. IsUtf8 (front ++ t)) none (subst IsUtf8 (sym (append-nil front)) (IsUtf8-before_ascii front x xs u low))
content-plain_case false true c front x xs s is eq u more escape e =
    let low : x < 128 = omega (arith, eqb-true x 92 eq) in
    IsUtf8-append front s (IsUtf8-before_ascii front x xs u low) (escape s (IsUtf8-after_ascii front x xs u low) e)
content-plain_case false false true front x xs s is eq u more escape e = absurd cc
content-plain_case false false false front x xs s is eq u more escape e =
    let t = option_map-some (λ s. x ∷ s) (content plain xs) s e in
    subst (λ r. IsUtf8 (front ++ r)) t.2 (more t.0 t.1)

content-escape_case : (b : Bool) (x : ℕ) (xs s : List ℕ) → (x == 117) ≡ b → IsUtf8 (x ∷ xs)
    → ((t : List ℕ) → IsUtf8 xs → content plain xs ≡ Some t → IsUtf8 t) → ((t : List ℕ) → IsUtf8 xs → content after_u xs ≡ Some t → IsUtf8 t)
    → cond b (content after_u xs) (option_and_then (λ c. prepend (c ∷ []) (content plain xs)) (short_escape x)) ≡ Some s → IsUtf8 s
content-escape_case true x xs s is u more unicode e =
    let low : x < 128 = omega (arith, eqb-true x 117 is) in
    unicode s (IsUtf8-after_ascii [] x xs u low) e
content-escape_case false x xs s is u more unicode e =
    let c = option_and_then-some (λ c. prepend (c ∷ []) (content plain xs)) (short_escape x) s e in
    let low = short_escape-small x c.0 c.1 in
    let t = option_map-some (λ s. c.0 ∷ s) (content plain xs) s c.2 in
    subst IsUtf8 t.2 (IsUtf8-append (c.0 ∷ []) t.0 (IsUtf8-one_byte c.0 low.1) (more t.0 (IsUtf8-after_ascii [] x xs u low.0) t.1))

content-unit_case : (high low : Bool) (n : ℕ) (xs s : List ℕ) → n < 65536 → is_high_surrogate n ≡ high → is_low_surrogate n ≡ low → IsUtf8 xs
    → ((t : List ℕ) → content plain xs ≡ Some t → IsUtf8 t) → ((t : List ℕ) → content (after_high n) xs ≡ Some t → is_high_surrogate n ≡ true → IsUtf8 t)
    → cond high (content (after_high n) xs) (cond low None (prepend (encode_utf8 n) (content plain xs))) ≡ Some s → IsUtf8 s
content-unit_case true low n xs s small is eq u more pair e = pair s e is
content-unit_case false true n xs s small is eq u more pair e = absurd cc
content-unit_case false false n xs s small is eq u more pair e =
    let t = option_map-some (λ s. encode_utf8 n ++ s) (content plain xs) s e in
    subst IsUtf8 t.2 (IsUtf8-append (encode_utf8 n) t.0 (IsUtf8-encode n (IsScalar-of_unit n small is eq)) (more t.0 t.1))

IsUtf8-past_four : (a b c d : ℕ) (xs : List ℕ) → IsUtf8 (a ∷ b ∷ c ∷ d ∷ xs) → a < 128 → b < 128 → c < 128 → d < 128 → IsUtf8 xs
IsUtf8-past_four a b c d xs u la lb lc ld =
    IsUtf8-after_ascii [] d xs (IsUtf8-after_ascii [] c (d ∷ xs) (IsUtf8-after_ascii [] b (c ∷ d ∷ xs) (IsUtf8-after_ascii [] a (b ∷ c ∷ d ∷ xs) u la) lb) lc) ld

content-low_case : (low : Bool) (h l : ℕ) (xs s : List ℕ) → is_high_surrogate h ≡ true → is_low_surrogate l ≡ low → ((t : List ℕ) → content plain xs ≡ Some t → IsUtf8 t)
    → cond low (prepend (encode_utf8 (surrogate_pair h l)) (content plain xs)) None ≡ Some s → IsUtf8 s
content-low_case false h l xs s high is more e = absurd cc
content-low_case true h l xs s high is more e =
    let t = option_map-some (λ s. encode_utf8 (surrogate_pair h l) ++ s) (content plain xs) s e in
    subst IsUtf8 t.2 (IsUtf8-append (encode_utf8 (surrogate_pair h l)) t.0 (IsUtf8-encode (surrogate_pair h l) (IsScalar-surrogate_pair h l high is)) (more t.0 t.1))

content-pair_case : (b : Bool) (h s u a b' c d : ℕ) (xs r : List ℕ) → ((s == 92) && (u == 117)) ≡ b → is_high_surrogate h ≡ true → IsUtf8 (s ∷ u ∷ a ∷ b' ∷ c ∷ d ∷ xs)
    → (IsUtf8 xs → (t : List ℕ) → content plain xs ≡ Some t → IsUtf8 t)
    → cond b (option_and_then (λ l. cond (is_low_surrogate l) (prepend (encode_utf8 (surrogate_pair h l)) (content plain xs)) None) (code_unit a b' c d)) None ≡ Some r → IsUtf8 r
content-pair_case false h s u a b' c d xs r is high text more e = absurd cc
content-pair_case true h s u a b' c d xs r is high text more e =
    let two = and_parts (s == 92) (u == 117) is in
    let low_s : s < 128 = omega (arith, eqb-true s 92 two.0) in
    let low_u : u < 128 = omega (arith, eqb-true u 117 two.1) in
    let l = option_and_then-some (λ l. cond (is_low_surrogate l) (prepend (encode_utf8 (surrogate_pair h l)) (content plain xs)) None) (code_unit a b' c d) r e in
    let k = IsUnit-of_code_unit a b' c d l.0 l.1 in
    let rest : IsUtf8 xs = IsUtf8-past_four a b' c d xs (IsUtf8-after_ascii [] u (a ∷ b' ∷ c ∷ d ∷ xs) (IsUtf8-after_ascii [] s (u ∷ a ∷ b' ∷ c ∷ d ∷ xs) text low_s) low_u) k.low_a k.low_b k.low_c k.low_d in
    content-low_case (is_low_surrogate l.0) h l.0 xs r high refl (more rest) l.2

mutual
  unfolding content

  pub content-plain_IsUtf8 : (front xs s : List ℕ) → IsUtf8 (front ++ xs) → content plain xs ≡ Some s → IsUtf8 (front ++ s)
  content-plain_IsUtf8 front [] s u e = absurd cc
  content-plain_IsUtf8 front (x ∷ xs) s u e =
      content-plain_case (x == 34) (x == 92) (nat_lt x 32) front x xs s refl refl u
      (λ t is. subst IsUtf8 (append_assoc front (x ∷ []) t) (content-plain_IsUtf8 (front ++ x ∷ []) xs t (subst IsUtf8 (sym (append_assoc front (x ∷ []) xs)) u) is)) (λ t rest is. content-after_backslash_IsUtf8 xs t rest is) e

  content-after_backslash_IsUtf8 : (xs s : List ℕ) → IsUtf8 xs → content after_backslash xs ≡ Some s → IsUtf8 s
  content-after_backslash_IsUtf8 [] s u e = absurd cc
  content-after_backslash_IsUtf8 (x ∷ xs) s u e = content-escape_case (x == 117) x xs s refl u (λ t rest is. content-plain_IsUtf8 [] xs t rest is) (λ t rest is. content-after_u_IsUtf8 xs t rest is) e

  content-after_u_IsUtf8 : (xs s : List ℕ) → IsUtf8 xs → content after_u xs ≡ Some s → IsUtf8 s
  content-after_u_IsUtf8 (a ∷ b ∷ c ∷ d ∷ xs) s u e =
      let n = option_and_then-some (λ n. cond (is_high_surrogate n) (content (after_high n) xs) (cond (is_low_surrogate n) None (prepend (encode_utf8 n) (content plain xs)))) (code_unit a b c d) s e in
      let k = IsUnit-of_code_unit a b c d n.0 n.1 in
      let rest : IsUtf8 xs = IsUtf8-past_four a b c d xs u k.low_a k.low_b k.low_c k.low_d in
      content-unit_case (is_high_surrogate n.0) (is_low_surrogate n.0) n.0 xs s k.small refl refl rest (λ t is. content-plain_IsUtf8 [] xs t rest is) (λ t is high. content-after_high_IsUtf8 n.0 xs t high rest is) n.2
  content-after_u_IsUtf8 xs s u e = absurd cc

  content-after_high_IsUtf8 : (h : ℕ) (xs s : List ℕ) → is_high_surrogate h ≡ true → IsUtf8 xs → content (after_high h) xs ≡ Some s → IsUtf8 s
  content-after_high_IsUtf8 h (s ∷ t ∷ a ∷ b ∷ c ∷ d ∷ xs) r high u e =
      content-pair_case ((s == 92) && (t == 117)) h s t a b c d xs r refl high u (λ rest w is. content-plain_IsUtf8 [] xs w rest is) e
  content-after_high_IsUtf8 h xs s high u e = absurd cc
