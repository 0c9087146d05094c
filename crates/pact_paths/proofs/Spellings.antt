-- The spellings of tokens, and the token that is read at the front of a text.
use Rattle.std.specs.{Option.{option_or}, List.{list_all, position_or_len, before_first, after_first, AllByRecursion, flat_map}, Char.{is_ascii_digit}}
use Rattle.std.specs.{Str.{all_ascii_digits}, Str.Parse.{digits_value}}
use Rattle.std.proofs.Common.{◌≡◌, ◌≢◌, inl, inr, ℕ, suc, ◌+◌, ◌<◌, ◌≤◌, ◌^◌, Bool, true, false, not, ◌&&◌, cond, eqb, ltb, leb, List, [], ◌∷◌, ◌++◌, length, take, drop, Option, Some, None, option_map, option_and_then, refl, sym, ap, ◌∙◌, subst, arith, true≢false, zero-add, length-append, append_assoc, append-nil, eq-eqb, ne_eqb, eqb-true, lt-ltb, ltb-true, le-leb, leb-true, decimal, le_refl, one-add, take-append-drop, length-take-le, lit<}
use Rattle.std.proofs.{lemmas.Str.Parse.{numerals_by_value, tells_all_ascii_digits, digits_value_short, IsNumeralModel}, Math.Dec.{eqb-suc-suc}}
use Rattle.std.proofs.{Math.Seq.{take-append-add, drop-append-add, take-append_seam}, lemmas.Bool.{and_parts, and_from, not-true, not_from_false}}
use Rattle.std.proofs.{lemmas.Option.{cond_some, option_and_then_some}, lemmas.List.Sums.{prefix_len-le-length}}
use Rattle.std.proofs.lemmas.Fmt.{digits_decimal, digits_value-decimal, length-decimal-le, decimal_is_IsNumeral}
use Rattle.pact_paths.specs.Paths.{Token, named, indexed, any}
use Rattle.pact_paths.specs.Spelling.{is_special, is_plain, is_index, IsQuotable, IsSpelled, AreSpelled, IsToken, token_text}
use Rattle.pact_paths.specs.PathReading.{Read, star, plain, quoted, index, closed_star, dotted, bracketed, following, cut, token_in}

-- ---- bytes that pass a test, or don't

pub AllByRecursion-weaken : (P Q : ℕ → Type 0) → ((b : ℕ) → P b → Q b) → (n : List ℕ) → AllByRecursion P n → AllByRecursion Q n
AllByRecursion-weaken P Q f [] h = tt
AllByRecursion-weaken P Q f (b ∷ n) h = (f b h.0, AllByRecursion-weaken P Q f n h.1)

pub AllByRecursion-no_special : (n : List ℕ) → list_all (λ b. not (is_special b)) n ≡ true → AllByRecursion (λ b. is_special b ≡ false) n
AllByRecursion-no_special [] h = tt
AllByRecursion-no_special (b ∷ n) h =
    let parts = and_parts (not (is_special b)) (list_all (λ b. not (is_special b)) n) h in
    (not-true (is_special b) parts.0, AllByRecursion-no_special n parts.1)

pub list_all-no_special : (n : List ℕ) → AllByRecursion (λ b. is_special b ≡ false) n → list_all (λ b. not (is_special b)) n ≡ true
list_all-no_special [] h = refl
list_all-no_special (b ∷ n) h = and_from (not (is_special b)) (list_all (λ b. not (is_special b)) n) (not_from_false (is_special b) h.0) (list_all-no_special n h.1)

is_special-not_equal : (b c : ℕ) → is_special c ≡ true → is_special b ≡ false → b ≢ c
is_special-not_equal b c s h e = true≢false (sym s ∙ sym (ap is_special e) ∙ h)

is_ascii_digit-not_equal : (b c : ℕ) → is_ascii_digit c ≡ false → is_ascii_digit b ≡ true → b ≢ c
is_ascii_digit-not_equal b c s h e = true≢false (sym h ∙ ap is_ascii_digit e ∙ s)

all_ascii_digits-lack : (c : ℕ) (ds : List ℕ) → is_ascii_digit c ≡ false → all_ascii_digits ds ≡ true → AllByRecursion (λ b. b ≢ c) ds
all_ascii_digits-lack c [] s h = tt
all_ascii_digits-lack c (d ∷ ds) s h =
    let parts = and_parts (is_ascii_digit d) (all_ascii_digits ds) h in
    (is_ascii_digit-not_equal d c s parts.0, all_ascii_digits-lack c ds s parts.1)

-- a front in which no byte passes is passed over
pub position_or_len-append : (p : ℕ → Bool) (n w : List ℕ) → AllByRecursion (λ b. p b ≡ false) n → position_or_len p (n ++ w) ≡ length n + position_or_len p w
position_or_len-append p [] w h = sym (zero-add (position_or_len p w))
position_or_len-append p (b ∷ n) w h = ap (λ t. cond (not t) (1 + position_or_len p (n ++ w)) 0) h.0 ∙ omega (arith, position_or_len-append p n w h.1)

position_or_len-cons_plain : (b : ℕ) (n : List ℕ) → eqb (position_or_len is_special n) (length n) ≡ list_all (λ b. not (is_special b)) n → (v : Bool) → is_special b ≡ v
    → eqb (cond (not v) (1 + position_or_len is_special n) 0) (suc (length n)) ≡ (not v && list_all (λ b. not (is_special b)) n)
position_or_len-cons_plain b n h true e = ne_eqb 0 (suc (length n)) (omega arith)
position_or_len-cons_plain b n h false e = ap (λ k. eqb k (suc (length n))) (one-add (position_or_len is_special n)) ∙ eqb-suc-suc (position_or_len is_special n) (length n) ∙ h

-- no byte is special if and only if the first special one would be at the end
position_or_len-no_special : (n : List ℕ) → eqb (position_or_len is_special n) (length n) ≡ list_all (λ b. not (is_special b)) n
position_or_len-no_special [] = refl
position_or_len-no_special (b ∷ n) = position_or_len-cons_plain b n (position_or_len-no_special n) (is_special b) refl

pub is_plain_by_position : (n : List ℕ) → 0 < length n → eqb (position_or_len is_special n) (length n) ≡ is_plain n
is_plain_by_position n some = position_or_len-no_special n ∙ sym (ap (λ b. b && list_all (λ b. not (is_special b)) n) (lt-ltb 0 (length n) some))

-- ---- what is cut at a mark

pub cut-append : (c : ℕ) (n w : List ℕ) → AllByRecursion (λ b. b ≢ c) n → cut c (n ++ c ∷ w) ≡ Some (n, w)
cut-append c n w h =
    let here : position_or_len (λ b. eqb b c) (c ∷ w) ≡ 0 = rw (eq-eqb c c refl) refl in
    let past = position_or_len-append (λ b. eqb b c) n (c ∷ w) (AllByRecursion-weaken (λ b. b ≢ c) (λ b. eqb b c ≡ false) (λ b ne. ne_eqb b c ne) n h) in
    let place : position_or_len (λ b. eqb b c) (n ++ c ∷ w) ≡ length n = omega (arith, past, here) in
    let within : length n < length (n ++ c ∷ w) = omega (arith, length-append n (c ∷ w)) in
    ap (λ (k : ℕ). cond (ltb k (length (n ++ c ∷ w))) (Some (take k (n ++ c ∷ w), drop (k + 1) (n ++ c ∷ w))) None) place
    ∙ rw (lt-ltb (length n) (length (n ++ c ∷ w)) within, take-append_seam n (c ∷ w), drop-append-add n (c ∷ w) 1) refl

position_or_len-joins_cons : (c b : ℕ) (t : List ℕ) (k : ℕ) (v : Bool) → eqb b c ≡ v → (k < length t → t ≡ take k t ++ c ∷ drop (k + 1) t) → cond (not v) (1 + k) 0 < suc (length t)
    → b ∷ t ≡ take (cond (not v) (1 + k) 0) (b ∷ t) ++ c ∷ drop (cond (not v) (1 + k) 0 + 1) (b ∷ t)
position_or_len-joins_cons c b t k true e more h = ap (λ x. x ∷ t) (eqb-true b c e)
position_or_len-joins_cons c b t k false e more h =
    let down : suc k + 1 ≡ suc (k + 1) = omega arith in
    subst (λ m. b ∷ t ≡ take m (b ∷ t) ++ c ∷ drop (m + 1) (b ∷ t)) (sym (one-add k))
    (ap (λ x. b ∷ x) (more (omega arith)) ∙ ap (λ j. b ∷ (take k t ++ c ∷ drop j (b ∷ t))) (sym down))

before_first-joins_after_first : (c : ℕ) (t : List ℕ) → position_or_len (λ b. eqb b c) t < length t → t ≡ before_first (λ b. eqb b c) t ++ c ∷ after_first (λ b. eqb b c) t
before_first-joins_after_first c [] h = absurd (omega arith)
before_first-joins_after_first c (b ∷ t) h = position_or_len-joins_cons c b t (position_or_len (λ b. eqb b c) t) (eqb b c) refl (before_first-joins_after_first c t) h

take-passes_cons : (p : ℕ → Bool) (Q : ℕ → Type 0) (b : ℕ) (bs : List ℕ) → (p b ≡ false → Q b) → AllByRecursion Q (take (position_or_len p bs) bs) → (t : Bool) → p b ≡ t
    → AllByRecursion Q (take (cond (not t) (1 + position_or_len p bs) 0) (b ∷ bs))
take-passes_cons p Q b bs h ih true e = tt
take-passes_cons p Q b bs h ih false e = subst (λ n. AllByRecursion Q (take n (b ∷ bs))) (sym (one-add (position_or_len p bs))) (h e, ih)

pub take-front_passes : (p : ℕ → Bool) (Q : ℕ → Type 0) (bs : List ℕ) → ((b : ℕ) → p b ≡ false → Q b) → AllByRecursion Q (take (position_or_len p bs) bs)
take-front_passes p Q [] h = tt
take-front_passes p Q (b ∷ bs) h = take-passes_cons p Q b bs (h b) (take-front_passes p Q bs h) (p b) refl

eqb-false_not_equal : (b c : ℕ) → eqb b c ≡ false → b ≢ c
eqb-false_not_equal b c h e = true≢false (sym (eq-eqb b c e) ∙ h)

pub cut-some_split : (c : ℕ) (t : List ℕ) (parts : List ℕ × List ℕ) → cut c t ≡ Some parts → (t ≡ parts.0 ++ c ∷ parts.1) × AllByRecursion (λ b. b ≢ c) parts.0
cut-some_split c t parts e =
    let p = cond_some (ltb (position_or_len (λ b. eqb b c) t) (length t)) (before_first (λ b. eqb b c) t, after_first (λ b. eqb b c) t) parts e in
    subst (λ (x : List ℕ × List ℕ). (t ≡ x.0 ++ c ∷ x.1) × AllByRecursion (λ b. b ≢ c) x.0) p.1
    (before_first-joins_after_first c t (ltb-true (position_or_len (λ b. eqb b c) t) (length t) p.0), take-front_passes (λ b. eqb b c) (λ b. b ≢ c) t (λ b h. eqb-false_not_equal b c h))

pub following-some : (c : ℕ) (t rest : List ℕ) → following c t ≡ Some rest → t ≡ c ∷ rest
following-some c [] rest e = cc
following-some c (b ∷ bs) rest e =
    let p = cond_some (eqb b c) bs rest e in
    ap (λ x. x ∷ bs) (eqb-true b c p.0) ∙ ap (λ y. c ∷ y) p.1

-- ---- a spelling is read

-- nothing, or a byte that no name without quotes goes on with
abbrev pub ends_names : List ℕ → Bool
ends_names [] = true
ends_names (b ∷ bs) = is_special b

pub position_or_len-ends_names : (w : List ℕ) → ends_names w ≡ true → position_or_len is_special w ≡ 0
position_or_len-ends_names [] h = refl
position_or_len-ends_names (b ∷ bs) h = ap (λ t. cond (not t) (1 + position_or_len is_special bs) 0) h

-- A spelling at the front is read as its token, unless it is a name without quotes that goes on.
pub record Reads (f : List ℕ) (u : Token) (w : List ℕ) : Type 0 where
  pub token : Token
  pub rest : List ℕ
  pub found : token_in (f ++ w) ≡ Some (token, rest)
  pub short : length rest ≤ length w
  pub whole : ends_names w ≡ true → (token ≡ u) × (rest ≡ w)

Reads-of_token_in : (f : List ℕ) (u : Token) (w : List ℕ) → token_in (f ++ w) ≡ Some (u, w) → Reads f u w
Reads-of_token_in f u w h = record {
  token = u;
  rest = w;
  found = h;
  short = le_refl (length w);
  whole = λ _. (refl, refl);
}

plain-append : (n w : List ℕ) → is_plain n ≡ true → plain (n ++ w) ≡ Some (named (n ++ take (position_or_len is_special w) w), drop (position_or_len is_special w) w)
plain-append n w h =
    let k = position_or_len is_special w in
    let parts = and_parts (ltb 0 (length n)) (list_all (λ b. not (is_special b)) n) h in
    let some : 0 < length n = ltb-true 0 (length n) parts.0 in
    let more : 0 < length n + k = omega arith in
    ap (λ (m : ℕ). cond (ltb 0 m) (Some (named (take m (n ++ w)), drop m (n ++ w))) None) (position_or_len-append is_special n w (AllByRecursion-no_special n parts.1))
    ∙ rw (lt-ltb 0 (length n + k) more, take-append-add n w k, drop-append-add n w k) refl

dotted-plain_first : (n w : List ℕ) → is_plain n ≡ true → dotted (n ++ w) ≡ plain (n ++ w)
dotted-plain_first [] w h = absurd (true≢false (sym h))
dotted-plain_first (b ∷ n) w h =
    let parts = and_parts (ltb 0 (length (b ∷ n))) (list_all (λ b. not (is_special b)) (b ∷ n)) h in
    let star_no : b ≢ 42 = is_special-not_equal b 42 refl (AllByRecursion-no_special (b ∷ n) parts.1).0 in
    rw (ne_eqb b 42 star_no) refl

Reads-name : (f n w : List ℕ) → f ≡ 46 ∷ n → is_plain n ≡ true → Reads f (named n) w
Reads-name f n w e h =
    let k = position_or_len is_special w in record {
      token = named (n ++ take k w);
      rest = drop k w;
      found = ap (λ b. token_in (b ++ w)) e ∙ ap (λ r. option_or r None) (dotted-plain_first n w h ∙ plain-append n w h);
      short = omega (arith, ap length (take-append-drop k w), length-append (take k w) (drop k w));
      whole = λ ends.
          let none : k ≡ 0 = position_or_len-ends_names w ends in
          (ap (λ j. named (n ++ take j w)) none ∙ ap named (append-nil n), ap (λ j. drop j w) none);
    }

bracketed-quoted : (n w : List ℕ) → IsQuotable n → bracketed (39 ∷ (n ++ 39 ∷ 93 ∷ w)) ≡ Some (named n, w)
bracketed-quoted n w q =
    ap (λ r. option_or (option_and_then (λ (parts : List ℕ × List ℕ). option_map (λ (rest : List ℕ). (named parts.0, rest)) (following 93 parts.1)) r) (index (39 ∷ (n ++ 39 ∷ 93 ∷ w)))) (cut-append 39 n (93 ∷ w) q)

bracketed-index_first : (ds w : List ℕ) → is_index ds ≡ true → bracketed (ds ++ w) ≡ index (ds ++ w)
bracketed-index_first [] w h = absurd (true≢false (sym h))
bracketed-index_first (d ∷ ds) w h =
    let digits = and_parts (all_ascii_digits (d ∷ ds)) (ltb 0 (length (d ∷ ds)) && leb (length (d ∷ ds)) 9) h in
    let digit : is_ascii_digit d ≡ true = (and_parts (is_ascii_digit d) (all_ascii_digits ds) digits.0).0 in
    let star_no : d ≢ 42 = is_ascii_digit-not_equal d 42 refl digit in
    let quote_no : d ≢ 39 = is_ascii_digit-not_equal d 39 refl digit in
    rw (ne_eqb d 42 star_no, ne_eqb d 39 quote_no) refl

index-digits : (ds w : List ℕ) → is_index ds ≡ true → index (ds ++ 93 ∷ w) ≡ Some (indexed (digits_value 10 ds), w)
index-digits ds w h =
    let digits = and_parts (all_ascii_digits ds) (ltb 0 (length ds) && leb (length ds) 9) h in
    ap (option_and_then (λ (parts : List ℕ × List ℕ). cond (is_index parts.0) (Some (indexed (digits_value 10 parts.0), parts.1)) None)) (cut-append 93 ds w (all_ascii_digits-lack 93 ds refl digits.0))
    ∙ ap (λ b. cond b (Some (indexed (digits_value 10 ds), w)) None) h

pub Reads-of_spelled : (f : List ℕ) (u : Token) (w : List ℕ) → IsSpelled f u → Reads f u w
Reads-of_spelled f (named n) w (inl h) = Reads-name f n w h.0 h.1
Reads-of_spelled f (named n) w (inr h) =
    Reads-of_token_in f (named n) w (ap (λ b. token_in (b ++ w)) h.0 ∙ ap (λ t. token_in (91 ∷ 39 ∷ t)) (append_assoc n (39 ∷ 93 ∷ []) w) ∙ bracketed-quoted n w h.1)
Reads-of_spelled f (indexed i) w h =
    Reads-of_token_in f (indexed i) w (ap (λ b. token_in (b ++ w)) h.1 ∙ ap (λ t. token_in (91 ∷ t)) (append_assoc h.0 (93 ∷ []) w) ∙ bracketed-index_first h.0 (93 ∷ w) h.2 ∙ index-digits h.0 w h.2
    ∙ ap (λ (j : ℕ). Some (indexed j, w)) (sym h.3))
Reads-of_spelled f any w (inl h) = Reads-of_token_in f any w (ap (λ b. token_in (b ++ w)) h)
Reads-of_spelled f any w (inr h) = Reads-of_token_in f any w (ap (λ b. token_in (b ++ w)) h)

-- every spelling ends the name before it
ends_names-spelled : (f : List ℕ) (u : Token) (w : List ℕ) → IsSpelled f u → ends_names (f ++ w) ≡ true
ends_names-spelled f (named n) w (inl h) = ap (λ b. ends_names (b ++ w)) h.0
ends_names-spelled f (named n) w (inr h) = ap (λ b. ends_names (b ++ w)) h.0
ends_names-spelled f (indexed i) w h = ap (λ b. ends_names (b ++ w)) h.1
ends_names-spelled f any w (inl h) = ap (λ b. ends_names (b ++ w)) h
ends_names-spelled f any w (inr h) = ap (λ b. ends_names (b ++ w)) h

pub ends_names-next_spelled : (f : List ℕ) (u : Token) (us : List Token) (w : List ℕ) → AreSpelled f (u ∷ us) → ends_names (f ++ w) ≡ true
ends_names-next_spelled f u us w h = ap (λ b. ends_names (b ++ w)) h.2 ∙ ap ends_names (append_assoc h.0 h.1 w) ∙ ends_names-spelled h.0 u (h.1 ++ w) h.3

pub ends_names-all_spelled : (f : List ℕ) (us : List Token) (w : List ℕ) → AreSpelled f us → ends_names w ≡ true → ends_names (f ++ w) ≡ true
ends_names-all_spelled f [] w h e = ap (λ b. ends_names (b ++ w)) h ∙ e
ends_names-all_spelled f (u ∷ us) w h e = ends_names-next_spelled f u us w h

-- ---- what is read is a spelling

abbrev Each : (Token × List ℕ → Type 0) → Read → Type 0
Each P None = Unit {0}
Each P (Some x) = P x

Each-option_or : (P : Token × List ℕ → Type 0) (a b : Read) → Each P a → Each P b → Each P (option_or a b)
Each-option_or P None b h k = k
Each-option_or P (Some x) b h k = h

Each-option_and_then : {A : Type 0} (P : Token × List ℕ → Type 0) (f : A → Read) (o : Option A) → ((x : A) → o ≡ Some x → Each P (f x)) → Each P (option_and_then f o)
Each-option_and_then P f None h = tt
Each-option_and_then P f (Some x) h = h x refl

Each-option_map : {A : Type 0} (P : Token × List ℕ → Type 0) (f : A → Token × List ℕ) (o : Option A) → ((x : A) → o ≡ Some x → P (f x)) → Each P (option_map f o)
Each-option_map P f None h = tt
Each-option_map P f (Some x) h = h x refl

Each-cond : (P : Token × List ℕ → Type 0) (b : Bool) (x : Token × List ℕ) → (b ≡ true → P x) → Each P (cond b (Some x) None)
Each-cond P true x h = h refl
Each-cond P false x h = tt

Each-some : (P : Token × List ℕ → Type 0) (r : Read) (x : Token × List ℕ) → Each P r → r ≡ Some x → P x
Each-some P r x h e = let Q : Read → Type 0 = Each P in subst Q e h

-- the text is a spelling of the token, and then the rest
abbrev pub Takes : List ℕ → Token × List ℕ → Type 0
Takes t x = (f : List ℕ) × (t ≡ f ++ x.1) × IsSpelled f x.0

Takes-plain : (t u : List ℕ) → t ≡ 46 ∷ u → Each (Takes t) (plain u)
Takes-plain t u at =
    let k = position_or_len is_special u in
    Each-cond (Takes t) (ltb 0 k) (named (take k u), drop k u) (λ e.
    let some : 0 < k = ltb-true 0 k e in
    let all : k ≤ length u = prefix_len-le-length (λ b. not (is_special b)) u in
    let long : length (take k u) ≡ k = length-take-le k u all in
    let filled : 0 < length (take k u) = omega arith in (
      46 ∷ take k u,
      at ∙ ap (λ b. 46 ∷ b) (sym (take-append-drop k u)),
      inl (
        refl,
        and_from (ltb 0 (length (take k u))) (list_all (λ b. not (is_special b)) (take k u)) (lt-ltb 0 (length (take k u)) filled)
            (list_all-no_special (take k u) (take-front_passes is_special (λ b. is_special b ≡ false) u (λ b h. h))),
      ),
    ))

Takes-dotted : (t u : List ℕ) → t ≡ 46 ∷ u → Each (Takes t) (dotted u)
Takes-dotted t u at =
    Each-option_or (Takes t) (star u) (plain u) (Each-option_map (Takes t) (λ (rest : List ℕ). (any, rest)) (following 42 u) (λ rest e. (46 ∷ 42 ∷ [], at ∙ ap (λ b. 46 ∷ b) (following-some 42 u rest e), inl refl)))
    (Takes-plain t u at)

Takes-closed_star : (t u : List ℕ) → t ≡ 91 ∷ u → Each (Takes t) (closed_star u)
Takes-closed_star t u at =
    Each-option_map (Takes t) (λ (rest : List ℕ). (any, rest)) (option_and_then (following 93) (following 42 u)) (λ rest e.
    option_and_then_some (following 93) (following 42 u) rest e (λ v found closed.
    (91 ∷ 42 ∷ 93 ∷ [], at ∙ ap (λ b. 91 ∷ b) (following-some 42 u v found) ∙ ap (λ b. 91 ∷ 42 ∷ b) (following-some 93 v rest closed), inr refl)))

Takes-quoted : (t u : List ℕ) → t ≡ 91 ∷ u → Each (Takes t) (quoted u)
Takes-quoted t u at =
    Each-option_and_then (Takes t) (λ (parts : List ℕ × List ℕ). option_map (λ (rest : List ℕ). (named parts.0, rest)) (following 93 parts.1)) (option_and_then (cut 39) (following 39 u)) (λ parts e.
    Each-option_map (Takes t) (λ (rest : List ℕ). (named parts.0, rest)) (following 93 parts.1) (λ rest closed.
    option_and_then_some (cut 39) (following 39 u) parts e (λ v opened found.
    let halves = cut-some_split 39 v parts found in (
      91 ∷ 39 ∷ (parts.0 ++ 39 ∷ 93 ∷ []),
      at ∙ ap (λ b. 91 ∷ b) (following-some 39 u v opened) ∙ ap (λ b. 91 ∷ 39 ∷ b) halves.0 ∙ ap (λ b. 91 ∷ 39 ∷ (parts.0 ++ 39 ∷ b)) (following-some 93 parts.1 rest closed)
          ∙ ap (λ b. 91 ∷ 39 ∷ b) (sym (append_assoc parts.0 (39 ∷ 93 ∷ []) rest)),
      inr (refl, halves.1),
    ))))

Takes-index : (t u : List ℕ) → t ≡ 91 ∷ u → Each (Takes t) (index u)
Takes-index t u at =
    Each-option_and_then (Takes t) (λ (parts : List ℕ × List ℕ). cond (is_index parts.0) (Some (indexed (digits_value 10 parts.0), parts.1)) None) (cut 93 u) (λ parts e.
    Each-cond (Takes t) (is_index parts.0) (indexed (digits_value 10 parts.0), parts.1) (λ test.
    (91 ∷ (parts.0 ++ 93 ∷ []), at ∙ ap (λ b. 91 ∷ b) (cut-some_split 93 u parts e).0 ∙ ap (λ b. 91 ∷ b) (sym (append_assoc parts.0 (93 ∷ []) parts.1)), (parts.0, refl, test, refl))))

Takes-token_in : (t : List ℕ) → Each (Takes t) (token_in t)
Takes-token_in t =
    Each-option_or (Takes t) (option_and_then dotted (following 46 t)) (option_and_then bracketed (following 91 t))
    (Each-option_and_then (Takes t) dotted (following 46 t) (λ u e. Takes-dotted t u (following-some 46 t u e)))
    (Each-option_and_then (Takes t) bracketed (following 91 t) (λ u e.
    let at = following-some 91 t u e in
    Each-option_or (Takes t) (closed_star u) (option_or (quoted u) (index u)) (Takes-closed_star t u at) (Each-option_or (Takes t) (quoted u) (index u) (Takes-quoted t u at) (Takes-index t u at))))

pub Takes-found_token : (t : List ℕ) (x : Token) (rest : List ℕ) → token_in t ≡ Some (x, rest) → Takes t (x, rest)
Takes-found_token t x rest e = Each-some (Takes t) (token_in t) (x, rest) (Takes-token_in t) e

-- ---- tokens within the limits, and the canonical spelling

IsNumeralModel-decimal : IsNumeralModel (λ ds. all_ascii_digits ds ≡ true) (digits_value 10)
IsNumeralModel-decimal = numerals_by_value _ tells_all_ascii_digits

IsToken-of_spelled : (f : List ℕ) (u : Token) → IsSpelled f u → IsToken u
IsToken-of_spelled f (named n) (inl h) =
    let parts = and_parts (ltb 0 (length n)) (list_all (λ b. not (is_special b)) n) h.1 in
    AllByRecursion-weaken (λ b. is_special b ≡ false) (λ b. b ≢ 39) (λ b e. is_special-not_equal b 39 refl e) n (AllByRecursion-no_special n parts.1)
IsToken-of_spelled f (named n) (inr h) = h.1
IsToken-of_spelled f (indexed i) h =
    let digits = and_parts (all_ascii_digits h.0) (ltb 0 (length h.0) && leb (length h.0) 9) h.2 in
    let few : length h.0 ≤ 9 = leb-true (length h.0) 9 (and_parts (ltb 0 (length h.0)) (leb (length h.0) 9) digits.1).1 in
    let small : digits_value 10 h.0 < 10 ^ 9 = digits_value_short IsNumeralModel-decimal h.0 9 digits.0 few in
    subst (λ n. n < 10 ^ 9) (sym h.3) small
IsToken-of_spelled f any h = tt

pub IsToken-of_all_spelled : (f : List ℕ) (us : List Token) → AreSpelled f us → AllByRecursion IsToken us
IsToken-of_all_spelled f [] h = tt
IsToken-of_all_spelled f (u ∷ us) h = (IsToken-of_spelled h.0 u h.3, IsToken-of_all_spelled h.1 us h.4)

IsSpelled-name : (n : List ℕ) → IsQuotable n → (b : Bool) → is_plain n ≡ b → IsSpelled (cond b (46 ∷ n) (91 ∷ 39 ∷ (n ++ 39 ∷ 93 ∷ []))) (named n)
IsSpelled-name n h true e = inl (refl, e)
IsSpelled-name n h false e = inr (refl, h)

is_index-decimal : (i : ℕ) → i < 10 ^ 9 → is_index (decimal i) ≡ true
is_index-decimal i h =
    let fits : i < 2 ^ 64 = omega arith in
    let numeral = (decimal_is_IsNumeral i fits).0 in
    let some : 0 < length (decimal i) = omega (arith, numeral) in
    let few : length (decimal i) ≤ 9 = length-decimal-le 9 i (lit< tt) h fits in
    and_from (all_ascii_digits (decimal i)) (ltb 0 (length (decimal i)) && leb (length (decimal i)) 9) (digits_decimal IsNumeralModel-decimal i fits)
    (and_from (ltb 0 (length (decimal i))) (leb (length (decimal i)) 9) (lt-ltb 0 (length (decimal i)) some) (le-leb (length (decimal i)) 9 few))

IsSpelled-token_text : (u : Token) → IsToken u → IsSpelled (token_text u) u
IsSpelled-token_text (named n) h = IsSpelled-name n h (is_plain n) refl
IsSpelled-token_text (indexed i) h =
    let fits : i < 2 ^ 64 = omega arith in
    (decimal i, refl, is_index-decimal i h, sym (digits_value-decimal IsNumeralModel-decimal i fits))
IsSpelled-token_text any h = inr refl

pub AreSpelled-flat_map_token_text : (us : List Token) → AllByRecursion IsToken us → AreSpelled (flat_map token_text us) us
AreSpelled-flat_map_token_text [] h = refl
AreSpelled-flat_map_token_text (u ∷ us) h = (token_text u, flat_map token_text us, refl, IsSpelled-token_text u h.0, AreSpelled-flat_map_token_text us h.1)
