-- Each text has one reading, and `path_in` computes it.
use Rattle.std.specs.List.{flat_map}
use Rattle.std.proofs.Common.{◌≡◌, ◌≢◌, ◌⊎◌, inl, inr, ℕ, zero, suc, ◌+◌, ◌-◌, ◌<◌, ◌≤◌, Bool, true, false, List, [], ◌∷◌, ◌++◌, length, take, Option, Some, None, Result, Ok, Err, refl, sym, ap, ap₂, ◌∙◌, subst, arith, true≢false, length-append, append_assoc, append-nil, ne_eqb, take_at, IfOk}
use Rattle.std.proofs.{Math.Path.{fun_ext}, lemmas.Option.{none-some, same_Some, some_pair_parts}, lemmas.List.{nil_from_length}}
use Rattle.pact_paths.specs.PathReading.{Read, following, token_in, tokens_in, first_of_more, with_front, with_all, from_root, path_in, computed_path, path_or_none}
use Rattle.pact_paths.specs.{Paths.{Token}, Spelling.{IsSpelled, AreSpelled, IsPathText, IsPath, token_text, path_text}, Outcome.{Gives, GivesChecked, checked}}
use Rattle.pact_paths.specs.{Readings.{IsFront, IsLongestFront, StopsAt, IsReading, IsTheReading, ReadsPaths}, declared.path_reader.PathFault.{PathFault}}
use Rattle.pact_paths.specs.declared.path_reader.PathFault.TheVariants.{NoRoot, BadToken, TooManyTokens, Memory}
use Rattle.pact_paths.proofs.Spellings.{ends_names, Reads-of_spelled, ends_names-next_spelled, ends_names-all_spelled, following-some, Takes-found_token, IsToken-of_all_spelled, AreSpelled-flat_map_token_text}
use Rattle.pact_paths.proofs.{Checked.{checked-fault, checked-no_fault}, PathLemmas.{tokens_in-end, tokens_in-more, with_all-empty}}

token_in-some_not_empty : (t : List ℕ) (x : Token × List ℕ) → token_in t ≡ Some x → 0 < length t
token_in-some_not_empty [] x e = absurd (none-some x e)
token_in-some_not_empty (b ∷ t) x e = omega arith

-- ---- what is spelled is read

pub tokens_in-of_spelled : (total limit : ℕ) (us : List Token) (t : List ℕ) → AreSpelled t us → length us ≤ limit → tokens_in total limit t ≡ Ok us
tokens_in-of_spelled total limit [] t h few = tokens_in-end total limit t (ap length h)
tokens_in-of_spelled total limit (u ∷ us) t h few =
    let r = Reads-of_spelled h.0 u h.1 h.3 in
    let ends : ends_names h.1 ≡ true = ap ends_names (sym (append-nil h.1)) ∙ ends_names-all_spelled h.1 us [] h.4 refl in
    let same = r.whole ends in
    let found : token_in t ≡ Some (u, h.1) = ap token_in h.2 ∙ r.found ∙ ap₂ (λ (x : Token) (y : List ℕ). Some (x, y)) same.0 same.1 in
    let some : 0 < length t = token_in-some_not_empty t (u, h.1) found in
    tokens_in-more total limit t u h.1 some (omega arith) found ∙ ap (with_front u) (tokens_in-of_spelled total (limit - 1) us h.1 h.4 (omega arith))

-- ---- the longest front that is spelled

IsFront-limit_zero : (t other following : List ℕ) (others : List Token) → IsFront 0 t other following others → length other ≤ 0
IsFront-limit_zero t other following [] h = omega (arith, ap length h.spelled)
IsFront-limit_zero t other following (u ∷ us) h = absurd (omega (arith, h.few))

IsFront-no_token : (limit : ℕ) (t : List ℕ) → token_in t ≡ None → (other following : List ℕ) (others : List Token) → IsFront limit t other following others → length other ≤ 0
IsFront-no_token limit t e other following [] h = omega (arith, ap length h.spelled)
IsFront-no_token limit t e other following (u ∷ us) h =
    let p = h.spelled in
    let w = p.1 ++ following in
    let r = Reads-of_spelled p.0 u w p.3 in
    let split : t ≡ p.0 ++ w = h.split ∙ ap (λ b. b ++ following) p.2 ∙ append_assoc p.0 p.1 following in
    absurd (none-some (r.token, r.rest) (sym e ∙ ap token_in split ∙ r.found))

-- the first token of another front is the one that is read, or a name that is cut short and then the whole front
IsFront-cons_le : (limit : ℕ) (t f rest front left : List ℕ) (x : Token) (ts : List Token) → token_in t ≡ Some (x, rest) → t ≡ f ++ rest → IsLongestFront limit rest front left ts
    → (other following : List ℕ) (u : Token) (us : List Token) → (h : IsFront (suc limit) t other following (u ∷ us)) → (v : Bool) → ends_names (h.spelled.1 ++ following) ≡ v → length other ≤ length (f ++ front)
IsFront-cons_le limit t f rest front left x ts found split best other following u us h true ends =
    let p = h.spelled in
    let w = p.1 ++ following in
    let r = Reads-of_spelled p.0 u w p.3 in
    let halves : t ≡ p.0 ++ w = h.split ∙ ap (λ b. b ++ following) p.2 ∙ append_assoc p.0 p.1 following in
    let same = some_pair_parts r.token x r.rest rest (sym r.found ∙ ap token_in (sym halves) ∙ found) in
    let next : rest ≡ w = sym same.1 ∙ (r.whole ends).1 in
    let below : IsFront limit rest p.1 following us = record {
      split = next;
      spelled = p.4;
      few = omega (arith, h.few);
    } in
    omega (arith, best.longest p.1 following us below, ap length next, ap length split, ap length halves, ap length p.2, length-append f rest, length-append p.0 w, length-append p.0 p.1, length-append f front)
IsFront-cons_le limit t f rest front left x ts found split best other following u [] h false ends =
    let p = h.spelled in
    let w = p.1 ++ following in
    let r = Reads-of_spelled p.0 u w p.3 in
    let halves : t ≡ p.0 ++ w = h.split ∙ ap (λ b. b ++ following) p.2 ∙ append_assoc p.0 p.1 following in
    let same = some_pair_parts r.token x r.rest rest (sym r.found ∙ ap token_in (sym halves) ∙ found) in
    omega (arith, r.short, ap length same.1, ap length p.4, ap length split, ap length halves, ap length p.2, length-append f rest, length-append p.0 w, length-append p.0 p.1, length-append f front)
IsFront-cons_le limit t f rest front left x ts found split best other following u (v ∷ vs) h false ends =
    absurd (true≢false (sym (ends_names-next_spelled h.spelled.1 v vs following h.spelled.4) ∙ ends))

IsFront-length_le : (limit : ℕ) (t f rest front left : List ℕ) (x : Token) (ts : List Token) → token_in t ≡ Some (x, rest) → t ≡ f ++ rest → IsLongestFront limit rest front left ts
    → (other following : List ℕ) (others : List Token) → IsFront (suc limit) t other following others → length other ≤ length (f ++ front)
IsFront-length_le limit t f rest front left x ts found split best other following [] h = omega (arith, ap length h.spelled)
IsFront-length_le limit t f rest front left x ts found split best other following (u ∷ us) h = IsFront-cons_le limit t f rest front left x ts found split best other following u us h (ends_names (h.spelled.1 ++ following)) refl

IsLongestFront-cons : (limit : ℕ) (t f rest front left : List ℕ) (x : Token) (ts : List Token) → token_in t ≡ Some (x, rest) → t ≡ f ++ rest → IsSpelled f x → IsLongestFront limit rest front left ts
    → IsLongestFront (suc limit) t (f ++ front) left (x ∷ ts)
IsLongestFront-cons limit t f rest front left x ts found split s best = record {
  is_front = record {
    split = split ∙ ap (λ b. f ++ b) best.is_front.split ∙ sym (append_assoc f front left);
    spelled = (f, front, refl, s, best.is_front.spelled);
    few = omega (arith, best.is_front.few);
  };
  longest = IsFront-length_le limit t f rest front left x ts found split best;
}

-- ---- what is read, under any limit

-- reading stops with text left
record Stuck (limit : ℕ) (t : List ℕ) (ts : List Token) : Type 0 where
  front : List ℕ
  rest : List ℕ
  is_longest : IsLongestFront limit t front rest ts
  is_left : rest ≢ []

-- before the first token, where no front but the empty one is spelled
abbrev at_first : (limit : ℕ) (t : List ℕ) → ((other following : List ℕ) (others : List Token) → IsFront limit t other following others → length other ≤ 0) → t ≢ []
    → Stuck limit t []
at_first limit t none some = record {
  front = [];
  rest = t;
  is_longest = record {
    is_front = record {
      split = refl;
      spelled = refl;
      few = omega arith;
    };
    longest = none;
  };
  is_left = some;
}

abbrev IsRead : ℕ → ℕ → List ℕ → Result (List Token) PathFault → Type 0
IsRead total limit t (Ok ts) = AreSpelled t ts × (length ts ≤ limit)
IsRead total limit t (Err (BadToken offset)) = (ts : List Token) × (s : Stuck limit t ts) × (length ts < limit) × (offset ≡ total - length s.rest)
IsRead total limit t (Err TooManyTokens) = (ts : List Token) × (s : Stuck limit t ts) × (length ts ≡ limit)
IsRead total limit t (Err e) = ⊥

abbrev more_stuck : (limit : ℕ) (t f rest : List ℕ) (x : Token) (ts : List Token) → token_in t ≡ Some (x, rest) → t ≡ f ++ rest → IsSpelled f x → Stuck limit rest ts → Stuck (suc limit) t (x ∷ ts)
more_stuck limit t f rest x ts found split s k = record {
  front = f ++ k.front;
  rest = k.rest;
  is_longest = IsLongestFront-cons limit t f rest k.front k.rest x ts found split s k.is_longest;
  is_left = k.is_left;
}

IsRead-with_front : (total limit : ℕ) (t f rest : List ℕ) (x : Token) → token_in t ≡ Some (x, rest) → t ≡ f ++ rest → IsSpelled f x → (r : Result (List Token) PathFault) → IsRead total limit rest r → IsRead total (suc limit) t (with_front x r)
IsRead-with_front total limit t f rest x found split s (Ok ts) h = ((f, rest, split, s, h.0), omega (arith, h.1))
IsRead-with_front total limit t f rest x found split s (Err (BadToken offset)) h = (x ∷ h.0, more_stuck limit t f rest x h.0 found split s h.1, omega (arith, h.2), h.3)
IsRead-with_front total limit t f rest x found split s (Err TooManyTokens) h = (x ∷ h.0, more_stuck limit t f rest x h.0 found split s h.1, omega (arith, h.2))
IsRead-with_front total limit t f rest x found split s (Err e) h = h

IsRead-first_of_more : (total limit : ℕ) (t : List ℕ) → ((s : List ℕ) → IsRead total limit s (tokens_in total limit s)) → t ≢ [] → (r : Read) → token_in t ≡ r
    → IsRead total (suc limit) t (first_of_more (tokens_in total limit) (BadToken (total - length t)) r)
IsRead-first_of_more total limit t more some None e = ([], at_first (suc limit) t (IsFront-no_token (suc limit) t e) some, omega arith, refl)
IsRead-first_of_more total limit t more some (Some x) e =
    let takes = Takes-found_token t x.0 x.1 e in
    IsRead-with_front total limit t takes.0 x.1 x.0 e takes.1 takes.2 (tokens_in total limit x.1) (more x.1)

cons-not_nil : (b : ℕ) (t : List ℕ) → b ∷ t ≢ []
cons-not_nil b t e =
    let none : length (b ∷ t) ≡ 0 = ap length e in
    omega arith

IsRead-tokens_in : (total limit : ℕ) (t : List ℕ) → IsRead total limit t (tokens_in total limit t)
unfolding tokens_in
IsRead-tokens_in total zero [] = (refl, omega arith)
IsRead-tokens_in total zero (b ∷ t) = ([], at_first 0 (b ∷ t) (IsFront-limit_zero (b ∷ t)) (cons-not_nil b t), refl)
IsRead-tokens_in total (suc limit) [] = (refl, omega arith)
IsRead-tokens_in total (suc limit) (b ∷ t) = IsRead-first_of_more total limit (b ∷ t) (IsRead-tokens_in total limit) (cons-not_nil b t) (token_in (b ∷ t)) refl

pub IsPath-of_tokens_in : (total : ℕ) (t : List ℕ) (ts : List Token) → tokens_in total 60 t ≡ Ok ts → IsPath ts
IsPath-of_tokens_in total t ts e =
    let P : Result (List Token) PathFault → Type 0 = IsRead total 60 t in
    let h = subst P e (IsRead-tokens_in total 60 t) in
    (h.1, IsToken-of_all_spelled t ts h.0)

-- ---- the reading of a text

StopsAt-of_stuck : (text body : List ℕ) (ts : List Token) (offset : ℕ) → text ≡ 36 ∷ body → (s : Stuck 60 body ts) → offset ≡ 1 + length s.front
    → StopsAt text ts offset
StopsAt-of_stuck text body ts offset root s is = record {
  body = body;
  front = s.front;
  rest = s.rest;
  is_after_root = root;
  is_longest = s.is_longest;
  is_left = s.is_left;
  is_offset = is;
}

IsReading-of_IsRead : (text body : List ℕ) → text ≡ 36 ∷ body → (r : Result (List Token) PathFault) → IsRead (length text) 60 body r → IsReading text r
IsReading-of_IsRead text body root (Ok ts) h = (body, root, h.0, h.1)
IsReading-of_IsRead text body root (Err NoRoot) h = absurd h
IsReading-of_IsRead text body root (Err (BadToken offset)) h =
    let there : offset ≡ 1 + length h.1.front = omega (arith, h.3, ap length root, ap length h.1.is_longest.is_front.split, length-append h.1.front h.1.rest) in
    (h.0, h.2, StopsAt-of_stuck text body h.0 offset root h.1 there)
IsReading-of_IsRead text body root (Err TooManyTokens) h = (h.0, 1 + length h.1.front, h.2, StopsAt-of_stuck text body h.0 (1 + length h.1.front) root h.1 refl)
IsReading-of_IsRead text body root (Err Memory) h = h

IsReading-from_root : (text : List ℕ) (o : Option (List ℕ)) → following 36 text ≡ o → IsReading text (from_root (length text) o)
IsReading-from_root text None e = λ body is. none-some body (sym e ∙ ap (following 36) is)
IsReading-from_root text (Some body) e = IsReading-of_IsRead text body (following-some 36 text body e) (tokens_in (length text) 60 body) (IsRead-tokens_in (length text) 60 body)

pub IsReading-path_in : (text : List ℕ) → IsReading text (path_in text)
IsReading-path_in text = IsReading-from_root text (following 36 text) refl

-- ---- and there is no other

IsLongestFront-not_whole : (body front rest : List ℕ) (tokens ts : List Token) → IsLongestFront 60 body front rest tokens → rest ≢ [] → AreSpelled body ts → length ts ≤ 60 → ⊥
IsLongestFront-not_whole body front rest tokens ts best left s few =
    let whole : IsFront 60 body body [] ts = record {
      split = sym (append-nil body);
      spelled = s;
      few = few;
    } in
    let all : length body ≤ length front = best.longest body [] ts whole in
    left (nil_from_length rest (omega (arith, ap length best.is_front.split, length-append front rest)))

IsLongestFront-same_length : (body f g r s : List ℕ) (ts us : List Token) → IsLongestFront 60 body f r ts → IsLongestFront 60 body g s us → length f ≡ length g
IsLongestFront-same_length body f g r s ts us h k =
    let one : length f ≤ length g = k.longest f r ts h.is_front in
    let two : length g ≤ length f = h.longest g s us k.is_front in
    omega arith

IsLongestFront-same_tokens : (body f g r s : List ℕ) (ts us : List Token) → IsLongestFront 60 body f r ts → IsLongestFront 60 body g s us → ts ≡ us
IsLongestFront-same_tokens body f g r s ts us h k =
    let long = IsLongestFront-same_length body f g r s ts us h k in
    let same : f ≡ g = sym (take_at f r (length f) refl) ∙ ap (take (length f)) (sym h.is_front.split ∙ k.is_front.split) ∙ take_at g s (length f) (sym long) in
    let first : tokens_in 0 60 f ≡ Ok ts = tokens_in-of_spelled 0 60 ts f h.is_front.spelled h.is_front.few in
    let second : tokens_in 0 60 g ≡ Ok us = tokens_in-of_spelled 0 60 us g k.is_front.spelled k.is_front.few in
    let both : Ok ts ≡ Ok us = sym first ∙ ap (tokens_in 0 60) same ∙ second in
    cc

IsRead-bad_token : (body front rest : List ℕ) (ts : List Token) → IsLongestFront 60 body front rest ts → rest ≢ [] → length ts < 60 → (r : Result (List Token) PathFault) → IsRead (suc (length body)) 60 body r
    → Err (BadToken (1 + length front)) ≡ r
IsRead-bad_token body front rest ts best left few (Ok us) h = absurd (IsLongestFront-not_whole body front rest ts us best left h.0 h.1)
IsRead-bad_token body front rest ts best left few (Err (BadToken offset)) h =
    let long = IsLongestFront-same_length body front h.1.front rest h.1.rest ts h.0 best h.1.is_longest in
    let offset_is : 1 + length front ≡ offset = omega (arith, long, h.3, ap length h.1.is_longest.is_front.split, length-append h.1.front h.1.rest) in
    ap (λ n. Err (BadToken n)) offset_is
IsRead-bad_token body front rest ts best left few (Err TooManyTokens) h = absurd (omega (arith, few, h.2, ap length (IsLongestFront-same_tokens body front h.1.front rest h.1.rest ts h.0 best h.1.is_longest)))
IsRead-bad_token body front rest ts best left few (Err e) h = absurd h

IsRead-too_many : (body front rest : List ℕ) (ts : List Token) → IsLongestFront 60 body front rest ts → rest ≢ [] → length ts ≡ 60 → (r : Result (List Token) PathFault) → IsRead (suc (length body)) 60 body r
    → Err TooManyTokens ≡ r
IsRead-too_many body front rest ts best left full (Ok us) h = absurd (IsLongestFront-not_whole body front rest ts us best left h.0 h.1)
IsRead-too_many body front rest ts best left full (Err (BadToken offset)) h = absurd (omega (arith, full, h.2, ap length (IsLongestFront-same_tokens body front h.1.front rest h.1.rest ts h.0 best h.1.is_longest)))
IsRead-too_many body front rest ts best left full (Err TooManyTokens) h = refl
IsRead-too_many body front rest ts best left full (Err e) h = absurd h

following-none : (c : ℕ) (t : List ℕ) → ((rest : List ℕ) → t ≢ c ∷ rest) → following c t ≡ None
following-none c [] h = refl
following-none c (b ∷ bs) h = rw (ne_eqb b c (λ e. h bs (ap (λ a. a ∷ bs) e))) refl

path_in-at_root : (text body : List ℕ) → text ≡ 36 ∷ body → path_in text ≡ tokens_in (suc (length body)) 60 body
path_in-at_root text body e = ap path_in e

pub IsReading-is_path_in : (text : List ℕ) (r : Result (List Token) PathFault) → IsReading text r → r ≡ path_in text
IsReading-is_path_in text (Ok ts) h = sym (path_in-at_root text h.0 h.1 ∙ tokens_in-of_spelled (suc (length h.0)) 60 ts h.0 h.2 h.3)
IsReading-is_path_in text (Err NoRoot) h = sym (ap (from_root (length text)) (following-none 36 text h))
IsReading-is_path_in text (Err (BadToken offset)) h =
    let stop = h.2 in
    let n = suc (length stop.body) in
    ap (λ n. Err (BadToken n)) stop.is_offset ∙ IsRead-bad_token stop.body stop.front stop.rest h.0 stop.is_longest stop.is_left h.1 (tokens_in n 60 stop.body) (IsRead-tokens_in n 60 stop.body)
    ∙ sym (path_in-at_root text stop.body stop.is_after_root)
IsReading-is_path_in text (Err TooManyTokens) h =
    let stop = h.3 in
    let n = suc (length stop.body) in
    IsRead-too_many stop.body stop.front stop.rest h.0 stop.is_longest stop.is_left h.2 (tokens_in n 60 stop.body) (IsRead-tokens_in n 60 stop.body) ∙ sym (path_in-at_root text stop.body stop.is_after_root)
IsReading-is_path_in text (Err Memory) h = absurd h

pub IsReading-unique : (text : List ℕ) (r s : Result (List Token) PathFault) → IsReading text r → IsReading text s → s ≡ r
IsReading-unique text r s h k = IsReading-is_path_in text s k ∙ sym (IsReading-is_path_in text r h)

-- what `path_in` computes is the reading
pub IsTheReading-path_in : (text : List ℕ) → IsTheReading text (path_in text)
IsTheReading-path_in text = (IsReading-path_in text, IsReading-is_path_in text)

-- and the path that it computes is the text's
IsPathText-of_reading : (text : List ℕ) (ts : List Token) (r : Result (List Token) PathFault) → IsReading text r → path_or_none r ≡ Some ts → IsPathText text ts
IsPathText-of_reading text ts (Ok us) h e = subst (IsPathText text) (same_Some _ _ e) h
IsPathText-of_reading text ts (Err fault) h e = absurd (none-some ts e)

pub ReadsPaths-computed_path : ReadsPaths computed_path
ReadsPaths-computed_path text ts = (IsPathText-of_reading text ts (path_in text) (IsReading-path_in text), λ h. ap path_or_none (sym (IsReading-is_path_in text (Ok ts) h)))

-- no other function has each text's path
Option-extensional : (a b : Option (List Token)) → ((ts : List Token) → a ≡ Some ts → b ≡ Some ts) → ((ts : List Token) → b ≡ Some ts → a ≡ Some ts) → a ≡ b
Option-extensional (Some x) b f g = sym (f x refl)
Option-extensional None (Some y) f g = g y refl
Option-extensional None None f g = refl

pub ReadsPaths-unique : (paths : List ℕ → Option (List Token)) → ReadsPaths paths → paths ≡ computed_path
ReadsPaths-unique paths h =
    fun_ext (λ text. Option-extensional (paths text) (computed_path text) (λ ts e. (ReadsPaths-computed_path text ts).1 ((h text ts).0 e)) (λ ts e. (h text ts).1 ((ReadsPaths-computed_path text ts).0 e)))

pub Gives-memory_or_reading : (text : List ℕ) (r : Result (List Token) PathFault) → Gives Memory (λ p. p) r (path_in text) → (r ≡ Err Memory) ⊎ IsTheReading text r
Gives-memory_or_reading text (Ok ts) h = inr (let P : Result (List Token) PathFault → Type 0 = IsTheReading text in subst P h (IsTheReading-path_in text))
Gives-memory_or_reading text (Err Memory) h = inl refl
Gives-memory_or_reading text (Err e) h = inr (let P : Result (List Token) PathFault → Type 0 = IsTheReading text in subst P (h (λ e. cc)) (IsTheReading-path_in text))

-- ---- what reading promises, from what it computes

abbrev Computes : List ℕ → Result (List Token) PathFault → Type 0
Computes text r = GivesChecked Memory (λ (p : List Token). p) r (path_in text)

pub Computes-each_fault : (text : List ℕ) (r : Result (List Token) PathFault) → Computes text r → (e : PathFault) → IsReading text (Err e) → r ≡ Err e
Computes-each_fault text r h e reads = h.1 e (sym (IsReading-is_path_in text (Err e) reads))

-- a text without a root, or one that is path_in-refused as it is checked
pub Computes-fault : (text : List ℕ) (e : PathFault) (r : Result (List Token) PathFault) → r ≡ Err e → path_in text ≡ Err e → Computes text r
Computes-fault text e r is h = subst (Computes text) (sym is) (λ memory. h, λ f k. sym h ∙ k)

pub path_in-refused : (text rest : List ℕ) (e : PathFault) → following 36 text ≡ Some rest → Err e ≡ checked (tokens_in (length text) 60 rest) → path_in text ≡ Err e
path_in-refused text rest e root h = ap (from_root (length text)) root ∙ checked-fault (tokens_in (length text) 60 rest) e h

-- one without a fault
module _ (text rest : List ℕ) (front : List Token) (root : following 36 text ≡ Some rest) (none : front ≡ []) where
  path_in-with_all : path_in text ≡ with_all front (tokens_in (length text) 60 rest)
  path_in-with_all = ap (from_root (length text)) root ∙ sym (with_all-empty (tokens_in (length text) 60 rest)) ∙ ap (λ ts. with_all ts (tokens_in (length text) 60 rest)) (sym none)

  pub Computes-no_tokens : (e : PathFault) (r : Result (List Token) PathFault) → r ≡ Err e → Ok tt ≡ checked (tokens_in (length text) 60 rest)
      → (¬ (e ≡ Memory) → with_all front (tokens_in (length text) 60 rest) ≡ Err e) → Computes text r
  Computes-no_tokens e r is ok gives =
      subst (Computes text) (sym is)
      (λ memory. path_in-with_all ∙ gives memory, λ f k. absurd (checked-no_fault (tokens_in (length text) 60 rest) f ok (sym (ap (from_root (length text)) root) ∙ k)))

  pub Computes-tokens : (ts : List Token) → with_all front (tokens_in (length text) 60 rest) ≡ Ok ts → Computes text (Ok ts)
  Computes-tokens ts h = let is = path_in-with_all ∙ h in (is, λ f k. let clash : Ok ts ≡ Err f = sym is ∙ k in absurd cc)

-- ---- the canonical text

IsReading-path_text : (ts : List Token) → IsPath ts → IsReading (path_text ts) (Ok ts)
IsReading-path_text ts h = (flat_map token_text ts, refl, AreSpelled-flat_map_token_text ts h.1, h.0)

pub IsTheReading-path_text : (ts : List Token) → IsPath ts → IsTheReading (path_text ts) (Ok ts)
IsTheReading-path_text ts h = (IsReading-path_text ts h, λ s k. IsReading-unique (path_text ts) (Ok ts) s (IsReading-path_text ts h) k)

-- `path_in` gives a path back from its canonical text
pub path_in-path_text : (ts : List Token) → IsPath ts → path_in (path_text ts) ≡ Ok ts
path_in-path_text ts h = sym (IsReading-is_path_in (path_text ts) (Ok ts) (IsReading-path_text ts h))

-- two paths with one canonical text are equal
pub path_text-injective : (ps qs : List Token) → IsPath ps → IsPath qs → path_text ps ≡ path_text qs → ps ≡ qs
path_text-injective ps qs h k e =
    let both : Ok ps ≡ Ok qs = sym (path_in-path_text ps h) ∙ ap path_in e ∙ path_in-path_text qs k in
    cc

pub path_text-reads_if_ok : {S E : Type 0} (bytes : S → List ℕ) (r : Result S E) (ts : List Token) → IsPath ts → IfOk r (λ s. bytes s ≡ path_text ts) → IfOk r (λ s. IsTheReading (bytes s) (Ok ts))
path_text-reads_if_ok bytes (Ok s) ts p h = let P : List ℕ → Type 0 = λ b. IsTheReading b (Ok ts) in subst P (sym h) (IsTheReading-path_text ts p)
path_text-reads_if_ok bytes (Err e) ts p h = tt

pub path_text-own_if_ok : {S E : Type 0} (bytes : S → List ℕ) (r : Result S E) (ts : List Token) → IsPath ts → IfOk r (λ s. bytes s ≡ path_text ts) → IfOk r (λ s. (p : List Token) → IsPath p → path_text p ≡ bytes s → p ≡ ts)
path_text-own_if_ok bytes (Ok s) ts p h = λ q k e. path_text-injective q ts k p (e ∙ h)
path_text-own_if_ok bytes (Err e) ts p h = tt
