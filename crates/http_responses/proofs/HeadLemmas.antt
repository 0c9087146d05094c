-- What the written list says of a status is what the crate `http` says, and how a list of methods grows.
use Rattle.std.specs.{Fmt.{digits}, List.{list_any}}
use Rattle.std.proofs.Common.{◌≡◌, ℕ, zero, suc, ◌+◌, ◌<◌, ◌≤◌, ◌==◌, Bool, true, false, not, ◌&&◌, ◌||◌, cond, List, [], ◌∷◌, ◌++◌, length, get_or, take, drop, map, leb, filter, is_some, Option, Some, None, option_map, unwrap_or, Bor, codes, decimal, refl, sym, ap, subst, ◌∙◌, append_assoc, append-nil, arith, ◌*◌}
use Rattle.std.proofs.{lemmas.Bool.{eqb-true, leb-true}, lemmas.List.Elements.{filter_more}}
use Rattle.http.specs.StatusCode.{code_digits, reason_phrase}
use Rattle.http_messages.specs.Heads.{served_methods}
use Rattle.http_routes.specs.{Methods.{operation_at, listed}, declared.Resource.{Resource}}
use Rattle.http_responses.specs.Head.{phrases, phrase_in, has_phrase, phrase, listed_next}

-- the crate's digits and phrases are those of the list
code_digits-phrases : map (λ entry. code_digits entry.0) phrases ≡ map (λ entry. decimal entry.0) phrases
unfolding digits
code_digits-phrases = refl

reason_phrase-phrases : map (λ entry. reason_phrase entry.0) phrases ≡ map (λ entry. Some entry.1) phrases
reason_phrase-phrases = refl

length-phrases_le : map (λ entry. leb (length entry.1) 32) phrases ≡ map (λ entry. true) phrases
length-phrases_le = refl

module _ {X : Type 0} (f g : ℕ × List ℕ → X) where
  phrase_in-first_or_later : (status known : ℕ) (text other : List ℕ) (rest test : Bool) → (status == known) ≡ test → f (known, text) ≡ g (known, text)
      → (rest ≡ true → f (status, other) ≡ g (status, other)) → (test || rest) ≡ true → f (status, cond test text other) ≡ g (status, cond test text other)
  phrase_in-first_or_later status known text other rest true is here later found = subst (λ s. f (s, text) ≡ g (s, text)) (sym (eqb-true status known is)) here
  phrase_in-first_or_later status known text other rest false is here later found = later found

  -- what agrees on each entry agrees on a status of the list
  phrase_in-agree : (entries : List (ℕ × List ℕ)) (status : ℕ) → map f entries ≡ map g entries → list_any (λ entry. status == entry.0) entries ≡ true
      → f (status, phrase_in entries status) ≡ g (status, phrase_in entries status)
  phrase_in-agree [] status same found = cc
  phrase_in-agree (entry ∷ more) status same found =
      phrase_in-first_or_later status entry.0 entry.1 (phrase_in more status) _ (status == entry.0) refl (ap (λ xs. get_or xs 0 (f entry)) same)
      (phrase_in-agree more status (ap (drop 1) same)) found

pub code_digits-decimal : (status : ℕ) → has_phrase status ≡ true → code_digits status ≡ decimal status
code_digits-decimal status known = phrase_in-agree (λ entry. code_digits entry.0) (λ entry. decimal entry.0) phrases status code_digits-phrases known

pub reason_phrase-phrase : (status : ℕ) → has_phrase status ≡ true → reason_phrase status ≡ Some (phrase status)
unfolding phrase
reason_phrase-phrase status known = phrase_in-agree (λ entry. reason_phrase entry.0) (λ entry. Some entry.1) phrases status reason_phrase-phrases known

pub length-phrase_le : (status : ℕ) → has_phrase status ≡ true → length (phrase status) ≤ 32
unfolding phrase
length-phrase_le status known = leb-true _ _ (phrase_in-agree (λ entry. leb (length entry.1) 32) (λ entry. true) phrases status length-phrases_le known)

-- the text that was found
pub unwrap_or-found_text : (found : Option (Bor (List ℕ))) (other : Bor (List ℕ)) (text : List ℕ) → option_map (λ s. s.now) found ≡ Some text
    → (unwrap_or found other).now ≡ text
unwrap_or-found_text None other text is = cc
unwrap_or-found_text (Some s) other text is = ap (λ o. unwrap_or o s.now) is

-- whether a list of methods is still empty
abbrev pub is_empty : List (List ℕ) → Bool
is_empty [] = true
is_empty (method ∷ methods) = false

listed-push : (methods : List (List ℕ)) (method : List ℕ) → listed (methods ++ method ∷ []) ≡ listed methods ++ listed_next (is_empty methods) method
listed-push [] method = refl
listed-push (first ∷ []) method = refl
listed-push (first ∷ next ∷ more) method =
    ap (λ t. first ++ (codes ", " ++ t)) (listed-push (next ∷ more) method)
    ∙ sym (append_assoc first (codes ", " ++ listed (next ∷ more)) (codes ", " ++ method))

listed-append_if : (methods : List (List ℕ)) (method : List ℕ) (has : Bool)
    → listed (methods ++ cond has (method ∷ []) []) ≡ listed methods ++ cond has (listed_next (is_empty methods) method) []
listed-append_if methods method false = ap listed (append-nil methods) ∙ sym (append-nil (listed methods))
listed-append_if methods method true = listed-push methods method

is_empty-append_if : (methods : List (List ℕ)) (method : List ℕ) (has : Bool) → is_empty (methods ++ cond has (method ∷ []) []) ≡ (is_empty methods && not has)
is_empty-append_if [] method false = refl
is_empty-append_if [] method true = refl
is_empty-append_if (first ∷ more) method false = refl
is_empty-append_if (first ∷ more) method true = refl

-- the first methods that are served, but for those that the resource doesn't have
abbrev pub kept : Resource → ℕ → List (List ℕ)
kept resource i = filter (λ method. is_some (operation_at resource method)) (take i served_methods)

module _ (resource : Resource) (i : ℕ) (other : List ℕ) (within : i < length served_methods) where
  abbrev method : List ℕ
  method = get_or served_methods i other

  abbrev has : Bool
  has = is_some (operation_at resource method)

  kept-next : kept resource (i + 1) ≡ kept resource i ++ cond has (method ∷ []) []
  kept-next = filter_more (λ m. is_some (operation_at resource m)) served_methods i other within

  -- the list grows by the method if the resource has it
  pub listed_next-kept : (old text new : List ℕ) (first : Bool) → text ≡ old ++ listed (kept resource i) → first ≡ is_empty (kept resource i)
      → new ≡ text ++ cond has (listed_next first method) [] → new ≡ old ++ listed (kept resource (i + 1))
  listed_next-kept old text new first so_far is_first grown =
      let before = listed (kept resource i) in
      grown ∙ ap (λ t. t ++ cond has (listed_next first method) []) so_far ∙ append_assoc old before (cond has (listed_next first method) [])
      ∙ ap (λ b. old ++ (before ++ cond has (listed_next b method) [])) is_first
      ∙ ap (λ t. old ++ t) (sym (ap listed kept-next ∙ listed-append_if (kept resource i) method has))

  -- and isn't empty then
  pub empty_next-kept : (first next : Bool) → first ≡ is_empty (kept resource i) → next ≡ (first && not has) → next ≡ is_empty (kept resource (i + 1))
  empty_next-kept first next is_first is_next =
      is_next ∙ ap (λ b. b && not has) is_first ∙ sym (ap is_empty kept-next ∙ is_empty-append_if (kept resource i) method has)

length-served_method_le : (i : ℕ) (other : List ℕ) → i < length served_methods → length (get_or served_methods i other) ≤ 6
length-served_method_le zero other h = omega arith
length-served_method_le (suc zero) other h = omega arith
length-served_method_le (suc (suc zero)) other h = omega arith
length-served_method_le (suc (suc (suc zero))) other h = omega arith
length-served_method_le (suc (suc (suc (suc k)))) other h = absurd (omega (arith, h))

-- the text has room for the next method
pub capacity-room_for_next : (i : ℕ) (other : List ℕ) → i < length served_methods → (old len first_capacity capacity : ℕ) → old + 32 ≤ first_capacity → len ≤ old + 8 * i
    → first_capacity ≤ capacity → len + 2 + length (get_or served_methods i other) ≤ capacity
capacity-room_for_next i other within old len first_capacity capacity fits so_far grown = omega (arith, length-served_method_le i other within, within, fits, so_far, grown)

-- and is so long then
pub length-after_next_le : (i : ℕ) (other : List ℕ) → i < length served_methods → (old len next : ℕ) → len ≤ old + 8 * i
    → next ≤ len + 2 + length (get_or served_methods i other) → next ≤ old + 8 * (i + 1)
length-after_next_le i other within old len next so_far added = omega (arith, length-served_method_le i other within, so_far, added)
