-- Two readings of one file Agree-follows, unless a pattern was refused.
use Rattle.std.proofs.Common.{◌≡◌, ◌⊎◌, inl, inr, ℕ, ◌+◌, List, [], ◌∷◌, codes, Option, Some, None, Result, Ok, Err, sym, ap, ◌∙◌, subst}
use Rattle.serde_json.specs.Data.{Data}
use Rattle.pact_rules.specs.{Rules.{Rules as Table}, declared.rule_fault.RuleFault.{RuleFault}, declared.rule_fault.RuleFault.TheVariants.{Pattern}}
use Rattle.pact_rules.{specs.Reading.{just, Follows, ◌>>=◌, EachRead}, proofs.ReadingLemmas.{IsReading-agree}}
use Rattle.pact_file.specs.{File.{file_of, sides_of, items_of}, Interactions.{parts_at, at}, Headers.{HeadersRead}, declared.fault.Part.TheVariants.{Headers}}
use Rattle.pact_file.specs.{Normal.{InteractionRead, InteractionsRead, Normal, IsRefusal, if_short}, Parts.{optional_at}}
use Rattle.pact_file.specs.{Rules.{TableRead, rules_or_fault, RulesRead}, declared.fault.PactFault.{PactFault}, declared.fault.PactFault.TheVariants.{Rules}}
use Rattle.pact_file.proofs.{HeaderSets.{HasHeaders-unique}, OrderedSets.{InOrder-unique}, Steps.{Err-injective}}

abbrev pub Agree : {A : Type 0} → Result A PactFault → Result A PactFault → Type 0
Agree r s = (r ≡ s) ⊎ (IsRefusal r ⊎ IsRefusal s)

-- two answers Agree-follows
abbrev pub IsDefinite : {A : Type 0} → (Result A PactFault → Type 0) → Type 0
IsDefinite {A} reads = (r s : Result A PactFault) → reads r → reads s → Agree r s

IsDefinite-just : {A : Type 0} (read : Result A PactFault) → IsDefinite (just read)
IsDefinite-just read r s h k = inl (sym h ∙ k)

module _ {A B : Type 0} (first : Result A PactFault → Type 0) (next : A → Result B PactFault → Type 0) (one : IsDefinite first) (then : (x : A) → IsDefinite (next x)) where
  refused : (a : Result A PactFault) (r : Result B PactFault) → IsRefusal a → Follows a next r → IsRefusal r
  refused (Ok x) r (i, is) h = absurd cc
  refused (Err e) r (i, is) h = (i, h ∙ ap Err (Err-injective e (Rules i Pattern) is))

  Follows-agree : (a : Result A PactFault) (r s : Result B PactFault) → Follows a next r → Follows a next s → Agree r s
  Follows-agree (Ok x) r s h k = then x r s h k
  Follows-agree (Err e) r s h k = inl (h ∙ sym k)

  Agree-follows : (a b : Result A PactFault) (r s : Result B PactFault) → Agree a b → Follows a next r → Follows b next s → Agree r s
  Agree-follows a b r s (inl same) h k = Follows-agree a r s h (subst (λ c. Follows c next s) (sym same) k)
  Agree-follows a b r s (inr (inl refusal)) h k = inr (inl (refused a r refusal h))
  Agree-follows a b r s (inr (inr refusal)) h k = inr (inr (refused b s refusal k))

  IsDefinite-bind : IsDefinite (first >>= next)
  IsDefinite-bind r s h k = Agree-follows h.0 k.0 r s (one h.0 k.0 h.1 k.1) h.2 k.2

IsDefinite-HeadersRead : (i : ℕ) (response : Data) → IsDefinite (HeadersRead (at i Headers) response)
IsDefinite-HeadersRead i response (Ok xs) (Ok ys) h k = inl (ap Ok (HasHeaders-unique response xs ys h k))
IsDefinite-HeadersRead i response (Ok xs) (Err e) h k = absurd (k.0 xs h)
IsDefinite-HeadersRead i response (Err e) (Ok ys) h k = absurd (h.0 ys k)
IsDefinite-HeadersRead i response (Err e) (Err f) h k = inl (ap Err (h.1 ∙ sym k.1))

abbrev TablesAgree : Result Table RuleFault → Result Table RuleFault → Type 0
TablesAgree r s = (r ≡ s) ⊎ ((r ≡ Err Pattern) ⊎ (s ≡ Err Pattern))

TablesAgree-of_TableRead : (o : Option Data) (r s : Result Table RuleFault) → TableRead o r → TableRead o s → TablesAgree r s
TablesAgree-of_TableRead None r s h k = inl (h ∙ sym k)
TablesAgree-of_TableRead (Some d) r s h k = IsReading-agree d r s h k

Agree-rules_or_fault : (i : ℕ) (r s : Result Table RuleFault) (a b : Result Table PactFault) → TablesAgree r s → rules_or_fault i r ≡ a → rules_or_fault i s ≡ b → Agree a b
Agree-rules_or_fault i r s a b (inl same) h k = inl (sym h ∙ ap (rules_or_fault i) same ∙ k)
Agree-rules_or_fault i r s a b (inr (inl refused)) h k = inr (inl (i, sym h ∙ ap (rules_or_fault i) refused))
Agree-rules_or_fault i r s a b (inr (inr refused)) h k = inr (inr (i, sym k ∙ ap (rules_or_fault i) refused))

IsDefinite-RulesRead : (i : ℕ) (response : Data) → IsDefinite (RulesRead i response)
unfolding RulesRead
IsDefinite-RulesRead i response a b h k = Agree-rules_or_fault i h.0 k.0 a b (TablesAgree-of_TableRead (optional_at (codes "matchingRules") response) h.0 k.0 h.1 k.1) h.2 k.2

IsDefinite-InteractionRead : (i : ℕ) (d : Data) → IsDefinite (InteractionRead i d)
unfolding InteractionRead
IsDefinite-InteractionRead i d =
    IsDefinite-bind (just (parts_at i d)) _ (IsDefinite-just (parts_at i d)) (λ x.
    IsDefinite-bind (HeadersRead (at i Headers) x.response) _ (IsDefinite-HeadersRead i x.response) (λ headers.
    IsDefinite-bind (RulesRead i x.response) _ (IsDefinite-RulesRead i x.response) (λ rules. IsDefinite-just (Ok x))))

IsDefinite-EachRead : (i : ℕ) (ds : List Data) → IsDefinite (EachRead InteractionRead i ds)
unfolding EachRead
IsDefinite-EachRead i [] = IsDefinite-just (Ok [])
IsDefinite-EachRead i (d ∷ ds) =
    IsDefinite-bind (InteractionRead i d) _ (IsDefinite-InteractionRead i d) (λ x.
    IsDefinite-bind (EachRead InteractionRead (i + 1) ds) _ (IsDefinite-EachRead (i + 1) ds) (λ xs. IsDefinite-just (Ok (x ∷ xs))))

IsDefinite-InteractionsRead : (file : Data) → IsDefinite (InteractionsRead file)
unfolding InteractionsRead
IsDefinite-InteractionsRead file =
    IsDefinite-bind (just (items_of file)) _ (IsDefinite-just (items_of file)) (λ items.
    IsDefinite-bind (EachRead InteractionRead 0 items) _ (IsDefinite-EachRead 0 items) (λ found. λ r s h k. inl (InOrder-unique found r s h k)))

-- Two answers of one file are equal, unless one of them is that a pattern was refused. So one pact at most is read of it.
pub IsDefinite-Normal : (bytes : List ℕ) → IsDefinite (Normal bytes)
unfolding Normal
IsDefinite-Normal bytes =
    IsDefinite-bind (just (file_of bytes)) _ (IsDefinite-just (file_of bytes)) (λ file.
    IsDefinite-bind (just (sides_of file)) _ (IsDefinite-just (sides_of file)) (λ sides.
    IsDefinite-bind (InteractionsRead file) _ (IsDefinite-InteractionsRead file) (λ xs. IsDefinite-just (if_short (record { consumer = sides.0; provider = sides.1; interactions = xs })))))
