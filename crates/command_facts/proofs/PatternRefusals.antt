-- If a file is read as a pact, and the same reading may also be refused a pattern, the pact has a pattern.
use Rattle.std.proofs.Common.{◌≡◌, ◌⊎◌, inl, inr, ⊎_elim, ℕ, zero, suc, ◌+◌, slice_get, IfOk, List, [], ◌∷◌, codes, Bool, true, false, cond, nat_le, length, Option, Some, None, Result, Ok, Err, refl, sym, ap, ◌∙◌, subst}
use Rattle.std.proofs.lemmas.Option.{same_Some}
use Rattle.serde_json.specs.Data.{Data}
use Rattle.pact_file.specs.{declared.fault.PactFault.TheVariants.{Rules, TooLong}, declared.fault.Part.TheVariants.{Headers}}
use Rattle.pact_file.specs.{File.{most_bytes, file_of, sides_of, items_of}, Interactions.{at, parts_at}, Headers.{HeadersRead}}
use Rattle.pact_file.specs.{Normal.{InteractionRead, InteractionsRead, InOrder, Normal, IsRefusal, if_short}, Pact.{Header, Interaction, Pact, normal_text}}
use Rattle.pact_file.specs.{Parts.{optional_at}, Rules.{TableRead, rules_or_fault, RulesRead, IsRulesOf}, declared.fault.PactFault.{PactFault}}
use Rattle.pact_file.proofs.{Agreement.{IsDefinite-Normal}, Again.{Normal-unique_pact}, SetLemmas.{OneOf-member}}
use Rattle.pact_file.proofs.Steps.{Ok-injective, Ok-not_Err, Err-injective}
use Rattle.command_facts.specs.Readings.{ReportsRefusal, HasPatternIfPact, IsNoPact, IsPatternAsked}
use Rattle.pact_rules.specs.{Lists.{OneOf, IsIn}, Rules.{Rules as Table, has_regex}, declared.rule_fault.RuleFault.{RuleFault}}
use Rattle.pact_rules.specs.{declared.rule_fault.RuleFault.TheVariants.{Pattern}, Reading.{just, Follows, ◌>>=◌, EachRead}}
use Rattle.pact_rules.proofs.ReadingLemmas.{has_regex-of_refusal}
use Rattle.reply_check.specs.{Recorded.{Reply}, Verdicts.{IsKnown, AreKnown, IsFirstUnknown, UsesPattern}, Meeting.{HasPattern}}

-- what may be read as x, if the same reading may be refused, has P
abbrev Matches : {A : Type 0} → (A → Type 0) → (Result A PactFault → Type 0) → Type 0
Matches {A} P reads = (r : Result A PactFault) (x : A) → IsRefusal r → reads r → reads (Ok x) → P x

-- a function reads only one value, so it isn't both read and refused
Matches-just : {A : Type 0} (P : A → Type 0) (read : Result A PactFault) → Matches P (just read)
Matches-just P read r x (i, is) h k = let clash : Path _ (Err (Rules i Pattern)) (Ok x) = sym is ∙ sym h ∙ k in absurd cc

module _ {A B : Type 0} (P : B → Type 0) (first : Result A PactFault → Type 0) (next : A → Result B PactFault → Type 0) where
  Follows-of_ok : (r : Result A PactFault) (y : B) → Follows r next (Ok y) → (x : A) × (r ≡ Ok x) × next x (Ok y)
  Follows-of_ok (Ok x) y h = (x, refl, h)
  Follows-of_ok (Err e) y h = absurd cc

  Follows-of_refusal : (r : Result A PactFault) (s : Result B PactFault) → IsRefusal s → Follows r next s → IsRefusal r ⊎ ((x : A) × (r ≡ Ok x) × next x s)
  Follows-of_refusal (Ok x) s is h = inr (x, refl, h)
  Follows-of_refusal (Err e) s (i, is) h = inl (i, ap Err (Err-injective e (Rules i Pattern) (sym h ∙ is)))

  -- the result has P if the first reading may be refused, and if the second may be refused
  Matches-bind : ((x : A) (y : B) (r : Result A PactFault) → IsRefusal r → first r → first (Ok x) → next x (Ok y) → P y)
      → ((x z : A) (y : B) (s : Result B PactFault) → first (Ok x) → first (Ok z) → IsRefusal s → next x s → next z (Ok y) → P y)
      → Matches P (first >>= next)
  Matches-bind early late s y is h k =
      let went = Follows-of_ok k.0 y k.2 in
      let read = subst first went.1 k.1 in
      ⊎_elim (λ refused. early went.0 y h.0 refused h.1 read went.2)
      (λ later. late later.0 went.0 y s (subst first later.1 h.1) read is later.2 went.2)
      (Follows-of_refusal h.0 s is h.2)

-- a function comes first
Matches-just_bind : {A B : Type 0} (P : B → Type 0) (read : Result A PactFault) (next : A → Result B PactFault → Type 0) → ((x : A) → read ≡ Ok x → Matches P (next x)) → Matches P (just read >>= next)
Matches-just_bind {A} P read next reports =
    Matches-bind P (just read) next
    (λ x y r is h k more. absurd (Matches-just (λ (z : A). ⊥) read r x is h k))
    (λ x z y s h k is more last. reports z k s y is (subst (λ w. next w s) (Ok-injective _ _ (sym h ∙ k)) more) last)

-- ---- an interaction

TableRead-has_regex : (o : Option Data) (t : Table) → TableRead o (Err Pattern) → TableRead o (Ok t) → has_regex t ≡ true
TableRead-has_regex None t h k = absurd cc
TableRead-has_regex (Some d) t h k = has_regex-of_refusal d t k h

rules_or_fault-refused : (i : ℕ) (r : Result Table RuleFault) (s : Result Table PactFault) → IsRefusal s → rules_or_fault i r ≡ s → r ≡ Err Pattern
rules_or_fault-refused i (Ok t) s (j, is) h = let clash : Path (Result Table PactFault) (Ok t) (Err (Rules j Pattern)) = h ∙ is in absurd cc
rules_or_fault-refused i (Err e) s (j, is) h = ap Err (Rules-same_fault e (h ∙ is)) where
  Rules-same_fault : (e : RuleFault) → ◌≡◌ {A = Result Table PactFault} (Err (Rules i e)) (Err (Rules j Pattern)) → e ≡ Pattern
  Rules-same_fault e k = cc

rules_or_fault-ok : (i : ℕ) (r : Result Table RuleFault) (t : Table) → rules_or_fault i r ≡ Ok t → r ≡ Ok t
rules_or_fault-ok i (Ok u) t h = ap Ok (Ok-injective _ _ h)
rules_or_fault-ok i (Err e) t h = absurd cc

abbrev HasRegexIn : Data → Table → Type 0
HasRegexIn response t = IsRulesOf response t × (has_regex t ≡ true)

Matches-RulesRead : (i : ℕ) (response : Data) → Matches (HasRegexIn response) (RulesRead i response)
unfolding RulesRead IsRulesOf
Matches-RulesRead i response s t is h k =
    let read = subst (TableRead (optional_at (codes "matchingRules") response)) (rules_or_fault-ok i k.0 t k.2) k.1 in
    (read, TableRead-has_regex (optional_at (codes "matchingRules") response) t (subst (TableRead (optional_at (codes "matchingRules") response)) (rules_or_fault-refused i h.0 s is h.2) h.1) read)

Matches-InteractionRead : (i : ℕ) (d : Data) → Matches HasPattern (InteractionRead i d)
unfolding InteractionRead
Matches-InteractionRead i d =
    Matches-just_bind HasPattern (parts_at i d) _ (λ x e.
    Matches-bind HasPattern (HeadersRead (at i Headers) x.response) _
    (λ headers y r is h k more. no_twins x y r headers is h k)
    (λ headers others y s h k is more last.
    Matches-bind HasPattern (RulesRead i x.response) _
    (λ t y r is h k more. let returned = Matches-RulesRead i x.response r t is h k in subst HasPattern (Ok-injective _ _ more) (t, returned.0, returned.1))
    (λ t u y s h k is more last. Matches-just HasPattern (Ok x) s y is more last)
    s y is more last)) where
      no_twins : (x y : Interaction) (r : Result (List Header) PactFault) (headers : List Header) → IsRefusal r → HeadersRead (at i Headers) x.response r → HeadersRead (at i Headers) x.response (Ok headers) → HasPattern y
      no_twins x y (Ok xs) headers (j, is) h k = absurd cc
      no_twins x y (Err e) headers is h k = absurd (h.0 headers k)

abbrev Following : Interaction → ℕ → List Data → Result (List Interaction) PactFault → Type 0
Following x i ds = EachRead InteractionRead (i + 1) ds >>= (λ others. just (Ok (x ∷ others)))

Following-ok : (x : Interaction) (i : ℕ) (ds : List Data) (ys : List Interaction) → Following x i ds (Ok ys) → (others : List Interaction) × EachRead InteractionRead (i + 1) ds (Ok others) × (x ∷ others ≡ ys)
Following-ok x i ds ys h =
    let went = Follows-of_ok (OneOf HasPattern) (EachRead InteractionRead (i + 1) ds) (λ others. just (Ok (x ∷ others))) h.0 ys h.2 in
    (went.0, subst (EachRead InteractionRead (i + 1) ds) went.1 h.1, Ok-injective _ _ went.2)

Following-refused : (x : Interaction) (i : ℕ) (ds : List Data) (s : Result (List Interaction) PactFault) → IsRefusal s → Following x i ds s → (r : Result (List Interaction) PactFault) × IsRefusal r × EachRead InteractionRead (i + 1) ds r
Following-refused x i ds s is h =
    ⊎_elim (λ refused. (h.0, refused, h.1))
    (λ later. absurd (Matches-just (λ (w : List Interaction). ⊥) (Ok (x ∷ later.0)) s (x ∷ later.0) is later.2 refl))
    (Follows-of_refusal (OneOf HasPattern) (EachRead InteractionRead (i + 1) ds) (λ others. just (Ok (x ∷ others))) h.0 s is h.2)

Matches-EachRead : (i : ℕ) (ds : List Data) → Matches (OneOf HasPattern) (EachRead InteractionRead i ds)
unfolding EachRead
Matches-EachRead i [] = Matches-just (OneOf HasPattern) (Ok [])
Matches-EachRead i (d ∷ ds) =
    Matches-bind (OneOf HasPattern) (InteractionRead i d) (λ x. Following x i ds)
    (λ x ys r is h k more. let last = Following-ok x i ds ys more in subst (OneOf HasPattern) last.2 (inl (Matches-InteractionRead i d r x is h k)))
    (λ x z ys s h k is more last.
    let early = Following-refused x i ds s is more in
    let late = Following-ok z i ds ys last in
    subst (OneOf HasPattern) late.2 (inr (Matches-EachRead (i + 1) ds early.0 late.0 early.1 early.2 late.1)))

-- ---- a file

OneOf-more : {A : Type 0} (P : A → Type 0) (found list : List A) → ((x : A) → IsIn x found → IsIn x list) → OneOf P found → OneOf P list
OneOf-more P found list kept h = let one = OneOf-member P found h in OneOf-of_member P list one.0 (kept one.0 one.1) one.2 where
  OneOf-of_member : {A : Type 0} (P : A → Type 0) (xs : List A) (x : A) → IsIn x xs → P x → OneOf P xs
  OneOf-of_member P [] x i h = absurd i
  OneOf-of_member P (y ∷ xs) x (inl e) h = inl (subst P e h)
  OneOf-of_member P (y ∷ xs) x (inr i) h = inr (OneOf-of_member P xs x i h)

InOrder-has_pattern : (found others xs : List Interaction) (s : Result (List Interaction) PactFault) → IsRefusal s → InOrder found s → InOrder others (Ok xs) → OneOf HasPattern xs
InOrder-has_pattern found others xs (Ok ys) (i, is) h k = absurd cc
InOrder-has_pattern found others xs (Err e) (i, is) h k = absurd cc

Matches-InteractionsRead : (file : Data) → Matches (OneOf HasPattern) (InteractionsRead file)
unfolding InteractionsRead
Matches-InteractionsRead file =
    Matches-just_bind (OneOf HasPattern) (items_of file) _ (λ items e.
    Matches-bind (OneOf HasPattern) (EachRead InteractionRead 0 items) InOrder
    (λ found xs r is h k more. OneOf-more HasPattern found xs more.1.kept (Matches-EachRead 0 items r found is h k))
    (λ found others xs s h k is more last. InOrder-has_pattern found others xs s is more last))

-- a file is read as a pact, and a pattern may be refused: the pact has one
pub Normal-refused_has_pattern : (bytes : List ℕ) (answer : Result Pact PactFault) (p : Pact) → IsRefusal answer → Normal bytes answer → Normal bytes (Ok p) → OneOf HasPattern p.interactions
unfolding Normal
Normal-refused_has_pattern bytes answer p is h k =
    Matches-just_bind (λ (p : Pact). OneOf HasPattern p.interactions) (file_of bytes) _ (λ file e.
    Matches-just_bind (λ (p : Pact). OneOf HasPattern p.interactions) (sides_of file) _ (λ sides f.
    Matches-bind (λ (p : Pact). OneOf HasPattern p.interactions) (InteractionsRead file) _
    (λ xs p r is h k more. subst (λ (p : Pact). OneOf HasPattern p.interactions) (short_same _ p more) (Matches-InteractionsRead file r xs is h k))
    (λ xs ys p s h k is more last. absurd (short_refused _ s is more))))
    answer p is h k where
      cond_same : (b : Bool) (p q : Pact) → ◌≡◌ {A = Result Pact PactFault} (cond b (Ok p) (Err TooLong)) (Ok q) → p ≡ q
      cond_same true p q h = Ok-injective _ _ h
      cond_same false p q h = absurd cc

      short_same : (p q : Pact) → if_short p ≡ Ok q → p ≡ q
      short_same p q h = cond_same (nat_le (length (normal_text p)) most_bytes) p q h

      cond_refused : (b : Bool) (p : Pact) (i : ℕ) → ◌≡◌ {A = Result Pact PactFault} (cond b (Ok p) (Err TooLong)) (Err (Rules i Pattern)) → ⊥
      cond_refused true p i h = absurd cc
      cond_refused false p i h = absurd cc

      short_refused : (p : Pact) (s : Result Pact PactFault) → IsRefusal s → if_short p ≡ s → ⊥
      short_refused p s (i, is) h = cond_refused (nat_le (length (normal_text p)) most_bytes) p i (h ∙ is)

-- ---- a text that wasn't read

pub no_pact : (text : List ℕ) (e : PactFault) → ¬ (ReportsRefusal e) → Normal text (Err e) → IsNoPact text
no_pact text e other h p k =
    ⊎_elim (λ same. Ok-not_Err p e (sym same)) (⊎_elim (λ r. other (r.0, Err-injective e (Rules r.0 Pattern) r.1)) (λ r. Ok-not_Err p (Rules r.0 Pattern) r.1)) (IsDefinite-Normal text (Err e) (Ok p) h k)

HasPatternIfPact-of_refusal : (text : List ℕ) (e : PactFault) → ReportsRefusal e → Normal text (Err e) → HasPatternIfPact text
HasPatternIfPact-of_refusal text e (i, is) h p k = Normal-refused_has_pattern text (Err e) p (i, ap Err is) h k

pub IsPatternAsked-of_refusal : (text : List ℕ) (replies : List Reply) (e : PactFault) → ReportsRefusal e → Normal text (Err e) → HasPatternIfPact text × IsPatternAsked text replies
IsPatternAsked-of_refusal text replies e is h = (HasPatternIfPact-of_refusal text e is h, inl (e, is, h))

pub IfOk-both : {A F : Type 0} (r : Result A F) (P Q R : A → Type 0) → ((x : A) → P x → Q x → R x) → IfOk r P → IfOk r Q → IfOk r R
IfOk-both (Ok x) P Q R f h k = f x h k
IfOk-both (Err e) P Q R f h k = tt

-- ---- what a check reports

AreKnown-at : (interactions : List Interaction) (replies : List Reply) (i : ℕ) (r : Reply) → AreKnown interactions replies → slice_get replies i ≡ Some r → IsKnown interactions r
AreKnown-at interactions [] i r all h = absurd cc
AreKnown-at interactions (q ∷ replies) zero r all h = subst (IsKnown interactions) (same_Some _ _ h) all.0
AreKnown-at interactions (q ∷ replies) (suc i) r all h = AreKnown-at interactions replies i r all.1 h

pub AreKnown-not_if_unknown : (interactions : List Interaction) (replies : List Reply) (i : ℕ) → IsFirstUnknown interactions replies i → ¬ (AreKnown interactions replies)
AreKnown-not_if_unknown interactions replies i first all = first.unknown (AreKnown-at interactions replies i first.reply all first.is_present)

UsesPattern-has_pattern : (interactions : List Interaction) (replies : List Reply) → UsesPattern interactions replies → OneOf HasPattern interactions
UsesPattern-has_pattern [] replies h = absurd h
UsesPattern-has_pattern (x ∷ xs) replies (inl h) = inl h.1
UsesPattern-has_pattern (x ∷ xs) replies (inr h) = inr (UsesPattern-has_pattern xs replies h)

pub IsPatternAsked-of_used : (text : List ℕ) (p : Pact) (replies : List Reply) → Normal text (Ok p) → AreKnown p.interactions replies × UsesPattern p.interactions replies → HasPatternIfPact text × IsPatternAsked text replies
IsPatternAsked-of_used text p replies normal uses =
    (λ q also. subst (λ (z : Pact). OneOf HasPattern z.interactions) (Normal-unique_pact text p q normal also) (UsesPattern-has_pattern p.interactions replies uses.1), inr (p, normal, uses))
