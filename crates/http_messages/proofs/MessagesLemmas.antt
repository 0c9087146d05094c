-- A message at the front stays there, and there is no other.
use Rattle.std.specs.{Option.{option_map}, List.{concat}, Result.{result_unwrap_or}}
use Rattle.std.proofs.Common.{◌≡◌, ℕ, zero, suc, ◌+◌, ◌<◌, ◌≤◌, Bool, true, false, ◌==◌, List, [], ◌∷◌, ◌++◌, Option, Some, None, MatchOption, length, take, drop, refl, sym, ap, ◌∙◌, subst, append_assoc, length-append, length-take, length-take-le, take-take, length-drop, take-append-drop, arith, cond, inl, inr}
use Rattle.std.proofs.{Math.Seq.{take-append_seam, drop-append_seam}, lemmas.List.{take-append-le, drop-drop}}
use Rattle.http_messages.specs.Lines.{line_feed, onto_first, lines_of, is_empty_line, through_empty, head_lines, head_text}
use Rattle.http_messages.specs.{Heads.{Judgement, IsJudged, IsBodyLength, judge_head}, Message.{Message}}
use Rattle.http_messages.specs.{Messages.{IsHeadOf, BeginsWithMessage, HasNoMessage, message_of}, Limits.{head_limit}}
use Rattle.httparse.proofs.GrammarLemmas.{request_unique}

onto_first-more : (b : ℕ) (lines more : List (List ℕ)) → (others : List (List ℕ)) × (onto_first b (lines ++ more) ≡ onto_first b lines ++ others)
onto_first-more b [] more = (onto_first b more, refl)
onto_first-more b (line ∷ lines) more = (more, refl)

lines_of-byte : (test : Bool) (b : ℕ) (old new : List (List ℕ)) → ((more : List (List ℕ)) × (new ≡ old ++ more))
    → (more : List (List ℕ)) × (cond test ((b ∷ []) ∷ new) (onto_first b new) ≡ cond test ((b ∷ []) ∷ old) (onto_first b old) ++ more)
lines_of-byte true b old new p = (p.0, ap (λ lines. (b ∷ []) ∷ lines) p.1)
lines_of-byte false b old new p =
    let q = onto_first-more b old p.0 in
    (q.0, ap (onto_first b) p.1 ∙ q.1)

-- the lines so far stay
pub lines_of-more : (a b : List ℕ) → (more : List (List ℕ)) × (lines_of (a ++ b) ≡ lines_of a ++ more)
lines_of-more [] b = (lines_of b, refl)
lines_of-more (x ∷ a) b = lines_of-byte (x == line_feed) x (lines_of a) (lines_of (a ++ b)) (lines_of-more a b)

option_map-more : {A B : Type 0} (f : A → B) (old new : Option A) (t : B) → ((u : A) → old ≡ Some u → new ≡ Some u) → option_map f old ≡ Some t
    → option_map f new ≡ Some t
option_map-more f None new t goes p = cc
option_map-more f (Some u) new t goes p = rw (goes u refl) p

through_empty-line : (line : List ℕ) (old new : Option (List (List ℕ))) (t : List (List ℕ)) (test : Bool)
    → ((u : List (List ℕ)) → old ≡ Some u → new ≡ Some u)
    → cond test (Some (line ∷ [])) (option_map (λ rest. line ∷ rest) old) ≡ Some t
    → cond test (Some (line ∷ [])) (option_map (λ rest. line ∷ rest) new) ≡ Some t
through_empty-line line old new t true goes q = q
through_empty-line line old new t false goes q = option_map-more (λ rest. line ∷ rest) old new t goes q

through_empty-more : (lines more : List (List ℕ)) (t : List (List ℕ)) → through_empty lines ≡ Some t → through_empty (lines ++ more) ≡ Some t
through_empty-more [] more t p = cc
through_empty-more (line ∷ lines) more t p =
    through_empty-line line (through_empty lines) (through_empty (lines ++ more)) t (is_empty_line line) (λ u. through_empty-more lines more u) p

head_lines-line : (line : List ℕ) (blank blank' full full' : Option (List (List ℕ))) (t : List (List ℕ)) (test : Bool)
    → ((u : List (List ℕ)) → blank ≡ Some u → blank' ≡ Some u) → ((u : List (List ℕ)) → full ≡ Some u → full' ≡ Some u)
    → option_map (λ rest. line ∷ rest) (cond test blank full) ≡ Some t
    → option_map (λ rest. line ∷ rest) (cond test blank' full') ≡ Some t
head_lines-line line blank blank' full full' t true goes goes' q = option_map-more (λ rest. line ∷ rest) blank blank' t goes q
head_lines-line line blank blank' full full' t false goes goes' q = option_map-more (λ rest. line ∷ rest) full full' t goes' q

head_lines-more : (lines more : List (List ℕ)) (t : List (List ℕ)) → head_lines lines ≡ Some t → head_lines (lines ++ more) ≡ Some t
head_lines-more [] more t p = cc
head_lines-more (line ∷ lines) more t p =
    head_lines-line line (head_lines lines) (head_lines (lines ++ more)) (through_empty lines) (through_empty (lines ++ more)) t (is_empty_line line)
    (λ u. head_lines-more lines more u) (λ u. through_empty-more lines more u) p

-- a head text stays the head text when more follows
pub head_text-more : (a b t : List ℕ) → head_text a ≡ Some t → head_text (a ++ b) ≡ Some t
head_text-more a b t p =
    let more = lines_of-more a b in
    option_map-more concat (head_lines (lines_of a)) (head_lines (lines_of (a ++ b))) t
    (λ u q. ap head_lines more.1 ∙ head_lines-more (lines_of a) more.0 u q) p

-- two fronts of one length are one, and so is what follows
pub append-cancel_equal_length : (a b x y : List ℕ) → length a ≡ length b → a ++ x ≡ b ++ y → (a ≡ b) × (x ≡ y)
append-cancel_equal_length a b x y n p =
    (sym (take-append_seam a x) ∙ (λ i. take (n i) (p i)) ∙ take-append_seam b y, sym (drop-append_seam a x) ∙ (λ i. drop (n i) (p i)) ∙ drop-append_seam b y)

-- a head is judged in one way
pub IsJudged-unique : (text : List ℕ) (a b : Judgement) → IsJudged text a → IsJudged text b → a ≡ b
IsJudged-unique text a b (inl p) (inl q) = p.1 ∙ sym q.1
IsJudged-unique text a b (inl p) (inr (inl q)) = let x = p.0 in let y = q.0 in cc
IsJudged-unique text a b (inl p) (inr (inr q)) = let x = p.0 in let y = q.0 in cc
IsJudged-unique text a b (inr (inl p)) (inl q) = let x = p.0 in let y = q.0 in cc
IsJudged-unique text a b (inr (inl p)) (inr (inl q)) = p.2 ∙ sym q.2
IsJudged-unique text a b (inr (inl p)) (inr (inr q)) = absurd (p.1 q.1 q.2)
IsJudged-unique text a b (inr (inr p)) (inl q) = let x = p.0 in let y = q.0 in cc
IsJudged-unique text a b (inr (inr p)) (inr (inl q)) = absurd (q.1 p.1 p.2)
IsJudged-unique text a b (inr (inr p)) (inr (inr q)) =
    p.3 ∙ ap judge_head (request_unique text p.1 q.1 [] [] p.2.reads q.2.reads).0 ∙ sym q.3

-- a head announces one length
pub IsBodyLength-unique : (head : List ℕ) (m n : ℕ) → IsBodyLength head m → IsBodyLength head n → m ≡ n
unfolding IsBodyLength
IsBodyLength-unique head m n p q =
    p.2 ∙ ap (λ judged. result_unwrap_or judged.body 0) (IsJudged-unique head p.0 q.0 p.1 q.1) ∙ sym q.2

MatchOption-unique : (o : Option (List ℕ)) (P : Type 0) (whole a b : List ℕ)
    → MatchOption o ((a ≡ whole) × P) (λ t. a ≡ t) → MatchOption o ((b ≡ whole) × P) (λ t. b ≡ t) → a ≡ b
MatchOption-unique None P whole a b p q = p.0 ∙ sym q.0
MatchOption-unique (Some t) P whole a b p q = p ∙ sym q

-- a stream has one head at its front
pub IsHeadOf-unique : (stream a b : List ℕ) → IsHeadOf stream a → IsHeadOf stream b → a ≡ b
IsHeadOf-unique stream a b p q = MatchOption-unique (head_text (take head_limit stream)) (head_limit ≤ length stream) (take head_limit stream) a b p q

MatchOption-more : (old new : Option (List ℕ)) (P Q : Type 0) (whole more head : List ℕ)
    → ((t : List ℕ) → old ≡ Some t → new ≡ Some t) → (P → (new ≡ old) × (more ≡ whole) × Q)
    → MatchOption old ((head ≡ whole) × P) (λ t. head ≡ t) → MatchOption new ((head ≡ more) × Q) (λ t. head ≡ t)
MatchOption-more None new P Q whole more head some none p =
    let same = none p.1 in
    rw same.0 (p.0 ∙ sym same.1, same.2)
MatchOption-more (Some t) new P Q whole more head some none p = rw (some t refl) p

take-append_prefix : (n : ℕ) (a b : List ℕ) → (more : List ℕ) × (take n (a ++ b) ≡ take n a ++ more)
take-append_prefix zero a b = ([], refl)
take-append_prefix (suc n) [] b = (take (suc n) b, refl)
take-append_prefix (suc n) (x ∷ a) b = let rest = take-append_prefix n a b in (rest.0, ap (λ l. x ∷ l) rest.1)

-- the head at the front stays when more follows
pub IsHeadOf-more : (stream more head : List ℕ) → IsHeadOf stream head → IsHeadOf (stream ++ more) head
IsHeadOf-more stream more head p =
    let grown = take-append_prefix head_limit stream more in
    MatchOption-more (head_text (take head_limit stream)) (head_text (take head_limit (stream ++ more))) (head_limit ≤ length stream) (head_limit ≤ length (stream ++ more))
    (take head_limit stream) (take head_limit (stream ++ more)) head
    (λ t found. ap head_text grown.1 ∙ head_text-more (take head_limit stream) grown.0 t found)
    (λ long.
    let same = take-append-le head_limit stream more long in
    (ap head_text same, same, omega (arith, long, length-append stream more)))
    p

-- a message at the front stays there when more follows
pub BeginsWithMessage-more : (stream more after : List ℕ) (m : Message) → BeginsWithMessage stream m after → BeginsWithMessage (stream ++ more) m (after ++ more)
BeginsWithMessage-more stream more after m p = record {
  whole = ap (λ l. l ++ more) p.whole ∙ append_assoc m.head (m.body ++ after) more ∙ ap (λ l. m.head ++ l) (append_assoc m.body after more);
  head = IsHeadOf-more stream more m.head p.head;
  body = p.body;
}

-- a stream begins with one message
pub BeginsWithMessage-unique : (stream after other : List ℕ) (m n : Message) → BeginsWithMessage stream m after → BeginsWithMessage stream n other → (m.head ≡ n.head) × (m.body ≡ n.body) × (after ≡ other)
BeginsWithMessage-unique stream after other m n p q =
    let heads : m.head ≡ n.head = IsHeadOf-unique stream m.head n.head p.head q.head in
    let following = append-cancel_equal_length m.head n.head (m.body ++ after) (n.body ++ other) (ap length heads) (sym p.whole ∙ q.whole) in
    let lengths = IsBodyLength-unique n.head (length m.body) (length n.body) (subst (λ head. IsBodyLength head (length m.body)) heads p.body) q.body in
    let bodies = append-cancel_equal_length m.body n.body after other lengths following.1 in
    (heads, bodies.0, bodies.1)

-- so many bytes of head and body are a message
pub BeginsWithMessage-of : (bytes : List ℕ) (head body : ℕ) → head + body ≤ length bytes → IsHeadOf bytes (take head bytes) → IsBodyLength (take head bytes) body
    → BeginsWithMessage bytes (message_of bytes head body) (drop (head + body) bytes)
BeginsWithMessage-of bytes head body within is_head is_body = record {
  whole = sym (take-append-drop head bytes) ∙ ap (λ l. take head bytes ++ l) (sym (take-append-drop body (drop head bytes)) ∙ ap (λ l. take body (drop head bytes) ++ l) (drop-drop body head bytes));
  head = is_head;
  body = subst (IsBodyLength (take head bytes)) (sym (length-take-le body (drop head bytes) (omega (arith, length-drop head bytes)))) is_body;
}

-- fewer bytes are none
pub HasNoMessage-too_short : (bytes : List ℕ) (head body : ℕ) → head ≤ length bytes → length bytes < head + body → IsHeadOf bytes (take head bytes) → IsBodyLength (take head bytes) body → HasNoMessage bytes
HasNoMessage-too_short bytes head body within short is_head is_body m after p =
    let heads = IsHeadOf-unique bytes m.head (take head bytes) p.head is_head in
    let bodies = IsBodyLength-unique (take head bytes) (length m.body) body (subst (λ l. IsBodyLength l (length m.body)) heads p.body) is_body in
    omega (arith, short, bodies, ap length heads, length-take-le head bytes within, ap length p.whole, length-append m.head (m.body ++ after), length-append m.body after)

module _ (bytes : List ℕ) where
  -- a head text that ends within the limit
  pub IsHeadOf-some : (n : ℕ) → n ≤ length (take head_limit bytes) → head_text (take head_limit bytes) ≡ Some (take n (take head_limit bytes)) → IsHeadOf bytes (take n bytes)
  IsHeadOf-some n within found = rw found (sym (take-take n head_limit bytes (omega (arith, within, length-take head_limit bytes))))

  -- a whole limit of bytes with none
  pub IsHeadOf-none : head_text (take head_limit bytes) ≡ None → head_limit ≤ length bytes → IsHeadOf bytes (take head_limit bytes)
  IsHeadOf-none none long = rw none (refl, long)

  -- fewer bytes with none
  pub IsHeadOf-short : head_text (take head_limit bytes) ≡ None → length bytes < head_limit → (head : List ℕ) → IsHeadOf bytes head → ⊥
  IsHeadOf-short none short head p = let whole = rw none at p in omega (arith, short, whole.1)

-- nothing is no message
pub HasNoMessage-empty : HasNoMessage []
HasNoMessage-empty m after p = IsHeadOf-short [] refl (omega arith) m.head p.head
