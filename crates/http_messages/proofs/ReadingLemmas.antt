-- One read after another.
use Rattle.std.specs.{Io.KnownBytes.{Consumes}, Result.{result_unwrap_or}}
use Rattle.std.proofs.Common.{◌≡◌, ℕ, ◌+◌, ◌<◌, ◌≤◌, List, ◌++◌, Option, Result, Ok, Err, OnErr, length, take, refl, sym, ap, ◌∙◌, subst, append_assoc, append-nil, length-append, arith, inr}
use Rattle.std.proofs.{KnownBytes.{Consumes-trans}, lemmas.List.{take-append-le, nil_from_length}}
use Rattle.http_messages.specs.{Heads.{IsBodyLength, judge_head}, Messages.{AnnouncesBody, IsHeadOf, HasNoHead, HasNoMessage}}
use Rattle.http_messages.specs.{Reading.{Gains, LeavesAtFault, IsOutcome}, Views.{judgement_of, IsHeadRead, announced}, declared.head.Head.{Head}}
use Rattle.http_messages.specs.{declared.head.Refused.{Refused}, declared.reading.ReadFault.{ReadFault}}
use Rattle.http_messages.specs.{declared.reading.ReadFault.TheVariants.{Reader, Memory}, declared.reading.ReadOutcome.TheVariants.{Message}}
use Rattle.http_messages.proofs.MessagesLemmas.{IsHeadOf-more, BeginsWithMessage-of, HasNoMessage-too_short}

-- one read, and then others
pub Gains-trans : (a b c : Option (List ℕ)) (old mid new : List ℕ) → Gains a b old mid → Gains b c mid new → Gains a c old new
Gains-trans a b c old mid new p q = (
  p.0 ++ q.0,
  Consumes-trans a b c p.0 q.0 p.1 q.1,
  q.2 ∙ ap (λ l. l ++ q.0) p.2 ∙ append_assoc old p.0 q.0,
)

-- some reads, and then one that fails
pub LeavesAtFault-after : (a b c : Option (List ℕ)) (old mid new : List ℕ) (fault : ReadFault)
    → Gains a b old mid → LeavesAtFault b c mid new fault → LeavesAtFault a c old new fault
LeavesAtFault-after a b c old mid new (Reader failed) p q = Gains-trans a b c old mid new p q
LeavesAtFault-after a b c old mid new Memory p q = (
  p.0 ++ q.0,
  q.1,
  subst (Consumes a c) (sym (append_assoc p.0 q.0 q.1)) (Consumes-trans a b c p.0 (q.0 ++ q.1) p.1 q.2),
  q.3,
  q.4 ∙ ap (λ l. l ++ q.0) p.2 ∙ append_assoc old p.0 q.0,
)

-- a read that got nothing leaves the buffer
pub Gains-none : (a b : Option (List ℕ)) (old new : List ℕ) (n : ℕ) → Gains a b old new → length new ≡ length old + n → n ≡ 0 → new ≡ old
Gains-none a b old new n p longer none =
    p.2 ∙ ap (λ l. old ++ l) (nil_from_length p.0 (omega (arith, longer, none, ap length p.2, length-append old p.0))) ∙ append-nil old

-- a head in the slice of a buffer is one in its bytes
pub IsHeadOf-of_slice : (slice bytes : List ℕ) (n : ℕ) → slice ≡ bytes → n ≤ length slice → IsHeadOf slice (take n slice)
    → (n ≤ length bytes) × IsHeadOf bytes (take n bytes)
IsHeadOf-of_slice slice bytes n same within found = subst (λ l. (n ≤ length l) × IsHeadOf l (take n l)) same (within, found)

-- with none in the slice there is none in the bytes, nor in the same bytes later
pub HasNoHead-of_slice : (slice bytes later : List ℕ) → slice ≡ bytes → later ≡ bytes → HasNoHead slice → HasNoHead later
HasNoHead-of_slice slice bytes later same kept none = subst HasNoHead (same ∙ sym kept) none

-- what is read of a head says how long its body is
pub announced-length : (text : List ℕ) (read : Result Head Refused) → IsHeadRead text read → IsBodyLength text (announced read)
unfolding IsBodyLength
announced-length text (Ok head) p =
    (judge_head p.1, inr (inr (p.0, p.1, p.2, refl)), sym (ap (λ body. result_unwrap_or body 0) p.3))
announced-length text (Err refused) p = (judgement_of refused, p, refl)

-- what a fault leaves in the buffer is at its front
pub LeavesAtFault-grows : (a b : Option (List ℕ)) (old new : List ℕ) (fault : ReadFault) → LeavesAtFault a b old new fault
    → (more : List ℕ) × (new ≡ old ++ more)
LeavesAtFault-grows a b old new (Reader failed) p = (p.0, p.2)
LeavesAtFault-grows a b old new Memory p = (p.0, p.4)

module _ (old more new : List ℕ) (head_len : ℕ) (read : Result Head Refused) (grown : new ≡ old ++ more)
    (within : head_len ≤ length old) (is_head : IsHeadOf old (take head_len old)) (is_read : IsHeadRead (take head_len old) read) where
  -- the head stays while the body is read
  take-head_same : take head_len new ≡ take head_len old
  take-head_same = ap (take head_len) grown ∙ take-append-le head_len old more within

  IsHeadOf-after_body : IsHeadOf new (take head_len new)
  IsHeadOf-after_body = subst (λ head. IsHeadOf new head) (sym take-head_same)
      (subst (λ l. IsHeadOf l (take head_len old)) (sym grown) (IsHeadOf-more old more (take head_len old) is_head))

  IsHeadRead-after_body : IsHeadRead (take head_len new) read
  IsHeadRead-after_body = subst (λ text. IsHeadRead text read) (sym take-head_same) is_read

  longer : length old ≤ length new
  longer = omega (arith, ap length grown, length-append old more)

  -- with so many bytes the message is whole
  pub IsOutcome-whole : head_len + announced read ≤ length new → IsOutcome new (Message head_len (announced read) read)
  IsOutcome-whole enough =
      (enough, IsHeadRead-after_body, BeginsWithMessage-of new head_len (announced read) enough IsHeadOf-after_body (announced-length (take head_len new) read IsHeadRead-after_body))

  -- with fewer it isn't
  pub HasNoMessage-short_body : length new < head_len + announced read → HasNoMessage new
  HasNoMessage-short_body fewer =
      HasNoMessage-too_short new head_len (announced read) (omega (arith, within, longer)) fewer IsHeadOf-after_body (announced-length (take head_len new) read IsHeadRead-after_body)

  -- a body is announced
  pub AnnouncesBody-short : length new < head_len + announced read → AnnouncesBody new
  AnnouncesBody-short fewer =
      (take head_len new, announced read, IsHeadOf-after_body, announced-length (take head_len new) read IsHeadRead-after_body, omega (arith, within, longer, fewer))

-- with no head there is no message
pub HasNoMessage-of_no_head : (bytes : List ℕ) → HasNoHead bytes → HasNoMessage bytes
HasNoMessage-of_no_head bytes none m after begins = none m.head begins.head

-- a fact at an error
pub OnErr-of_fact : {A E : Type 0} (r : Result A E) {P : Type 0} → P → OnErr r P
OnErr-of_fact (Ok x) p = tt
OnErr-of_fact (Err e) p = p
