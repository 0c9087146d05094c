-- A stream has one reading, for all answers to its messages: so it doesn't matter how the stream is cut.
use Rattle.std.proofs.Common.{◌≡◌, ◌⊎◌, inl, inr, ℕ, suc, true, false, List, [], ◌∷◌, ◌++◌, length, Option, refl, sym, ap, ap₂, ◌∙◌, subst, arith, length-append}
use Rattle.broker_core.specs.{declared.answer.Answer.{Answer}, declared.command.Command.{Command}}
use Rattle.http_messages.{specs.{Message.{Message}, Messages.{BeginsWithMessage}}, proofs.MessagesLemmas.{BeginsWithMessage-unique, HasNoMessage-empty}}
use Rattle.http_requests.specs.{declared.requests.Request.{Request}, declared.requests.Request.TheVariants.{Refused, NoRoute, NoMethod, Asks}}
use Rattle.http_requests.proofs.OneRequest.{IsRequest-unique}
use Rattle.http_responses.specs.Responses.{Response}
use Rattle.broker_http.specs.{Exchange.{Exchange, Responds}, Laws.{IsOneReading, closes_at}, Stream.{Responses, StreamEnds, AllOpen}}
use Rattle.broker_http.specs.{declared.served.Ended.{Ended}, declared.served.Ended.TheVariants.{AtEnd, Rest, Closed}}

pub Message-ext : (m n : Message) → m.head ≡ n.head → m.body ≡ n.body → m ≡ n
Message-ext m n p q =
    ap₂
    (λ (head body : List ℕ).
    let made : Message = record { head = head; body = body } in
    made)
    p q

-- no response closes if there is none
append-not_empty : (front : List Response) (last : Response) → [] ≡ front ++ last ∷ [] → ⊥
append-not_empty front last e = omega (arith, ap length e, length-append front (last ∷ []))

-- if a stream ends without a response, it begins with no message
pub StreamEnds-no_message : (ended : Ended) (stream : List ℕ) (m : Message) (after : List ℕ) → StreamEnds ended [] stream → BeginsWithMessage stream m after → ⊥
StreamEnds-no_message AtEnd stream m after ends begins = HasNoMessage-empty m after (subst (λ l. BeginsWithMessage l m after) ends.1 begins)
StreamEnds-no_message Rest stream m after ends begins = ends.2 m after begins
StreamEnds-no_message Closed stream m after ends begins = append-not_empty ends.0 ends.1 ends.2

-- with no responses the rest is the stream
StreamEnds-unique_end : (a b : Ended) (rest : List ℕ) → StreamEnds a [] rest → StreamEnds b [] rest → a ≡ b
StreamEnds-unique_end AtEnd AtEnd rest p q = refl
StreamEnds-unique_end AtEnd Rest rest p q = absurd (omega (arith, q.1, ap length p.1))
StreamEnds-unique_end AtEnd Closed rest p q = absurd (append-not_empty q.0 q.1 q.2)
StreamEnds-unique_end Rest AtEnd rest p q = absurd (omega (arith, p.1, ap length q.1))
StreamEnds-unique_end Rest Rest rest p q = refl
StreamEnds-unique_end Rest Closed rest p q = absurd (append-not_empty q.0 q.1 q.2)
StreamEnds-unique_end Closed b rest p q = absurd (append-not_empty p.0 p.1 p.2)

-- the first response leaves the stream open and the end to the others, or closes it
abbrev pub GoesOn : Ended → Response → List Response → List ℕ → Type 0
GoesOn ended response responses rest =
    ((response.closes ≡ false) × StreamEnds ended responses rest) ⊎ ((response.closes ≡ true) × (responses ≡ []) × (ended ≡ Closed))

GoesOn-closed : (response : Response) (responses rest' : List Response) (rest : List ℕ) (last : Response) → response ∷ responses ≡ rest' ++ last ∷ [] → AllOpen rest' → last.closes ≡ true
    → GoesOn Closed response responses rest
GoesOn-closed response responses [] rest last e opened closes =
    let first : response ≡ last = cc in
    let none : responses ≡ [] = cc in
    inr (ap (λ (r : Response). r.closes) first ∙ closes, none, refl)
GoesOn-closed response responses (front ∷ fronts) rest last e opened closes =
    let first : response ≡ front = cc in
    let others : responses ≡ fronts ++ last ∷ [] = cc in
    inl (ap (λ (r : Response). r.closes) first ∙ opened.0, (fronts, last, others, opened.1, closes))

GoesOn-of_stream_end : (ended : Ended) (response : Response) (responses : List Response) (rest : List ℕ) → StreamEnds ended (response ∷ responses) rest → GoesOn ended response responses rest
GoesOn-of_stream_end AtEnd response responses rest p = inl (p.0.0, (p.0.1, p.1))
GoesOn-of_stream_end Rest response responses rest p = inl (p.0.0, (p.0.1, p.1, p.2))
GoesOn-of_stream_end Closed response responses rest p = GoesOn-closed response responses p.0 rest p.1 p.2 p.3 p.4

-- whether a response closes the stream follows from its request, for all answers to commands
pub closes-by_request : {S : Type 0} (Applies : S → Option (List ℕ) → Command → Answer → S → Type 0) (s t : S) (asked : Request) (response : Response)
    → Responds Applies s asked response t → response.closes ≡ closes_at asked
closes-by_request Applies s t (Refused refusal is_bodiless) response p = ap (λ (r : Response). r.closes) p.0
closes-by_request Applies s t (NoRoute closes) response p = ap (λ (r : Response). r.closes) p.0
closes-by_request Applies s t (NoMethod resource closes) response p = ap (λ (r : Response). r.closes) p.0
closes-by_request Applies s t (Asks token command closes) response p = ap (λ (r : Response). r.closes) p.2

module _ {S U : Type 0} (First : S → Option (List ℕ) → Command → Answer → S → Type 0)
    (Second : U → Option (List ℕ) → Command → Answer → U → Type 0) where
  -- the responses to one message close both, or neither
  closes-same : (m : Message) (a b : Response) (s t : S) (u v : U) → Exchange First s m a t → Exchange Second u m b v → a.closes ≡ b.closes
  closes-same m a b s t u v p q =
      closes-by_request First s t p.0 a p.2 ∙ ap closes_at (IsRequest-unique m p.0 q.0 p.1 q.1) ∙ sym (closes-by_request Second u v q.0 b q.2)

  pub IsOneReading-of_responses : (s t : S) (u v : U) (stream : List ℕ) (responses others : List Response) (rest left : List ℕ) (ended second : Ended)
      → Responses (Exchange First) s stream responses t rest → StreamEnds ended responses rest
      → Responses (Exchange Second) u stream others v left → StreamEnds second others left
      → IsOneReading stream responses others rest left ended second
  IsOneReading-of_responses s t u v stream [] [] rest left ended second p ends q over = record {
    messages = [];
    cut = p.1;
    each = refl;
    as_many = refl;
    same_rest = q.1 ∙ sym p.1;
    same_end = StreamEnds-unique_end second ended stream (subst (StreamEnds second []) q.1 over) (subst (StreamEnds ended []) p.1 ends);
  }
  IsOneReading-of_responses s t u v stream [] (other ∷ others) rest left ended second p ends q over =
      absurd (StreamEnds-no_message ended stream q.0 q.2 (subst (StreamEnds ended []) p.1 ends) q.3)
  IsOneReading-of_responses s t u v stream (response ∷ responses) [] rest left ended second p ends q over =
      absurd (StreamEnds-no_message second stream p.0 p.2 (subst (StreamEnds second []) q.1 over) p.3)
  IsOneReading-of_responses s t u v stream (response ∷ responses) (other ∷ others) rest left ended second p ends q over =
      let unique = BeginsWithMessage-unique stream p.2 q.2 p.0 q.0 p.3 q.3 in
      let message = Message-ext p.0 q.0 unique.0 unique.1 in
      let closes = closes-same q.0 response other s p.1 u q.1 (subst (λ m. Exchange First s m response p.1) message p.4) q.4 in
      let second_tail = subst (λ l. Responses (Exchange Second) q.1 l others v left) (sym unique.2) q.5 in
      let more = IsOneReading-of_responses p.1 t q.1 v p.2 responses others rest left ended second p.5 in
      let following = after response other responses others t v rest left ended second p.1 q.1 p.2 closes (λ a b. more a second_tail b) p.5 second_tail
      (GoesOn-of_stream_end ended response responses rest ends) (GoesOn-of_stream_end second other others left over) in
      record {
        messages = p.0 ∷ following.messages;
        cut = (p.2, p.3, following.cut);
        each = ap suc following.each;
        as_many = ap suc following.as_many;
        same_rest = following.same_rest;
        same_end = following.same_end;
      }
    where
      after : (response other : Response) (responses others : List Response) (t : S) (v : U) (rest left : List ℕ) (ended second : Ended) (s : S) (u : U) (stream : List ℕ)
          → response.closes ≡ other.closes
          → (StreamEnds ended responses rest → StreamEnds second others left → IsOneReading stream responses others rest left ended second)
          → Responses (Exchange First) s stream responses t rest → Responses (Exchange Second) u stream others v left
          → GoesOn ended response responses rest → GoesOn second other others left
          → IsOneReading stream responses others rest left ended second
      after response other responses others t v rest left ended second s u stream e more p q (inl a) (inl b) = more a.1 b.1
      after response other responses others t v rest left ended second s u stream e more p q (inl a) (inr b) =
          let wrong = sym a.0 ∙ e ∙ b.0 in cc
      after response other responses others t v rest left ended second s u stream e more p q (inr a) (inl b) =
          let wrong = sym a.0 ∙ e ∙ b.0 in cc
      after response other responses others t v rest left ended second s u stream e more p q (inr a) (inr b) =
          let here = subst (λ l. Responses (Exchange First) s stream l t rest) a.1 p in
          let there = subst (λ l. Responses (Exchange Second) u stream l v left) b.1 q in
          record {
            messages = [];
            cut = here.1;
            each = ap length a.1;
            as_many = ap length b.1;
            same_rest = there.1 ∙ sym here.1;
            same_end = b.2 ∙ sym a.2;
          }
