-- Responses go on.
use Rattle.std.specs.Io.KnownBytes.{Appends, Consumes}
use Rattle.std.proofs.Common.{◌≡◌, ℕ, ◌+◌, ◌<◌, false, List, [], ◌∷◌, ◌++◌, Option, Result, length, take, drop, refl, sym, ap, ◌∙◌, subst, append_assoc, append-nil, inl, inr, arith}
use Rattle.std.proofs.KnownBytes.{Appends-trans, Consumes-trans}
use Rattle.http_messages.specs.{Message.{Message}, Reading.{LeavesAtFault, IsOutcome}, declared.reading.ReadFault.{ReadFault}, declared.head.Head.{Head}}
use Rattle.http_messages.specs.{declared.head.Refused.{Refused}, declared.reading.ReadOutcome.{ReadOutcome}}
use Rattle.http_messages.specs.Messages.{AnnouncesBody, BeginsWithMessage, HasNoMessage, message_of}
use Rattle.http_messages.proofs.MessagesLemmas.{BeginsWithMessage-more, IsHeadOf-more}
use Rattle.broker_http.specs.{Faults.{fault_of_read, ReportsDevice}, Serving.{IsUnanswered, ServesUntil}}
use Rattle.broker_http.specs.{Stream.{texts, AllOpen, Responses, ExchangeCut, StreamCut, StreamEnds}, declared.served.StreamFault.{StreamFault}}
use Rattle.broker_http.specs.{declared.served.Ended.{Ended}, declared.served.Ended.TheVariants.{AtEnd, Rest, Closed}}
use Rattle.http_requests.specs.Requests.{AsksOperation}
use Rattle.http_responses.specs.Responses.{Response}
use Rattle.http_messages.specs.declared.reading.ReadFault.TheVariants as reads
use Rattle.http_messages.specs.declared.reading.ReadOutcome.TheVariants as outcomes
use Rattle.broker_http.specs.declared.served.StreamFault.TheVariants as faults

module _ {S : Type 0} (Exchange : S → Message → Response → S → Type 0) where
  -- more of the stream
  pub Responses-more : (s : S) (stream : List ℕ) (responses : List Response) (t : S) (rest more : List ℕ)
      → Responses Exchange s stream responses t rest → Responses Exchange s (stream ++ more) responses t (rest ++ more)
  Responses-more s stream [] t rest more p = (p.0, ap (λ l. l ++ more) p.1)
  Responses-more s stream (response ∷ responses) t rest more p =
      (p.0, p.1, p.2 ++ more, BeginsWithMessage-more stream more p.2 p.0 p.3, p.4, Responses-more p.1 p.2 responses t rest more p.5)

  -- the buffer after what came
  pub Responses-came : (s : S) (stream : List ℕ) (responses : List Response) (t : S) (old more new : List ℕ)
      → Responses Exchange s stream responses t old → new ≡ old ++ more → Responses Exchange s (stream ++ more) responses t new
  Responses-came s stream responses t old more new p e =
      subst (Responses Exchange s (stream ++ more) responses t) (sym e) (Responses-more s stream responses t old more p)

  -- one more message
  pub Responses-then : (s : S) (stream : List ℕ) (responses : List Response) (t : S) (rest : List ℕ) (m : Message) (response : Response) (u : S) (after : List ℕ)
      → Responses Exchange s stream responses t rest → BeginsWithMessage rest m after → Exchange t m response u
      → Responses Exchange s stream (responses ++ response ∷ []) u after
  Responses-then s stream [] t rest m response u after p begins exchanged =
      (m, u, after, subst (λ l. BeginsWithMessage l m after) p.1 begins, subst (λ v. Exchange v m response u) p.0 exchanged, (refl, refl))
  Responses-then s stream (first ∷ responses) t rest m response u after p begins exchanged =
      (p.0, p.1, p.2, p.3, p.4, Responses-then p.1 p.2 responses t rest m response u after p.5 begins exchanged)

  -- the state is the same
  pub Responses-stay : (s : S) (stream : List ℕ) (responses : List Response) (t u : S) (rest : List ℕ)
      → Responses Exchange s stream responses t rest → u ≡ t → Responses Exchange s stream responses u rest
  Responses-stay s stream responses t u rest p e = subst (λ v. Responses Exchange s stream responses v rest) (sym e) p

  -- a message came and is answered
  pub Responses-answered : (s : S) (stream : List ℕ) (responses : List Response) (t : S) (old more new : List ℕ) (outcome : ReadOutcome)
      (head_len body_len : ℕ) (head : Result Head Refused) (response : Response) (u : S)
      → Responses Exchange s stream responses t old → new ≡ old ++ more → IsOutcome new outcome → outcome ≡ outcomes.Message head_len body_len head
      → Exchange t (message_of new head_len body_len) response u
      → Responses Exchange s (stream ++ more) (responses ++ response ∷ []) u (drop (head_len + body_len) new)
  Responses-answered s stream responses t old more new outcome head_len body_len head response u p e came is exchanged =
      let begins = subst (IsOutcome new) is came in
      Responses-then s (stream ++ more) responses t new (message_of new head_len body_len) response u (drop (head_len + body_len) new)
      (Responses-came s stream responses t old more new p e) begins.2 exchanged

-- one more open response
pub AllOpen-then : (responses : List Response) (response : Response) → AllOpen responses → response.closes ≡ false → AllOpen (responses ++ response ∷ [])
AllOpen-then [] response p q = (q, tt)
AllOpen-then (first ∷ responses) response p q = (p.0, AllOpen-then responses response p.1 q)

-- what goes out for one more
pub texts-then : (responses : List Response) (response : Response) → texts (responses ++ response ∷ []) ≡ texts responses ++ response.text
texts-then [] response = append-nil response.text
texts-then (first ∷ responses) response = ap (λ l. first.text ++ l) (texts-then responses response) ∙ sym (append_assoc first.text (texts responses) response.text)

-- a fault of the reader leaves all responses out
pub StreamCut-read : (fault : ReadFault) (responses : List Response) → AllOpen responses → StreamCut (fault_of_read fault) responses (texts responses)
StreamCut-read (reads.Reader failed) responses opened = (opened, refl)
StreamCut-read reads.Memory responses opened = (opened, refl)

-- what came before the fault
came : (a b : Option (List ℕ)) (old new : List ℕ) (fault : ReadFault) → LeavesAtFault a b old new fault → (more : List ℕ) × Consumes a b more
came a b old new (reads.Reader failed) p = (p.0, p.1)
came a b old new reads.Memory p = (p.0 ++ p.1, p.2)

-- no message is whole, or memory runs out after a head, for its body
IsUnanswered-of_read : (a b : Option (List ℕ)) (old new stream : List ℕ) (fault : ReadFault) (left : LeavesAtFault a b old new fault) → HasNoMessage new → (fault ≡ reads.Memory → AnnouncesBody new)
    → IsUnanswered (fault_of_read fault) stream (old ++ (came a b old new fault left).0)
unfolding came
IsUnanswered-of_read a b old new stream (reads.Reader failed) left none body = subst HasNoMessage left.2 none
IsUnanswered-of_read a b old new stream reads.Memory left none body =
    let there = body refl in
    let grown : old ++ (left.0 ++ left.1) ≡ new ++ left.1 = sym (append_assoc old left.0 left.1) ∙ ap (λ l. l ++ left.1) (sym left.4) in
    inr (inl (subst AnnouncesBody (sym grown) (there.0, there.1, IsHeadOf-more new left.1 there.0 there.2, there.3, there.4)))

-- nothing is left
pub StreamEnds-at_end : (ended : Ended) (responses : List Response) (rest : List ℕ) → ended ≡ AtEnd → AllOpen responses → length rest ≡ 0 → StreamEnds ended responses rest
StreamEnds-at_end AtEnd responses [] e opened none = (opened, refl)
StreamEnds-at_end AtEnd responses (x ∷ rest) e opened none = absurd (omega (arith, none))
StreamEnds-at_end Rest responses rest e opened none = absurd cc
StreamEnds-at_end Closed responses rest e opened none = absurd cc

-- less than a message is left
pub StreamEnds-rest : (ended : Ended) (responses : List Response) (rest : List ℕ) → ended ≡ Rest → AllOpen responses → 0 < length rest → HasNoMessage rest → StreamEnds ended responses rest
StreamEnds-rest AtEnd responses rest e opened some none = absurd cc
StreamEnds-rest Rest responses rest e opened some none = (opened, some, none)
StreamEnds-rest Closed responses rest e opened some none = absurd cc

module _ {S : Type 0} (Exchange : S → Message → Response → S → Type 0) where
  -- a fault at one message, after those that are answered
  pub Responses-broken : (s : S) (stream : List ℕ) (responses : List Response) (t : S) (bytes : List ℕ) (m : Message) (after : List ℕ) (u : S)
      (first old new : Option (List ℕ)) (fault : StreamFault)
      → Responses Exchange s stream responses t bytes → AllOpen responses → Appends first old (texts responses) → BeginsWithMessage bytes m after
      → ExchangeCut Exchange t m u old new fault → (fault ≡ faults.Memory → AsksOperation m)
      → (more : List Response) × (rest : List ℕ) × (out : List ℕ) × Responses Exchange s stream more u rest × StreamCut fault more out × Appends first new out
      × IsUnanswered fault stream rest
  Responses-broken s stream responses t bytes m after u first old new (faults.Read failed) so_far opened out begins broken asks = absurd broken
  Responses-broken s stream responses t bytes m after u first old new (faults.Turn over) so_far opened out begins broken asks = absurd broken
  Responses-broken s stream responses t bytes m after u first old new faults.Count so_far opened out begins broken asks = absurd broken
  Responses-broken s stream responses t bytes m after u first old new faults.Memory so_far opened out begins broken asks = (
    responses,
    bytes,
    texts responses ++ [],
    Responses-stay Exchange s stream responses t u bytes so_far broken.0,
    (opened, append-nil (texts responses)),
    Appends-trans first old new (texts responses) [] out broken.1,
    inr (inr (m, after, begins, asks refl)),
  )
  Responses-broken s stream responses t bytes m after u first old new (faults.Write fault) so_far opened out begins broken asks =
      let response = broken.0 in
      let part = broken.2 in (
        responses ++ response ∷ [],
        after,
        texts responses ++ take part.0 response.text,
        Responses-then Exchange s stream responses t bytes m response u after so_far begins broken.1,
        (responses, response, part.0, refl, opened, part.1, refl),
        Appends-trans first old new (texts responses) (take part.0 response.text) out part.2,
        tt,
      )

  -- the reader fails after the messages that are answered
  pub Responses-unread : (s : S) (stream : List ℕ) (responses : List Response) (t : S) (bytes new : List ℕ)
      (a b c first old : Option (List ℕ)) (fault : ReadFault)
      → Consumes a b stream → Responses Exchange s stream responses t bytes → AllOpen responses → Appends first old (texts responses)
      → LeavesAtFault b c bytes new fault → HasNoMessage new → (fault ≡ reads.Memory → AnnouncesBody new)
      → ServesUntil Exchange s t a c first old (fault_of_read fault)
  Responses-unread s stream responses t bytes new a b c first old fault read so_far opened out left none body =
      let more = came b c bytes new fault left in (
        stream ++ more.0,
        responses,
        bytes ++ more.0,
        texts responses,
        Consumes-trans a b c stream more.0 read more.1,
        Responses-more Exchange s stream responses t bytes more.0 so_far,
        StreamCut-read fault responses opened,
        out,
        IsUnanswered-of_read b c bytes new (stream ++ more.0) fault left none body,
      )

-- a fault at one message isn't the reader's
pub ReportsDevice-weaker : (fault : StreamFault) (P Q : Type 0) → ReportsDevice fault ⊥ Q → ReportsDevice fault P Q
ReportsDevice-weaker (faults.Read failed) P Q p = absurd p
ReportsDevice-weaker (faults.Turn over) P Q p = tt
ReportsDevice-weaker faults.Count P Q p = tt
ReportsDevice-weaker (faults.Write fault) P Q p = p
ReportsDevice-weaker faults.Memory P Q p = tt
