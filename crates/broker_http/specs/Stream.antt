-- The responses to a stream.
use Rattle.std.specs.Prelude.{◌≡◌, ℕ, ◌-◌, ◌^◌, ◌<◌, Bool, true, false, List, [], ◌∷◌, ◌++◌, length, take, Option}
use Rattle.std.specs.List.{flat_map}
use Rattle.std.specs.Io.KnownBytes.{Appends}
use Rattle.http_messages.specs.Message.{Message}
use Rattle.http_messages.specs.Messages.{BeginsWithMessage, HasNoMessage}
use Rattle.http_responses.specs.Responses.{Response}
use Rattle.broker_http.specs.declared.served.StreamFault.{StreamFault}
use Rattle.broker_http.specs.declared.served.StreamFault.TheVariants as faults
use Rattle.broker_http.specs.declared.served.Ended.{Ended}
use Rattle.broker_http.specs.declared.served.Ended.TheVariants.{AtEnd, Rest, Closed}

-- all that goes out
abbrev pub texts : List Response → List ℕ
texts responses = flat_map (λ r. r.text) responses

-- none of the responses closes
abbrev pub AllOpen : List Response → Type 0
AllOpen [] = Unit {0}
AllOpen (response ∷ responses) = (response.closes ≡ false) × AllOpen responses

-- the last response closes, and no other
abbrev pub LastCloses : List Response → Type 0
LastCloses responses =
    (front : List Response) × (last : Response)
    × (responses ≡ front ++ last ∷ []) × AllOpen front × (last.closes ≡ true)

-- No message is left to answer: the stream is at its end, its rest holds no whole message, or the last response closes.
abbrev pub StreamEnds : Ended → List Response → List ℕ → Type 0
StreamEnds AtEnd responses rest = AllOpen responses × (rest ≡ [])
StreamEnds Rest responses rest = AllOpen responses × (0 < length rest) × HasNoMessage rest
StreamEnds Closed responses rest = LastCloses responses

-- What is out at a fault: with Write all responses but the last, and of that one a beginning that isn't the
-- whole; else all of them. With Count they are as many as can be counted.
abbrev pub StreamCut : StreamFault → List Response → List ℕ → Type 0
StreamCut (faults.Read failed) responses out = AllOpen responses × (out ≡ texts responses)
StreamCut (faults.Turn over) responses out = AllOpen responses × (out ≡ texts responses)
StreamCut faults.Count responses out =
    AllOpen responses × (out ≡ texts responses) × (length responses ≡ 2 ^ 64 - 1)
StreamCut faults.Memory responses out = AllOpen responses × (out ≡ texts responses)
StreamCut (faults.Write fault) responses out =
    (front : List Response) × (last : Response) × (n : ℕ)
    × (responses ≡ front ++ last ∷ []) × AllOpen front
    × (n < length last.text) × (out ≡ texts front ++ take n last.text)

module _ {S : Type 0} (Exchange : S → Message → Response → S → Type 0) where
  -- These responses, to the messages at the front of the stream one after another, lead from one state to another;
  -- rest is what comes after those messages.
  abbrev pub Responses : S → List ℕ → List Response → S → List ℕ → Type 0
  Responses s stream [] t rest = (t ≡ s) × (rest ≡ stream)
  Responses s stream (response ∷ responses) t rest =
      (m : Message) × (u : S) × (after : List ℕ)
      × BeginsWithMessage stream m after × Exchange s m response u × Responses u after responses t rest

  -- one message is answered, and its response is out: it closes the stream, or it doesn't
  abbrev pub ExchangeDone : S → Message → S → Option (List ℕ) → Option (List ℕ) → Bool → Type 0
  ExchangeDone s m t old new closes =
      (response : Response) × Exchange s m response t
      × (response.closes ≡ closes) × Appends old new response.text

  -- What a fault leaves of one message: with Memory nothing was done, with Write it is answered and a
  -- beginning of its response is out, but not the whole.
  abbrev pub ExchangeCut : S → Message → S → Option (List ℕ) → Option (List ℕ) → StreamFault → Type 0
  ExchangeCut s m t old new (faults.Read failed) = ⊥
  ExchangeCut s m t old new (faults.Turn over) = ⊥
  ExchangeCut s m t old new faults.Count = ⊥
  ExchangeCut s m t old new faults.Memory = (t ≡ s) × Appends old new []
  ExchangeCut s m t old new (faults.Write fault) =
      (response : Response) × Exchange s m response t
      × ((n : ℕ) × (n < length response.text) × Appends old new (take n response.text))
