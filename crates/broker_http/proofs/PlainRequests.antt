-- Requests as a client writes them, all of one form: what such a request asks, once its IsComputed-parts are computed.
use Rattle.std.specs.{Prelude.{codes, length, take, Option, Some, None, option_and_then, Result, Ok, MatchOption}, List.{list_all}, Str.{IsUtf8}}
use Rattle.std.specs.Result.{result_unwrap_or}
use Rattle.std.proofs.Common.{◌≡◌, ◌≤◌, ◌&&◌, ℕ, List, [], ◌∷◌, ◌++◌, Bool, arith, true, false, refl, sym, ap, subst, inl, inr, if◌then◌else◌}
use Rattle.std.proofs.{lemmas.List.Elements.{All-from_recursion}, lemmas.Bool.{ltb-true, and_parts}, lemmas.List.Sums.{AllPass-from_list_all}}
use Rattle.std.proofs.{lemmas.Str.{IsUtf8-from_ascii}, lemmas.Str.Ascii.{IsAscii-from_all}, Math.Dec.{ltb}}
use Rattle.httparse.specs.Grammar.{RequestHead, IsRequestHead, Field, IsField, crlf, is_token_byte, is_value_byte, is_uri_byte, print_request}
use Rattle.percent_encoding.specs.Percent.{percent_decode}
use Rattle.serde_json.specs.{Data.{Data}, Find.{get, as_str}}
use Rattle.broker_names.specs.Name.{IsName, is_token_byte as is_callers_byte}
use Rattle.broker_core.specs.{Text.{Text}, State.{State as Broker}, Laws.{TeamsDiffer}, Machine.{Step, is_step, Request as Returned}}
use Rattle.broker_core.specs.{declared.command.Command.{Command}, declared.answer.Answer.{Answer}}
use Rattle.command_facts.specs.Primitives.{broker_primitives}
use Rattle.http_messages.specs.Heads.{IsHeadText, IsJudged, IsBodyLength, judge_head, body_of_head, fields_of, is_last_head, is_too_large, served_method}
use Rattle.http_messages.specs.{Fields.{values_named}, Limits.{head_limit}, Lines.{head_text}, Message.{Message, message}, Messages.{BeginsWithMessage}}
use Rattle.http_messages.specs.declared.head.Refusal.{Refusal}
use Rattle.http_routes.specs.{Routes.{resource_of, segment}, declared.Operation.{Operation}, declared.Resource.{Resource}}
use Rattle.http_requests.specs.{Bodies.{IsNameField, IsTextNamed}, Commands.{IsCommand}, Names.{IsNamed, IsPathName}, Tokens.{only_credentials}}
use Rattle.http_requests.specs.Requests.{IsRequest, ByOperation, ByAsked, ByResource, ByHead, operation_asked, path_of, query_of}
use Rattle.http_requests.specs.{declared.requests.Request.{Request}, declared.requests.Request.TheVariants.{Asks}}
use Rattle.http_responses.specs.Responses.{Response, answer_response}
use Rattle.broker_http.specs.{Calls.{ByMachine}, Journal.{Journal}, Serving.Mode.{Running}, Stream.{Responses}}

abbrev pub is_ascii : List ℕ → Bool
is_ascii bytes = list_all (λ b. ltb b 128) bytes

pub IsUtf8-of_ascii : (bytes : List ℕ) → is_ascii bytes ≡ true → IsUtf8 bytes
IsUtf8-of_ascii bytes low =
    IsUtf8-from_ascii bytes (IsAscii-from_all bytes (λ k d m. ltb-true _ 128 (AllPass-from_list_all (λ b. ltb b 128) bytes low k d m)))

-- a plain name, by its bytes
pub IsNamed-plain : (text : Text) → is_ascii text ≡ true → IsName text → IsNamed text (Some text)
IsNamed-plain text low name = (refl, IsUtf8-of_ascii text low, name)

-- the name that a path has at a place
pub IsPathName-plain : (n : ℕ) (path text : Text) → percent_decode (segment n path) ≡ text → is_ascii text ≡ true → IsName text → IsPathName n path (Ok text)
IsPathName-plain n path text is low name = (Some text, subst (λ t. IsNamed t (Some text)) (sym is) (IsNamed-plain text low name), refl)

-- the name of a body's field
pub IsNameField-plain : (key : Text) (fields : Data) (text : Text) → option_and_then as_str (get key fields) ≡ Some text → is_ascii text ≡ true → IsName text → IsNameField key fields (Ok text)
IsNameField-plain key fields text is low name = (Some text, subst (λ (t : Option Text). IsTextNamed t (Some text)) (sym is) (IsNamed-plain text low name), refl)

-- ---- a request

-- the method, the target, the caller's token, how long the body is, the body; and what they ask
pub record PlainRequest : Type 0 where
  pub method : List ℕ
  pub target : List ℕ
  pub token : List ℕ
  pub size : List ℕ
  pub body : List ℕ
  pub operation : Operation
  pub command : Command

abbrev pub plain_request : (method target token size body : List ℕ) → Operation → Command → PlainRequest
plain_request method target token size body operation command =
    record { method = method; target = target; token = token; size = size; body = body; operation = operation; command = command }

-- its head
abbrev pub head_of : PlainRequest → List ℕ
head_of a =
    a.method ++ codes " " ++ a.target ++ codes " HTTP/1.1\r\nhost: broker\r\nauthorization: Bearer " ++ a.token
    ++ codes "\r\ncontent-length: " ++ a.size ++ codes "\r\n\r\n"

abbrev pub message_of : PlainRequest → Message
message_of a = message (head_of a) a.body

-- the bytes of these requests, one after another
abbrev pub bytes_of : List PlainRequest → List ℕ
bytes_of [] = []
bytes_of (a ∷ more) = head_of a ++ (a.body ++ bytes_of more)

abbrev pub request_of : PlainRequest → Returned
request_of a = record { token = Some a.token; command = a.command }

-- ---- what a computation says of it

abbrev field : List ℕ → List ℕ → Field
field name raw = record { name = name; raw = raw; end = crlf }

abbrev authorization : PlainRequest → List ℕ
authorization a = codes " Bearer " ++ a.token

abbrev content_length : PlainRequest → List ℕ
content_length a = codes " " ++ a.size

abbrev fields : PlainRequest → List Field
fields a = field (codes "host") (codes " broker") ∷ field (codes "authorization") (authorization a) ∷ field (codes "content-length") (content_length a) ∷ []

abbrev parsed : PlainRequest → RequestHead
parsed a = record { blank = []; method = a.method; target = a.target; minor = 1; line_end = crlf; fields = fields a; last = crlf }

abbrev is_field_text : List ℕ → List ℕ → Bool
is_field_text name raw = ltb 0 (length name) && (list_all is_token_byte name && list_all is_value_byte raw)

-- each part is of its class
abbrev is_sound : PlainRequest → Bool
is_sound a =
    (ltb 0 (length a.method) && list_all is_token_byte a.method)
    && ((ltb 0 (length a.target) && (list_all is_uri_byte a.target && is_ascii a.target))
    && ((is_field_text (codes "host") (codes " broker") && (is_field_text (codes "authorization") (authorization a) && is_field_text (codes "content-length") (content_length a)))
    && (ltb 15 (length a.token) && (ltb (length a.token) 129 && list_all is_callers_byte a.token))))

abbrev Facts : Type 0
Facts = Bool × List ℕ × Bool × Result ℕ Refusal × Bool × Option Operation × Option (List ℕ)

abbrev facts : PlainRequest → Facts
facts a = (
  is_sound a,
  print_request (parsed a) ++ [],
  is_too_large (head_of a),
  body_of_head (parsed a),
  is_last_head (parsed a),
  option_and_then (λ r. operation_asked r (served_method a.method)) (resource_of (path_of a.target)),
  only_credentials (values_named (codes "authorization") (fields_of (parsed a))),
)

-- The IsComputed-parts are sound and print as the head, which isn't too large; it announces the body, the stream goes on, the method
-- and the target name the operation, and the caller has the token.
abbrev pub IsComputed : PlainRequest → Type 0
IsComputed a = facts a ≡ (true, head_of a, false, Ok (length a.body), false, Some a.operation, Some a.token)

module _ (a : PlainRequest) (it : IsComputed a) where
  IsComputed-parts : ((ltb 0 (length a.method) && list_all is_token_byte a.method) ≡ true) × (((ltb 0 (length a.target) && (list_all is_uri_byte a.target && is_ascii a.target)) ≡ true)
      × (((is_field_text (codes "host") (codes " broker") && (is_field_text (codes "authorization") (authorization a) && is_field_text (codes "content-length") (content_length a))) ≡ true)
      × ((ltb 15 (length a.token) && (ltb (length a.token) 129 && list_all is_callers_byte a.token)) ≡ true)))
  IsComputed-parts =
      let all = and_parts _ _ (ap (λ (f : Facts). f.0) it) in
      let more = and_parts _ _ all.1 in
      (all.0, (more.0, and_parts _ _ more.1))

  IsField-field : (name raw : List ℕ) → is_field_text name raw ≡ true → IsField (field name raw)
  IsField-field name raw is =
      let both = and_parts _ _ is in
      let rest = and_parts _ _ both.1 in
      record { name = (ltb-true 0 (length name) both.0, AllPass-from_list_all is_token_byte name rest.0); raw = AllPass-from_list_all is_value_byte raw rest.1 }

  IsRequestHead-parsed : IsRequestHead (parsed a)
  IsRequestHead-parsed =
      let method = and_parts _ _ IsComputed-parts.0 in
      let target = and_parts _ _ IsComputed-parts.1.0 in
      let texts = and_parts _ _ target.1 in
      let first = and_parts _ _ IsComputed-parts.1.1.0 in
      let others = and_parts _ _ first.1 in
      record {
        method = (ltb-true 0 (length a.method) method.0, AllPass-from_list_all is_token_byte a.method method.1);
        target = (ltb-true 0 (length a.target) target.0, AllPass-from_list_all is_uri_byte a.target texts.0);
        target_text = IsUtf8-of_ascii a.target texts.1;
        minor = omega arith;
        fields = All-from_recursion IsField (fields a) (
          IsField-field (codes "host") (codes " broker") first.0,
          (
            IsField-field (codes "authorization") (authorization a) others.0,
            (IsField-field (codes "content-length") (content_length a) others.1, tt),
          ),
        );
      }

  IsHeadText-head_of : IsHeadText (head_of a) (parsed a)
  IsHeadText-head_of = record { reads = (IsRequestHead-parsed, sym (ap (λ (f : Facts). f.1) it)); few = omega arith }

  IsJudged-head_of : IsJudged (head_of a) (judge_head (parsed a))
  IsJudged-head_of = inr (inr (ap (λ (f : Facts). f.2) it, parsed a, IsHeadText-head_of, refl))

  body_of_head-parsed : body_of_head (parsed a) ≡ Ok (length a.body)
  body_of_head-parsed = ap (λ (f : Facts). f.3) it

  BeginsWithMessage-head_of : (after : List ℕ) → head_text (take head_limit (head_of a ++ (a.body ++ after))) ≡ Some (head_of a) → BeginsWithMessage (head_of a ++ (a.body ++ after)) (message_of a) after
  unfolding IsBodyLength
  BeginsWithMessage-head_of after found = record {
    whole = refl;
    head = subst (λ o. MatchOption o ((head_of a ≡ take head_limit (head_of a ++ (a.body ++ after))) × (head_limit ≤ length (head_of a ++ (a.body ++ after)))) (λ text. head_of a ≡ text)) (sym found) refl;
    body = (judge_head (parsed a), IsJudged-head_of, ap (λ (r : Result ℕ Refusal). result_unwrap_or r 0) (sym body_of_head-parsed));
  }

  abbrev says : Request
  says = Asks (Some a.token) a.command false

  module _ (is : IsCommand a.operation (path_of a.target) (query_of a.target) a.body a.command) where
    by_operation : ByOperation (parsed a) a.body a.operation says
    by_operation =
        let token = and_parts _ _ IsComputed-parts.1.1.1 in
        let rest = and_parts _ _ token.1 in
        let low = ltb-true 15 (length a.token) token.0 in
        let high = ltb-true (length a.token) 129 rest.0 in (
          a.command,
          Some a.token,
          is,
          (ap (λ (f : Facts). f.6) it, record { long = omega (arith, low); short = omega (arith, high); plain = AllPass-from_list_all is_callers_byte a.token rest.1 }),
          ap (λ closes. Asks (Some a.token) a.command closes) (sym (ap (λ (f : Facts). f.4) it)),
        )

    by_resource : (o : Option Resource) → option_and_then (λ r. operation_asked r (served_method a.method)) o ≡ Some a.operation → ByResource (parsed a) a.body o says
    by_resource None named = absurd (cc)
    by_resource (Some resource) named = subst (λ o. ByAsked (parsed a) a.body resource o says) (sym named) by_operation

    asks : IsRequest (message_of a) says
    unfolding IsRequest
    asks = (
      judge_head (parsed a),
      IsJudged-head_of,
      subst (λ r. ByHead (message_of a) (judge_head (parsed a)).is_bodiless r says) (sym body_of_head-parsed)
          (parsed a, IsHeadText-head_of, by_resource (resource_of (path_of a.target)) (ap (λ (f : Facts). f.5) it)),
    )

-- ---- a stream of such requests, each answered by a step

-- the machine is in this state and has answered so
abbrev pub after : Broker → List (Returned × Answer) → Journal
after s steps = record { mode = Running s; steps = steps }

abbrev pub response : List ℕ → Response
response bytes = record { text = bytes; closes = false }

-- The request is answered by a step, and then the rest of the stream is.
pub answered : (a : PlainRequest) → IsComputed a → IsCommand a.operation (path_of a.target) (query_of a.target) a.body a.command
    → (rest : List ℕ) → head_text (take head_limit (head_of a ++ (a.body ++ rest))) ≡ Some (head_of a)
    → (s t : Broker) (steps : List (Returned × Answer)) (answer : Answer) → is_step answer ≡ true → TeamsDiffer s → Step broker_primitives s (Some a.token) a.command (record { answer = answer; state = t })
    → (bytes : List ℕ) → response bytes ≡ answer_response answer false
    → (more : List Response) (last : Journal) → Responses ByMachine (after t (steps ++ (request_of a, answer) ∷ [])) rest more last []
    → Responses ByMachine (after s steps) (head_of a ++ (a.body ++ rest)) (response bytes ∷ more) last []
answered a it is rest found s t steps answer is_one differ step bytes sent more last tail = (
  message_of a,
  after t (steps ++ (request_of a, answer) ∷ []),
  rest,
  BeginsWithMessage-head_of a it rest found,
  (says a it, asks a it is, (answer, (inl (is_one, step, differ), ap (λ b. if b then steps ++ (request_of a, answer) ∷ [] else steps) (sym is_one)), sent)),
  tail,
)
