-- What a message asks: a command, or a refusal by HTTP (RFC 9112; the order of the checks is this project's
-- own choice).
use Rattle.std.specs.Prelude.{◌≡◌, ℕ, ◌==◌, Bool, List, codes, Option, Some, None, Result, Ok, Err}
use Rattle.std.specs.List.{before_first, after_first}
use Rattle.httparse.specs.Grammar.{RequestHead}
use Rattle.httparse.specs.Spans.{IsRequestAt}
use Rattle.broker_core.specs.declared.command.Command.{Command}
use Rattle.http_messages.specs.Fields.{values_named}
use Rattle.http_messages.specs.Heads.{Judgement, IsJudged, IsHeadText, body_of_head, fields_of, served_method, is_last_head}
use Rattle.http_messages.specs.Message.{Message}
use Rattle.http_messages.specs.declared.head.Head.{Head}
use Rattle.http_messages.specs.declared.head.Refusal.{Refusal}
use Rattle.http_routes.specs.Methods.{operation_at}
use Rattle.http_routes.specs.Routes.{resource_of}
use Rattle.http_routes.specs.declared.Resource.{Resource}
use Rattle.http_routes.specs.declared.Operation.{Operation}
use Rattle.http_requests.specs.Commands.{IsCommand}
use Rattle.http_requests.specs.Tokens.{IsTokenOf}
use Rattle.http_requests.specs.declared.requests.Request.{Request}
use Rattle.http_requests.specs.declared.requests.Request.TheVariants as request

abbrev pub is_question_mark : ℕ → Bool
is_question_mark b = b == 63

-- a target's part before its first question mark, and the part after it
abbrev pub path_of : List ℕ → List ℕ
path_of target = before_first is_question_mark target

abbrev pub query_of : List ℕ → List ℕ
query_of target = after_first is_question_mark target

-- the operation that the method asks of the resource
abbrev pub operation_asked : Resource → Option (List ℕ) → Option Operation
operation_asked resource None = None
operation_asked resource (Some method) = operation_at resource method

-- this operation is asked, of a resource that the path names
abbrev pub IsOperationOf : RequestHead → Operation → Type 0
IsOperationOf h operation =
    (resource : Resource) × (resource_of (path_of h.target) ≡ Some resource)
    × (operation_asked resource (served_method h.method) ≡ Some operation)

-- a message asks an operation: its head passes the checks, its path has a route, and the resource has the method
unfoldable pub AsksOperation : Message → Type 0
AsksOperation m =
    (h : RequestHead) × IsHeadText m.head h × (size : ℕ) × (body_of_head h ≡ Ok size)
    × (operation : Operation) × IsOperationOf h operation

-- the code's head is this one: its parts are at these places of the text, it closes the connection if and only if
-- this one does, and it has its method
abbrev pub IsReadFrom : List ℕ → Head → RequestHead → Type 0
IsReadFrom text head h =
    IsRequestAt text head.spans head.parsed h × (head.closes ≡ is_last_head h)
    × (served_method h.method ≡ Some head.method)

module _ (h : RequestHead) (body : List ℕ) where
  -- a command and its caller's token
  abbrev pub ByOperation : Operation → Request → Type 0
  ByOperation operation r = (command : Command) × (token : Option (List ℕ))
      × IsCommand operation (path_of h.target) (query_of h.target) body command
      × IsTokenOf (values_named (codes "authorization") (fields_of h)) token
      × (r ≡ request.Asks token command (is_last_head h))

  -- by the operation that is asked of a resource
  abbrev pub ByAsked : Resource → Option Operation → Request → Type 0
  ByAsked resource None r = r ≡ request.NoMethod resource (is_last_head h)
  ByAsked resource (Some operation) r = ByOperation operation r

  -- by the resource that the path names
  abbrev pub ByResource : Option Resource → Request → Type 0
  ByResource None r = r ≡ request.NoRoute (is_last_head h)
  ByResource (Some resource) r = ByAsked resource (operation_asked resource (served_method h.method)) r

-- by what the checks on the head come to
abbrev pub ByHead : Message → Bool → Result ℕ Refusal → Request → Type 0
ByHead m is_bodiless (Err refusal) r = r ≡ request.Refused refusal is_bodiless
ByHead m is_bodiless (Ok size) r =
    (h : RequestHead) × IsHeadText m.head h × ByResource h m.body (resource_of (path_of h.target)) r

-- what a message asks
unfoldable pub IsRequest : Message → Request → Type 0
IsRequest m r = (judged : Judgement) × IsJudged m.head judged × ByHead m judged.is_bodiless judged.body r
