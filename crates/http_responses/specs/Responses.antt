-- What goes out for a message (which bodies there are is this project's own choice).
use Rattle.std.specs.Prelude.{◌≡◌, ◌<◌, ℕ, Bool, true, false, List, [], ◌++◌, length, take, codes, decimal, if◌then◌else◌, Option, Result, Ok, Err}
use Rattle.std.specs.Io.KnownBytes.{Appends}
use Rattle.answer_texts.specs.AnswerText.{answer_text, status_of}
use Rattle.broker_core.specs.declared.answer.Answer.{Answer}
use Rattle.http_responses.specs.Head.{head}
use Rattle.http_messages.specs.declared.head.Refusal.{Refusal}
use Rattle.http_messages.specs.declared.head.Refusal.TheVariants.{BadRequest, BodyTooLarge, HeadTooLarge, NotImplemented}
use Rattle.http_responses.specs.declared.writing.WriteFault.{WriteFault}
use Rattle.http_routes.specs.Methods.{allow}
use Rattle.http_routes.specs.declared.Resource.{Resource}

-- what goes out for a message
pub record Response : Type 0 where
  pub text : List ℕ
  pub closes : Bool

-- the part of a body that is sent: none of it if the method is HEAD
unfoldable pub sent_part : Bool → List ℕ → List ℕ
sent_part is_bodiless body = if is_bodiless then [] else body

-- the head of a response and what is sent of its body
abbrev pub response_bytes : (status : ℕ) (methods : List ℕ) (closes is_bodiless : Bool) (body : List ℕ) → List ℕ
response_bytes status methods closes is_bodiless body =
    head status methods closes (length body) ++ sent_part is_bodiless body

abbrev pub response_of : (status : ℕ) (methods : List ℕ) (closes is_bodiless : Bool) (body : List ℕ) → Response
response_of status methods closes is_bodiless body = record {
  text = response_bytes status methods closes is_bodiless body;
  closes = closes;
}

abbrev pub refusal_status : Refusal → ℕ
refusal_status BadRequest = 400
refusal_status BodyTooLarge = 413
refusal_status HeadTooLarge = 431
refusal_status NotImplemented = 501

abbrev pub refusal_text : Refusal → List ℕ
refusal_text refusal = codes "{\"answer\":\"refused\",\"status\":" ++ (decimal (refusal_status refusal) ++ codes "}")

-- a refused head closes
abbrev pub refusal_response : Refusal → Bool → Response
refusal_response refusal is_bodiless =
    response_of (refusal_status refusal) [] true is_bodiless (refusal_text refusal)

abbrev pub no_route_response : Bool → Response
no_route_response closes = response_of 404 [] closes false (codes "{\"answer\":\"no route\"}")

abbrev pub no_method_response : Resource → Bool → Response
no_method_response resource closes =
    response_of 405 (allow resource) closes false (codes "{\"answer\":\"no method\"}")

-- the answer to a command
abbrev pub answer_response : Answer → Bool → Response
answer_response answer closes = response_of (status_of answer) [] closes false (answer_text answer)

-- the whole response is out, or the writer failed and a beginning of it is, but not the whole
abbrev pub Writes : Option (List ℕ) → Option (List ℕ) → Response → Result Bool WriteFault → Type 0
Writes old new response (Ok closes) = (response.closes ≡ closes) × Appends old new response.text
Writes old new response (Err fault) =
    (n : ℕ) × (n < length response.text) × Appends old new (take n response.text)
