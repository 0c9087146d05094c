-- What a head says: the checks on it, and how long its body is.
use Rattle.std.specs.Prelude.{◌≡◌, ℕ, ◌+◌, ◌≤◌, ◌⊎◌, ◌==◌, ◌||◌, Bool, true, false, not, List, [], ◌∷◌, length, map, bytes_eq, codes, nat_lt, nat_le, is_some, slice_index, if◌then◌else◌, Option, Some, None, Result, Ok, Err}
use Rattle.std.specs.List.{list_any}
use Rattle.std.specs.Result.{result_unwrap_or}
use Rattle.std.specs.Str.Parse.{digits_value}
use Rattle.http.specs.Method.{is_among}
use Rattle.httparse.specs.Grammar.{RequestHead, ReadsRequest}
use Rattle.httparse.specs.Spans.{name_and_value}
use Rattle.http_messages.specs.Lines.{lines_of, head_text, from_first}
use Rattle.http_messages.specs.Fields.{values_named, IsField, is_short_number}
use Rattle.http_messages.specs.Options.{has_close}
use Rattle.http_messages.specs.declared.fields.Field.{Field}
use Rattle.http_messages.specs.Limits.{field_limit, body_limit}
use Rattle.http_messages.specs.declared.head.Refusal.{Refusal}
use Rattle.http_messages.specs.declared.head.Refusal.TheVariants.{BadRequest, BodyTooLarge, HeadTooLarge, NotImplemented}

-- the methods that are served (RFC 9110, section 9.3), in the order of their bytes
abbrev pub served_methods : List (List ℕ)
served_methods = codes "DELETE" ∷ codes "GET" ∷ codes "POST" ∷ codes "PUT" ∷ []

-- the method, if it is served
unfoldable pub served_method : List ℕ → Option (List ℕ)
served_method method = if is_among served_methods method then Some method else None

-- a check, and the refusal if it fails
abbrev pub Check : Type 0
Check = Bool × Refusal

-- this if all checks hold, or the refusal of the first that fails
abbrev pub first_failing : {A : Type 0} → List Check → A → Result A Refusal
first_failing [] found = Ok found
first_failing (check ∷ checks) found = if check.0 then first_failing checks found else Err check.1

-- no content-length, or one that is 1 to 10 digits
abbrev pub is_absent_or_number : List (List ℕ) → Bool
is_absent_or_number [] = true
is_absent_or_number (value ∷ []) = is_short_number value
is_absent_or_number (value ∷ other ∷ values) = false

-- the number of the first content-length: none is 0
unfoldable pub body_length : List (List ℕ) → ℕ
body_length [] = 0
body_length (value ∷ values) = digits_value 10 value

abbrev pub length_checks : (lengths : List (List ℕ)) → List Check
length_checks lengths =
    (is_absent_or_number lengths, BadRequest)
    ∷ (nat_le (body_length lengths) body_limit, BodyTooLarge)
    ∷ []

-- the checks on a head in order: the target, the host, the method, the transfer coding, the length
abbrev pub checks : (method target : List ℕ) (minor : ℕ) (hosts codings lengths : List (List ℕ)) → List Check
checks method target minor hosts codings lengths =
    (slice_index target 0 == 47, BadRequest)
    ∷ (not (minor == 1) || (length hosts == 1), BadRequest)
    ∷ (is_some (served_method method), NotImplemented)
    ∷ (length codings == 0, NotImplemented)
    ∷ length_checks lengths

-- the length of the body, or the refusal of the first check that fails
unfoldable pub judge : (method target : List ℕ) (minor : ℕ) (hosts codings lengths : List (List ℕ))
    → Result ℕ Refusal
judge method target minor hosts codings lengths =
    first_failing (checks method target minor hosts codings lengths) (body_length lengths)

-- the checks on a head of these fields come to this
abbrev pub AreChecked : (method target : List ℕ) (minor : ℕ) (host coding length : Field) → Result ℕ Refusal → Type 0
AreChecked method target minor host coding length checked =
    (hosts codings lengths : List (List ℕ)) → IsField hosts host → IsField codings coding → IsField lengths length
    → checked ≡ judge method target minor hosts codings lengths

-- the names and values of the fields
abbrev pub fields_of : RequestHead → List (List ℕ × List ℕ)
fields_of h = map name_and_value h.fields

-- the length of the body after this head, or its first fault
abbrev pub body_of_head : RequestHead → Result ℕ Refusal
body_of_head h =
    judge h.method h.target h.minor
    (values_named (codes "host") (fields_of h))
    (values_named (codes "transfer-encoding") (fields_of h))
    (values_named (codes "content-length") (fields_of h))

-- the method HEAD asks for an answer without its body
abbrev pub is_head_method : List ℕ → Bool
is_head_method method = bytes_eq method (codes "HEAD")

-- what the checks on a head come to: whether an answer goes without its body, and the length of the message's
-- own body or why it is refused
pub record Judgement : Type 0 where
  pub is_bodiless : Bool
  pub body : Result ℕ Refusal

-- a refusal before there is a head
abbrev pub unread : Refusal → Judgement
unread refusal = record { is_bodiless = false; body = Err refusal }

abbrev pub judge_head : RequestHead → Judgement
judge_head h = record { is_bodiless = is_head_method h.method; body = body_of_head h }

-- the connection closes after the answer: to HTTP/1.0, or if the head has the option close (RFC 9112,
-- section 9.6; that HTTP/1.0 always closes is this project's own choice)
abbrev pub is_last : ℕ → List (List ℕ) → Bool
is_last minor connections = if minor == 0 then true else list_any has_close connections

abbrev pub is_last_head : RequestHead → Bool
is_last_head h = is_last h.minor (values_named (codes "connection") (fields_of h))

-- the whole text is this head, of no more fields than the limit
pub record IsHeadText (text : List ℕ) (h : RequestHead) : Type 0 where
  pub reads : ReadsRequest text h []
  pub few : length h.fields ≤ field_limit

-- no head text, or too many lines between its first that isn't empty and its last
abbrev pub is_too_large : List ℕ → Bool
is_too_large text =
    if is_some (head_text text) then nat_lt (field_limit + 2) (length (from_first (lines_of text)))
    else true

-- What the checks on a head text come to: it is too large, it is no head, or the head is judged.
abbrev pub IsJudged : List ℕ → Judgement → Type 0
IsJudged text judged =
    ((is_too_large text ≡ true) × (judged ≡ unread HeadTooLarge))
    ⊎ ((is_too_large text ≡ false) × ((h : RequestHead) → ¬ (IsHeadText text h)) × (judged ≡ unread BadRequest))
    ⊎ ((is_too_large text ≡ false) × (h : RequestHead) × IsHeadText text h × (judged ≡ judge_head h))

-- how many bytes of body the head announces: none if it is refused
unfoldable pub IsBodyLength : List ℕ → ℕ → Type 0
IsBodyLength text n = (judged : Judgement) × IsJudged text judged × (n ≡ result_unwrap_or judged.body 0)
