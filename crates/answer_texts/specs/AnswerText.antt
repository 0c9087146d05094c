-- the bodies and the statuses of answers (this project's own choice): compact JSON without a newline
use Rattle.std.specs.Prelude.{◌≡◌, ℕ, [], Bool, true, false, codes, is_none, string_bytes}
use Rattle.serde_json.specs.Written.{compact_text}
use Rattle.broker_core.specs.declared.answer.Answer.{Answer}
use Rattle.broker_core.specs.declared.answer.Answer.TheVariants as answer
use Rattle.broker_core.specs.declared.answer.Detail.{Detail}
use Rattle.broker_core.specs.declared.answer.Detail.TheVariants as detail
use Rattle.broker_core.specs.declared.answer.Shown.{Shown}
use Rattle.broker_core.specs.declared.answer.Shown.TheVariants as shown
use Rattle.broker_core.specs.declared.policy.Rule.TheVariants.{KnownCaller}
use Rattle.broker_core.specs.Text.{Text}
use Rattle.broker_core.specs.Words.{rule_text, missing_text, clash_text, fault_text, named_in}
use Rattle.answer_texts.specs.declared.constants.BodyText.{BodyText}
use Rattle.answer_texts.specs.declared.constants.BodyText.TheVariants as body
use Rattle.answer_texts.specs.Data.{says, word_data, form_data, faults_data, matrix_data, detail_data, environment_data, gate_data}

-- a pact is shown as its normal text
abbrev pub shown_text : Shown → Text
shown_text (shown.Pact text) = text
shown_text (shown.Environment e marks deployed released) = compact_text (environment_data e marks deployed released)
shown_text (shown.Gate e marks permitted faults) = compact_text (gate_data e marks permitted faults)
shown_text (shown.Matrix rows) = compact_text (matrix_data rows)

abbrev pub answer_text : Answer → Text
answer_text (answer.Done d) = compact_text (detail_data (codes "done") d)
answer_text (answer.Already d) = compact_text (detail_data (codes "already") d)
answer_text (answer.Shown x) = shown_text x
answer_text (answer.Denied rule) = compact_text (word_data (codes "denied") (codes "rule") (rule_text rule))
answer_text (answer.Unknown what) = compact_text (word_data (codes "unknown") (codes "what") (missing_text what))
answer_text (answer.BadForm f) = compact_text (form_data (fault_text f))
answer_text (answer.Taken what) = compact_text (word_data (codes "taken") (codes "what") (clash_text what))
answer_text answer.Full = compact_text (says (codes "full") [])
answer_text (answer.NotPermitted faults) = compact_text (faults_data faults)
answer_text answer.Pattern = compact_text (says (codes "pattern") [])
answer_text answer.Memory = compact_text (says (codes "memory") [])
answer_text answer.Store = compact_text (says (codes "store") [])
answer_text answer.Stopped = compact_text (says (codes "stopped") [])

-- the status of HTTP under which an answer goes out
abbrev pub status_of : Answer → ℕ
status_of (answer.Done d) = 200
status_of (answer.Already d) = 200
status_of (answer.Shown x) = 200
status_of (answer.Denied KnownCaller) = 401
status_of (answer.Denied rule) = 403
status_of (answer.Unknown what) = 404
status_of (answer.BadForm f) = 422
status_of (answer.Taken what) = 409
status_of answer.Full = 409
status_of (answer.NotPermitted faults) = 409
status_of answer.Pattern = 500
status_of answer.Memory = 503
status_of answer.Store = 500
status_of answer.Stopped = 503

-- the answer has nothing but its word
abbrev pub is_plain : Detail → Bool
is_plain detail.Plain = true
is_plain (detail.Content n) = false
is_plain (detail.Result n) = false
is_plain (detail.Replies failing n success) = false

-- the text is one of a fixed list: it has nothing of the database, and nothing that the caller sent
abbrev pub is_constant : Answer → Bool
is_constant (answer.Done d) = is_plain d
is_constant (answer.Already d) = is_plain d
is_constant (answer.Shown x) = false
is_constant (answer.Denied rule) = true
is_constant (answer.Unknown what) = true
is_constant (answer.BadForm f) = is_none (named_in f)
is_constant (answer.Taken what) = true
is_constant answer.Full = true
is_constant (answer.NotPermitted faults) = false
is_constant answer.Pattern = true
is_constant answer.Memory = true
is_constant answer.Store = true
is_constant answer.Stopped = true

-- for private clauses: the bytes of a body, and that they are those of this answer
abbrev pub body_bytes : BodyText → Text
body_bytes (body.Constant text) = text.now
body_bytes (body.Made text) = string_bytes text

abbrev pub IsMade : BodyText → Answer → Type 0
IsMade text outcome = body_bytes text ≡ answer_text outcome
