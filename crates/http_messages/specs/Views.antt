-- The code's values as the definitions' values.
use Rattle.std.specs.Prelude.{◌≡◌, ℕ, false, List, Some, Result, Ok, Err}
use Rattle.httparse.specs.Grammar.{RequestHead}
use Rattle.httparse.specs.Spans.{IsRequestAt, IsRequestWithin}
use Rattle.http_messages.specs.Heads.{Judgement, IsJudged, IsHeadText, is_too_large, body_of_head, is_last_head, served_method}
use Rattle.http_messages.specs.declared.head.Head.{Head}
use Rattle.http_messages.specs.declared.head.Refusal.{Refusal}
use Rattle.http_messages.specs.declared.head.Refused.{Refused}

abbrev pub judgement_of : Refused → Judgement
judgement_of refused = record { is_bodiless = refused.is_bodiless; body = Err refused.refusal }

-- only the length of what is found
abbrev pub length_found : Result (List ℕ × ℕ) Refusal → Result ℕ Refusal
length_found (Ok found) = Ok found.1
length_found (Err refusal) = Err refusal

-- what is read of a head text: a head that passes the checks, by its places in the text, or why it is refused
abbrev pub IsHeadRead : List ℕ → Result Head Refused → Type 0
IsHeadRead text (Ok head) =
    (is_too_large text ≡ false) × (h : RequestHead) × IsHeadText text h
    × (body_of_head h ≡ Ok head.body_len) × (head.closes ≡ is_last_head h)
    × (served_method h.method ≡ Some head.method)
    × IsRequestAt text head.spans head.parsed h × IsRequestWithin text head.spans head.parsed
IsHeadRead text (Err refused) = IsJudged text (judgement_of refused)

-- how many bytes of body follow
abbrev pub announced : Result Head Refused → ℕ
announced (Ok head) = head.body_len
announced (Err refused) = 0
