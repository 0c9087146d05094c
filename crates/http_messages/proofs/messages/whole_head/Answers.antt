use Rattle.std.proofs.{Common.{◌≡◌, ℕ, List, min, length, take, ap, ◌∙◌}, lemmas.List.{take_min}}
use Rattle.http_messages.{specs.Limits.{head_limit}, proofs.MessagesLemmas.{IsHeadOf-some, IsHeadOf-none, IsHeadOf-short}}
use Rattle.http_messages.proofs.messages.whole_head.Goals as goal

-- the bytes that are looked at
limited : (k : ℕ) (bytes : List ℕ) → k ≡ min head_limit (length bytes) → take k bytes ≡ take head_limit bytes
limited k bytes e = ap (λ n. take n bytes) e ∙ take_min head_limit bytes

pub returns-in-Some-clause-found : goal.returns-in-Some-clause-found
returns-in-Some-clause-found c =
    let same = limited c.min.result c.args.bytes.now c.min.ensures in
    IsHeadOf-some c.args.bytes.now c.in-Some.head (rw same at c.in-Some.ensures.within) (rw same at c.in-Some.ensures.found)

pub returns-in-None-clause-none : goal.returns-in-None-clause-none
returns-in-None-clause-none c =
    IsHeadOf-short c.args.bytes.now (rw (limited c.min.result c.args.bytes.now c.min.ensures) at c.in-None.ensures.none) c.if-bytes-lt-HEAD_LIMIT.true

pub returns-in-None-2-clause-found : goal.returns-in-None-2-clause-found
returns-in-None-2-clause-found c =
    IsHeadOf-none c.args.bytes.now (rw (limited c.min.result c.args.bytes.now c.min.ensures) at c.in-None.ensures.none) c.if-bytes-lt-HEAD_LIMIT.false
