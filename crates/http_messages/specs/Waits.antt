-- how long a peer is waited for, in nanoseconds (this project's own)
use Rattle.std.specs.Prelude.{◌≡◌, ◌⊎◌, ◌+◌, ◌-◌, ◌*◌, ◌≤◌, ℕ, Bool, false, max, min, Result, Ok, Err}
use Rattle.std.specs.Duration.{as_nanos}
use Rattle.std.specs.IoError.{error_kind}
use Rattle.std.specs.declared.io.Error.{Error}
use Rattle.std.specs.declared.io.ErrorKind.TheVariants.{WouldBlock}
use Rattle.http_messages.specs.declared.patience.Limits.{Limits}
use Rattle.http_messages.specs.declared.patience.Wait.{Wait}
use Rattle.http_messages.specs.declared.patience.Wait.TheVariants as waits
use Rattle.http_messages.specs.declared.patience.Awaited.{Awaited}
use Rattle.http_messages.specs.declared.patience.Awaited.TheVariants as awaits
use Rattle.std.specs.declared.time.Duration.{Duration}

-- How long `broker serve` waits for a peer, in milliseconds: ten seconds for a message and two for an answer, two for the
-- rest of a message while another peer waits; then a second for a peer's first bytes, five milliseconds for those of a
-- later message, and a second for all its messages, which those that wait share.
abbrev pub serve_limits : Limits
serve_limits = record {
  message = 10000;
  late = 2000;
  answer = 2000;
  first = 1000;
  next = 5;
  turn = 1000;
  look = 20;
}

-- what is left of a limit once another peer has waited for so long: a look at least
abbrev pub left_of : (limit waited : ℕ) → ℕ
left_of limit waited = max (limit - waited) serve_limits.look

-- How long it waits for a peer that is let in once another, whose message is whole, has waited for so long: of what this
-- one may take of others, so much is gone.
abbrev pub limits_after : ℕ → Limits
limits_after waited = record serve_limits {
  late = left_of serve_limits.late waited;
  answer = left_of serve_limits.answer waited;
  turn = left_of serve_limits.turn waited;
}

-- none of these limits is longer than that of `broker serve`
pub record AreWithin (limits : Limits) : Type 0 where
  pub message : limits.message ≤ serve_limits.message
  pub late : limits.late ≤ serve_limits.late
  pub answer : limits.answer ≤ serve_limits.answer
  pub first : limits.first ≤ serve_limits.first
  pub next : limits.next ≤ serve_limits.next
  pub turn : limits.turn ≤ serve_limits.turn
  pub look : limits.look ≤ serve_limits.look

-- milliseconds
abbrev pub millis : ℕ → ℕ
millis n = n * 1000000

-- the wait came to its end without anything
abbrev pub IsVain : {A : Type 0} → Result A Error → Type 0
IsVain (Ok a) = ⊥
IsVain (Err error) = error_kind error ≡ WouldBlock

-- The sum of the waits that were in vain was old and is new, after one that was to last so long: it grows only if this
-- one was in vain, and then by no more.
abbrev pub Waits : {A : Type 0} → ℕ → ℕ → Result A Error → ℕ → Type 0
Waits old new result within = (new ≤ old) ⊎ (IsVain result × (new ≤ old + within))

-- ---- for private clauses: what a call waits for, after what was waited for before

-- nothing is spent of the limits of the message of which more is waited for
abbrev pub IsMoreOfNew : Awaited → Type 0
IsMoreOfNew (awaits.First grace) = ⊥
IsMoreOfNew (awaits.More spent) = (as_nanos spent.all ≡ 0) × (as_nanos spent.wanted ≡ 0)

-- What a read waits for: at first the first bytes of all, and later those of the next message; within a message its
-- rest, of whose limits is spent what was; and after an answer, of which more was there, the rest of a message of which
-- nothing is spent.
abbrev pub IsAwaited : Limits → Wait → Awaited → Type 0
IsAwaited limits waits.First awaited = awaited ≡ awaits.First limits.first
IsAwaited limits (waits.Next spent) awaited = awaited ≡ awaits.First limits.next
IsAwaited limits (waits.Message spent) awaited = awaited ≡ awaits.More spent
IsAwaited limits (waits.Answer spent) awaited = IsMoreOfNew awaited

-- what is waited for once a message is answered: the first bytes of the next one, unless that is begun
abbrev pub wait_between : Bool → Wait → Wait
wait_between false (waits.Answer spent) = waits.Next spent
wait_between _ wait = wait

-- So much is spent of the limit of the answer that is waited for: of a new one, what its message took while another peer
-- waited, but for a look.
abbrev pub IsSpentOnAnswer : Limits → Wait → Duration → Type 0
IsSpentOnAnswer limits waits.First spent = as_nanos spent ≡ 0
IsSpentOnAnswer limits (waits.Message before) spent =
    as_nanos spent ≡ min (as_nanos before.wanted) (millis limits.answer - millis limits.look)
IsSpentOnAnswer limits (waits.Next before) spent = spent ≡ before
IsSpentOnAnswer limits (waits.Answer before) spent = spent ≡ before
