-- what peers send before they are served (this project's own choice)
use Rattle.std.specs.Prelude.{◌≡◌, ◌⊎◌, ℕ, Bool, true, false, Result, Ok, Err}
use Rattle.std.specs.IoError.{error_kind}
use Rattle.std.specs.declared.io.Error.{Error}
use Rattle.std.specs.declared.io.ErrorKind.TheVariants.{WouldBlock, Interrupted}
use Rattle.http_messages.specs.declared.arrival.Arrived.{Arrived}
use Rattle.http_messages.specs.declared.arrival.Arrived.TheVariants.{Part}

-- a peer whose message is whole may be served; so may one of which nothing more is waited for
abbrev pub is_ready : Arrived → Bool
is_ready Part = false
is_ready _ = true

-- a read found nothing there, and more may come
abbrev pub IsEarly : Result ℕ Error → Type 0
IsEarly (Ok count) = ⊥
IsEarly (Err error) = (error_kind error ≡ WouldBlock) ⊎ (error_kind error ≡ Interrupted)
