-- a replay: the requests of a stream are answered as a new broker answers them (this project's own choice)
use Rattle.std.specs.Prelude.{◌≡◌, ◌⊎◌, ℕ, List, Option, Ok, Err}
use Rattle.broker_core.specs.State.{opening}
use Rattle.broker_core.specs.Text.{Text}
use Rattle.command_facts.specs.Primitives.{broker_primitives}
use Rattle.broker_database.specs.Causes.{IsToBeDone}
use Rattle.broker_http.specs.Calls.{ByMachine}
use Rattle.broker_http.specs.Journal.{Journal, IsRunFrom, blank}
use Rattle.broker_http.specs.Serving.{Mode, ServesStream}
use Rattle.broker_http.specs.Serving.Mode.{IsStopped, Running}
use Rattle.broker_http.specs.declared.served.StreamFault.{StreamFault}
use Rattle.broker_http.specs.declared.served.Served.{Served}

-- a new broker whose office has this token
abbrev pub new_broker : Text → Mode
new_broker office = Running (opening (broker_primitives.digest_of office))

-- A command that stopped the broker was one to be done: no refusal, no request without a token and none that only reads
-- is answered `store`.
abbrev pub IsStoppedByChange : Mode → Type 0
IsStoppedByChange (Running s) = Unit {0}
IsStoppedByChange (IsStopped s token command) = IsToBeDone s token command

module _ (office : Text) (before after old new : Option (List ℕ)) where
  -- What was read is a stream whose messages are answered one after another, as the machine answers them from
  -- the opening state of an office with this token, and nothing else is written: the answers that are steps run
  -- it, in order, to its last state. It ends where the reader ends, or after an answer that closes.
  unfoldable pub Replays : Type 0
  Replays =
      (last : Journal) × (served : Served)
      × IsRunFrom (new_broker office) last
      × ServesStream ByMachine (blank (new_broker office)) last before after old new (Ok served)
      × IsStoppedByChange last.mode

  -- The same of the messages before this fault of serving.
  unfoldable pub ReplaysUpTo : StreamFault → Type 0
  ReplaysUpTo fault =
      (last : Journal)
      × IsRunFrom (new_broker office) last
      × ServesStream ByMachine (blank (new_broker office)) last before after old new (Err fault)
      × IsStoppedByChange last.mode

  abbrev pub ReplaysUntil : Type 0
  ReplaysUntil = (fault : StreamFault) × ReplaysUpTo fault

-- nothing was read or written, or some requests were answered before the fault
abbrev pub FailsToReplay : {I O : Type 0} → (I → Option (List ℕ)) → (O → Option (List ℕ)) → Text
    → (before after : I) (old new : O) → Type 0
FailsToReplay remaining contents office before after old new =
    ((after ≡ before) × (new ≡ old))
    ⊎ ReplaysUntil office (remaining before) (remaining after) (contents old) (contents new)
