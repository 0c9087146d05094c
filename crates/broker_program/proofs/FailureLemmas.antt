-- over tables in memory, only a command that is to be done stops a broker
use Rattle.std.proofs.Common.{◌≡◌, ◌≤◌, ℕ, ◌+◌, ◌-◌, ◌^◌, min, true, false, None, inl, inr, arith}
use Rattle.sqlite.specs.{Held.{Held, state}, Steps.{over_memory}}
use Rattle.sqlite_trees.specs.declared.memory.MemStore.{MemStore}
use Rattle.broker_core.specs.Text.{Text}
use Rattle.broker_http.specs.{Serving.{Mode, RunsReadable, StopsOnlyBy}, Serving.Mode.{IsStopped, Running}}
use Rattle.broker_program.specs.Replays.{IsStoppedByChange, new_broker}

pub IsStoppedByChange-of_stops : (office : Text) (old new : Held MemStore) (steps : ℕ) (mode : Mode) → old.step_limit ≡ None → RunsReadable (new_broker office)
    → StopsOnlyBy (state over_memory) (new_broker office) old new steps mode → IsStoppedByChange mode
IsStoppedByChange-of_stops office old new steps (Running s) unlimited readable failure = tt
IsStoppedByChange-of_stops office old new steps (IsStopped s token command) unlimited readable failure =
    elim (failure unlimited readable) [
      | inl (inl more) ↦ let none : min (0 + 1) (2 ^ 64 - 1) ≤ 0 = more in absurd (omega (arith, none))
      | inl (inr shut) ↦ let bad : true ≡ false = shut in cc
      | inr change ↦ change.0
    ]
