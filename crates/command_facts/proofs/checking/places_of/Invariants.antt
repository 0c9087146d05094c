use Rattle.std.proofs.Common.{◌≡◌, take}
use Rattle.command_facts.proofs.checking.places_of.Given as goal

abbrev pub invariant-loop-place : goal.invariant-loop-place
invariant-loop-place l = l.places.items ≡ take l.place-index l.failing
