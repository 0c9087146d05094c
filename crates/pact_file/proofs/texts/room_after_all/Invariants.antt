use Rattle.std.proofs.Common.{◌≡◌, ◌+◌, drop, length}
use Rattle.pact_file.{specs.{Pact.{interaction_data}, Texts.{interactions_text}}, proofs.NormalTexts.{left}}
use Rattle.pact_file.proofs.texts.room_after_all.Given as goal

-- what is taken of the room is what the texts before the place add
abbrev pub invariant-loop-index : goal.invariant-loop-index
invariant-loop-index l = l.rest + length (interactions_text l.interactions) ≡ l.room + length (left interaction_data l.index (drop l.index l.interactions))
