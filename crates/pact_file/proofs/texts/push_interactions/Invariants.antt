use Rattle.std.proofs.Common.{◌≡◌, ◌++◌, drop, string_bytes}
use Rattle.pact_file.{specs.{Pact.{interaction_data}, Texts.{interactions_text}}, proofs.NormalTexts.{left}}
use Rattle.pact_file.proofs.texts.push_interactions.Given as goal

-- what is written, with what is left, is the whole
abbrev pub invariant-loop-index : goal.invariant-loop-index
invariant-loop-index l = string_bytes l.text ++ left interaction_data l.index (drop l.index l.interactions) ≡ string_bytes l.initial.text ++ interactions_text l.interactions
