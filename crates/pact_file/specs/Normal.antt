-- The normal pact of a file, or its first fault. At a pattern this is a relation: it goes on only if the rules were
-- read, and a pattern may be refused; everywhere else it is a function.
use Rattle.std.specs.Prelude.{◌≡◌, ◌≢◌, ℕ, List, length, nat_le, Result, Ok, Err, if◌then◌else◌}
use Rattle.serde_json.specs.Data.{Data}
use Rattle.pact_rules.specs.declared.rule_fault.RuleFault.TheVariants.{Pattern}
use Rattle.pact_file.specs.File.{most_bytes, file_of, sides_of, items_of}
use Rattle.pact_file.specs.Headers.{HeadersRead}
use Rattle.pact_file.specs.Interactions.{at, parts_at}
use Rattle.pact_file.specs.Pact.{Interaction, Pact, interaction_data, key_cmp, normal_text}
use Rattle.pact_rules.specs.Reading.{just, ◌>>=◌, EachRead}
use Rattle.pact_file.specs.Rules.{RulesRead}
use Rattle.pact_file.specs.Sets.{IsSetInOrder, HasClash}
use Rattle.pact_file.specs.declared.fault.PactFault.{PactFault}
use Rattle.pact_file.specs.declared.fault.PactFault.TheVariants.{TooLong, SameInteraction, Rules}
use Rattle.pact_file.specs.declared.fault.Part.TheVariants.{Headers}

-- an interaction, in the order of its tests
unfoldable pub InteractionRead : ℕ → Data → Result Interaction PactFault → Type 0
InteractionRead i d = do
  interaction ← just (parts_at i d)
  headers ← HeadersRead (at i Headers) interaction.response
  rules ← RulesRead i interaction.response
  just (Ok interaction)

-- two of one key differ in their normal form
abbrev pub HasRivals : List Interaction → Type 0
HasRivals found = HasClash key_cmp (λ x y. interaction_data x ≢ interaction_data y) found

-- equal ones are kept once, in order
abbrev pub InOrder : List Interaction → Result (List Interaction) PactFault → Type 0
InOrder found (Ok interactions) = (¬ HasRivals found) × IsSetInOrder key_cmp found interactions
InOrder found (Err fault) = HasRivals found × (fault ≡ SameInteraction)

unfoldable pub InteractionsRead : Data → Result (List Interaction) PactFault → Type 0
InteractionsRead file = do
  items ← just (items_of file)
  found ← EachRead InteractionRead 0 items
  InOrder found

abbrev pub if_short : Pact → Result Pact PactFault
if_short p = if nat_le (length (normal_text p)) most_bytes then Ok p else Err TooLong

-- of a file that was read as JSON
abbrev pub PactRead : Data → Result Pact PactFault → Type 0
PactRead file = do
  sides ← just (sides_of file)
  interactions ← InteractionsRead file
  just (if_short (record { consumer = sides.0; provider = sides.1; interactions = interactions }))

unfoldable pub Normal : List ℕ → Result Pact PactFault → Type 0
Normal bytes = do
  file ← just (file_of bytes)
  PactRead file

-- a pattern was refused
abbrev pub IsRefusal : {A : Type 0} → Result A PactFault → Type 0
IsRefusal answer = (i : ℕ) × (answer ≡ Err (Rules i Pattern))
