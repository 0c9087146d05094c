-- Which interactions of a pact fail by the replies that were recorded (this project's own choice). Replies are in
-- the order of their file, interactions in that of the normal pact; indices are counted from 0.
use Rattle.std.specs.Prelude.{◌≡◌, ◌↔◌, ◌<◌, ℕ, List, [], ◌∷◌, Some, slice_get, ⊤}
use Rattle.std.specs.List.{AllByRecursion}
use Rattle.pact_file.specs.Pact.{Interaction}
use Rattle.pact_rules.specs.Lists.{OneOf, IsIn}
use Rattle.reply_check.specs.Meeting.{Meets, HasPattern}
use Rattle.reply_check.specs.Recorded.{Reply}

-- a reply belongs to the interaction of its description and states
abbrev pub BelongsTo : Interaction → Reply → Type 0
BelongsTo x r = (r.description ≡ x.description) × (r.states ≡ x.states)

abbrev pub IsKnown : List Interaction → Reply → Type 0
IsKnown interactions r = OneOf (λ x. BelongsTo x r) interactions

-- each reply belongs to an interaction
abbrev pub AreKnown : List Interaction → List Reply → Type 0
AreKnown interactions replies = AllByRecursion (λ r. IsKnown interactions r) replies

-- the reply at this index belongs to no interaction, and each before it does to one
pub record IsFirstUnknown (interactions : List Interaction) (replies : List Reply) (i : ℕ) : Type 0 where
  pub reply : Reply
  pub is_present : slice_get replies i ≡ Some reply
  pub unknown : ¬ IsKnown interactions reply
  pub first : (j : ℕ) (r : Reply) → j < i → slice_get replies j ≡ Some r → IsKnown interactions r

-- an interaction passes if it has a reply that meets it (it has one reply at most)
abbrev pub Passes : List Reply → Interaction → Type 0
Passes replies x = OneOf (λ r. BelongsTo x r × Meets x r) replies

-- the interaction at this index has no reply, or its reply doesn't meet it
abbrev pub InteractionFails : List Interaction → List Reply → ℕ → Type 0
InteractionFails interactions replies i = (x : Interaction) × (slice_get interactions i ≡ Some x) × ¬ Passes replies x

abbrev pub IsAscending : List ℕ → Type 0
IsAscending [] = ⊤
IsAscending (i ∷ is) = AllByRecursion (λ j. i < j) is × IsAscending is

-- exactly the indices of the failing interactions, ascending
pub record AreFailing (interactions : List Interaction) (replies : List Reply) (indices : List ℕ) : Type 0 where
  pub ascending : IsAscending indices
  pub failing : (i : ℕ) → IsIn i indices ↔ InteractionFails interactions replies i

-- an interaction that has a reply has a pattern
abbrev pub UsesPattern : List Interaction → List Reply → Type 0
UsesPattern interactions replies = OneOf (λ x. OneOf (λ r. BelongsTo x r) replies × HasPattern x) interactions
