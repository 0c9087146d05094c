-- What the caller that checks replies promises (this project's own).
use Rattle.std.specs.Prelude.{◌≡◌, ◌⊎◌, ℕ, List, Ok, Err}
use Rattle.pact_file.specs.Normal.{Normal}
use Rattle.pact_file.specs.Pact.{Pact}
use Rattle.pact_file.specs.declared.fault.PactFault.TheVariants as file
use Rattle.reply_check.specs.Recorded.{Reply}
use Rattle.reply_check.specs.Replies.{RepliesRead}
use Rattle.reply_check.specs.Verdicts.{AreKnown, AreFailing, IsFirstUnknown, UsesPattern}
use Rattle.reply_check.specs.declared.fault.CheckFault.TheVariants.{UnknownInteraction, Pattern, Memory}
use Rattle.reply_check.specs.declared.fault.RepliesFault.TheVariants as replies
use Rattle.worked_examples.specs.declared.replies.Unjudged.{Unjudged}
use Rattle.worked_examples.specs.declared.replies.Unjudged.TheVariants.{BadPact, BadReplies, Unchecked}

-- of the file of a pact, and that of the replies
module _ (file_of_pact file_of_replies : List ℕ) where
  -- of what both are read as
  abbrev pub OfBoth : (Pact → List Reply → Type 0) → Type 0
  OfBoth P = (p : Pact) × (rs : List Reply) × Normal file_of_pact (Ok p) × RepliesRead file_of_replies (Ok rs) × P p rs

  -- each reply belongs to an interaction, and these are the places of those that fail
  abbrev pub AreFailingOf : List ℕ → Type 0
  AreFailingOf places = OfBoth (λ p rs. AreKnown p.interactions rs × AreFailing p.interactions rs places)

  -- the fault of the one file or the other; a reply that belongs to no interaction; a pattern that is refused; or there
  -- was no memory
  abbrev pub IsWhy : Unjudged → Type 0
  IsWhy (BadPact fault) = (fault ≡ file.Memory) ⊎ Normal file_of_pact (Err fault)
  IsWhy (BadReplies fault) = (fault ≡ replies.Memory) ⊎ RepliesRead file_of_replies (Err fault)
  IsWhy (Unchecked (UnknownInteraction i)) = OfBoth (λ p rs. IsFirstUnknown p.interactions rs i)
  IsWhy (Unchecked Pattern) = OfBoth (λ p rs. AreKnown p.interactions rs × UsesPattern p.interactions rs)
  IsWhy (Unchecked Memory) = Unit {0}
