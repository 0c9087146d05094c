-- A connection that was opened on a clean disk is tested to its end, so that the disk is clean, or two texts share a digest.
use Rattle.std.proofs.Common.{◌≡◌, ◌⊎◌, ℕ, List, [], ◌∷◌, IsTrue, inl, inr, subst}
use Rattle.sqlite_disk.specs.{Events.{Event, replay}, declared.Disk.{Ghosts}}
use Rattle.sqlite_pool.proofs.StateLemmas.{clean_is}
use Rattle.sqlite_trees.proofs.Doubt.{no_doubt}
use Rattle.sqlite.specs.{Closing.{files_left}, Files.{file_state}, Held.{Held}, Recovery.{Image}, State.{HasCleanDisk}, WalReads.{AreClean}}
use Rattle.sqlite.{specs.{declared.FileStore.{FileStore}, declared.file.Leftover.{Leftover}}, proofs.Shield.{shield_means}}
use Rattle.broker_program.specs.{Files.{EndsClean, IsTested}, Serving.{StartsAfter, Work}, Tested.{ServesHonestly, ShareDigest}}
use Rattle.broker_program.proofs.CallLemmas.{IsBefore-works}
use Rattle.sqlite.specs.declared.file.Leftover.TheVariants as left

module _ {D : Type 0} (g : Ghosts D) where
  IsShielded-starts_after : (held : Image) (works : List Work) (conn : Held (FileStore D g)) → StartsAfter held works conn → HasCleanDisk (file_state conn) → (file_state conn).IsShielded
  IsShielded-starts_after held [] conn it clean = (it clean).shielded
  IsShielded-starts_after held (work ∷ works) conn it clean = (it.4 clean).shielded

  module _ (start : D → List ℕ) (history : D → List Event) (fair : (d : D) → g.is_fair d ≡ (replay (start d) (history d)).is_fair) (honest : (d : D) → g.is_clean d ≡ (replay (start d) (history d)).is_honest) where
    tested_left : (rest : Leftover D g) → IsTested rest → EndsClean rest ⊎ ShareDigest g start history (files_left rest)
    tested_left (left.Store store) it = elim (shield_means start history fair honest store it) [
      | inl clean ↦ inl (no_doubt _ clean)
      | inr shared ↦ inr shared
    ]
    tested_left (left.Files files) it = elim (shield_means start history fair honest it.0 it.2) [
      | inl clean ↦ inl (subst (λ (p : D × D). AreClean g p.0 p.1) it.1 (subst IsTrue (clean_is it.0.pool) clean))
      | inr shared ↦ inr (subst (ShareDigest g start history) it.1 shared)
    ]
    tested_left (left.Unopened it) never = absurd never

    pub serves_honestly : ServesHonestly g start history
    serves_honestly held visits rest it clean =
        let tested = (IsBefore-works it.last it.connection it.end it.works).shield (IsShielded-starts_after held it.before it.connection it.starts clean) in
        tested_left rest (it.ends.shield tested)
