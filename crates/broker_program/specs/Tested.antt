-- what the disk may give a `serve` that had an honest disk as its file was opened (this project's own choice)
use Rattle.std.specs.Prelude.{◌⊎◌, List, ℕ}
use Rattle.sqlite_disk.specs.Events.{Event, HasCollision}
use Rattle.sqlite_disk.specs.declared.Disk.{Ghosts}
use Rattle.sqlite.specs.Closing.{files_left}
use Rattle.sqlite.specs.Files.{file_state}
use Rattle.sqlite.specs.Recovery.{Image}
use Rattle.sqlite.specs.State.{HasCleanDisk}
use Rattle.sqlite.specs.declared.file.Leftover.{Leftover}
use Rattle.program_io.specs.Entrance.{Visit}
use Rattle.broker_program.specs.Files.{EndsClean}
use Rattle.broker_program.specs.Serving.{ServesOver}

-- what a file held before the first call, and its calls with their answers, the newest first
module _ {D : Type 0} (g : Ghosts D) (start : D → List ℕ) (history : D → List Event) where
  -- A read of one of the two files gave other bytes than were written there, and they have the same digest, under the
  -- key that the log was opened with.
  abbrev pub ShareDigest : D × D → Type 0
  ShareDigest (log, db) =
      HasCollision (g.key_of log) (start log) (history log) ⊎ HasCollision (g.key_of log) (start db) (history db)

  -- If the disk was clean as the file was opened, the last time, it is to the end; or two texts share a digest.
  abbrev pub ServesHonestly : Type 0
  ServesHonestly =
      (held : Image) (visits : List Visit) (rest : Leftover D g) (it : ServesOver g held visits rest)
      → HasCleanDisk (file_state it.connection) → EndsClean rest ⊎ ShareDigest (files_left rest)
