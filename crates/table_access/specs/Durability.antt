-- What a connection holds, and what a crash leaves of it.
use Rattle.std.specs.Prelude.{◌≡◌, ◌⊎◌, false, IsTrue}
use Rattle.sqlite.specs.Tree.{Trees}
use Rattle.sqlite.specs.Schema.{Schema}
use Rattle.sqlite.specs.Effect.{Database, IsDatabase}
use Rattle.sqlite.specs.State.{State}

-- the trees, with the schema that they list, are such a database
pub record IsOnDisk (P : Database → Type 0) (trees : Trees) : Type 0 where
  pub schema : Schema
  pub sound : IsDatabase (record { schema = schema; trees = trees })
  pub has : P (record { schema = schema; trees = trees })

-- no transaction is open, and the committed database has P
pub record IsCommitted (P : Database → Type 0) (c : State) : Type 0 where
  pub autocommit : c.in_transaction ≡ false
  pub same : c.now ≡ c.committed
  pub sound : IsDatabase c.committed
  pub has : P c.committed

-- The connection holds a database with P, unless a fault of the disk has shut it, and a crash leaves one with P.
pub record HoldsDurably (P : Database → Type 0) (c : State) : Type 0 where
  pub held : IsTrue c.is_open → IsCommitted P c
  pub left : (trees : Trees) → c.may_leave trees → IsOnDisk P trees

-- A commit was refused. While the connection is open, the last commit still has P, and a crash leaves a database with
-- P. If a fault of the disk has shut the connection, a crash leaves a database with P or with Q.
pub record HoldsEither (P Q : Database → Type 0) (c : State) : Type 0 where
  pub committed : IsTrue c.is_open → P c.committed
  pub left_open : IsTrue c.is_open → (trees : Trees) → c.may_leave trees → IsOnDisk P trees
  pub left : (trees : Trees) → c.may_leave trees → IsOnDisk P trees ⊎ IsOnDisk Q trees
