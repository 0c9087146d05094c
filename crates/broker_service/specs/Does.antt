-- what a known caller's command does inside its transaction, and why it fails if each stored pact can be read again
use Rattle.std.specs.Prelude.{Result}
use Rattle.sqlite.specs.Held.{Held, state}
use Rattle.sqlite.specs.State.{State}
use Rattle.sqlite_trees.specs.declared.store.Store.{Ghosts}
use Rattle.table_access.specs.declared.StoreFault.{StoreFault}
use Rattle.broker_core.specs.Contents.{HasSoundContents}
use Rattle.broker_core.specs.State.{State as Broker}
use Rattle.broker_core.specs.Change.{Transition}
use Rattle.broker_core.specs.declared.answer.Answer.{Answer}
use Rattle.broker_core.specs.declared.command.Command.{Command}
use Rattle.broker_core.specs.declared.policy.Caller.{Caller}
use Rattle.broker_tables.specs.Failures.{FailsFromBetween}
use Rattle.command_facts.specs.Performs.{PerformsBetween, IsToChange, IsMisnamed, CallersStep}
use Rattle.command_facts.specs.Primitives.{broker_primitives}

pub record DoesBetween (old new : State) (TooBig : Type 0) (P : Broker → Transition → Type 0)
    (r : Result Answer StoreFault) : Type 0 where
  pub answers : PerformsBetween old new P r
  pub failure : FailsFromBetween old new r TooBig (HasSoundContents broker_primitives) (IsToChange P)

-- the same of a connection over this store
module _ {X : Type 0} (store : Ghosts X) (old new : Held X) where
  abbrev pub Does : Result Answer StoreFault → Caller → Command → Type 0
  Does r caller command =
      DoesBetween (state store old) (state store new) (IsMisnamed command) (CallersStep caller command) r
