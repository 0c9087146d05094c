-- what the commands on a version and an environment show and change, for the clauses of private functions: no public
-- clause cites it
use Rattle.std.specs.Prelude.{◌≡◌, ℕ, List, Some, Bool, IsTrue, Result}
use Rattle.sqlite.specs.Held.{Held}
use Rattle.sqlite_trees.specs.declared.store.Store.{Ghosts}
use Rattle.table_access.specs.declared.StoreFault.{StoreFault}
use Rattle.broker_core.specs.Change.{Transition, unchanged_with, deploy, release}
use Rattle.broker_core.specs.Gate.{Judges}
use Rattle.broker_core.specs.Listing.{Lists}
use Rattle.broker_core.specs.Machine.{StepOfCaller, TakesEffect, deployed_cmp, version_cmp}
use Rattle.broker_core.specs.State.{State as Broker}
use Rattle.broker_core.specs.Text.{Text}
use Rattle.broker_core.specs.declared.answer.Answer.{Answer}
use Rattle.broker_core.specs.declared.answer.Answer.TheVariants.{Shown}
use Rattle.broker_core.specs.declared.answer.DeployedItem.{DeployedItem}
use Rattle.broker_core.specs.declared.answer.Shown.TheVariants as shown
use Rattle.broker_core.specs.declared.command.Command.{Command}
use Rattle.broker_core.specs.declared.command.Command.TheVariants.{GetEnvironment, CanIDeploy, GetMatrix}
use Rattle.broker_core.specs.declared.command.Marks.{Marks}
use Rattle.broker_core.specs.declared.command.Version.{Version}
use Rattle.broker_core.specs.declared.need.PairFault.{PairFault}
use Rattle.broker_core.specs.declared.policy.Caller.{Caller}
use Rattle.command_facts.specs.Performs.{CarriesWhere, IsMisnamed}
use Rattle.command_facts.specs.Primitives.{broker_primitives}
use Rattle.environment_commands.specs.Places.{IsAdmitted, HasNumber}
use Rattle.environment_commands.specs.declared.places.Admitted.{Admitted}

-- what the command does once nothing refuses it
abbrev pub Enacts : Command → Broker → Transition → Type 0
Enacts command s out = TakesEffect broker_primitives s command out

-- the version is deployed there
abbrev pub Deploys : Text → Version → Text → Broker → Transition → Type 0
Deploys e v instance s out = out ≡ deploy s e v instance

-- the version is released there
abbrev pub Releases : Text → Version → Broker → Transition → Type 0
Releases e v s out = out ≡ release s e v

-- what it does from the states that allow it, over a connection of this store
module _ {X : Type 0} (store : Ghosts X) (old new : Held X) where
  abbrev pub CarriesOut : Result Answer StoreFault → (Broker → Type 0) → Command → Type 0
  CarriesOut r Allows command = CarriesWhere store old new r Allows (IsMisnamed command) (Enacts command)

-- what the gate says of a version and an environment that are there
abbrev pub GateSays : Text → Version → Admitted → Bool → List PairFault → Broker → Type 0
GateSays e v place permitted faults s = IsAdmitted e v place s → Judges s v e permitted faults

-- all that is deployed in an environment, and all that is released there, each in its order
abbrev pub ListsAll : Text → List DeployedItem → List Version → Broker → Type 0
ListsAll e deployed released s =
    Lists deployed_cmp (λ x. s.deployed (e, x.pacticipant, x.instance) ≡ Some x.version) deployed
    × Lists version_cmp (λ v. IsTrue (s.released (e, v))) released

-- what each caller is shown of an environment with these marks
abbrev pub IsEnvironmentShown : Text → Marks → Answer → Broker → Type 0
IsEnvironmentShown e marks answer s = (caller : Caller) → s.environments e ≡ Some marks
    → StepOfCaller broker_primitives s caller (GetEnvironment e) (unchanged_with s answer)

-- what is shown of the gate for a version and an environment that are there
abbrev pub IsGateShown : Text → Version → Admitted → Answer → Broker → Type 0
IsGateShown e v place answer s = IsAdmitted e v place s → Enacts (CanIDeploy v e) s (unchanged_with s answer)

-- what is shown of the matrix of the version of this number
abbrev pub IsMatrixShown : ℕ → Answer → Broker → Type 0
IsMatrixShown number answer s = (v : Version) → HasNumber v number s → Enacts (GetMatrix v) s (unchanged_with s answer)

-- the answer that shows an environment with its lists
abbrev pub shows : Text → Marks → List DeployedItem → List Version → Answer
shows e marks deployed released = Shown (shown.Environment e marks deployed released)

-- the answer that shows what the gate says
abbrev pub shows_gate : Text → Marks → Bool → List PairFault → Answer
shows_gate e marks permitted faults = Shown (shown.Gate e marks permitted faults)
