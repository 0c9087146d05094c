-- The calls of a session: what a broker is asked from its opening to the end of its connection (this project's own). A
-- program may be stopped at any call on the disk, from which on no call on the disk does anything. So a call in which
-- the program is stopped leaves what it leaves at its end over a disk that fails, and its answer is seen by nobody.
use Rattle.std.specs.Prelude.{◌≡◌, ◌⊎◌, if◌then◌else◌, List, [], ◌∷◌, false, Result, Ok, Err}
use Rattle.sqlite.specs.Tree.{Trees}
use Rattle.sqlite.specs.Held.{Held}
use Rattle.sqlite.specs.State.{State, IsLive, Opens}
use Rattle.broker_core.specs.Machine.{Request, is_step}
use Rattle.broker_core.specs.Laws.{Exit}
use Rattle.broker_core.specs.Laws.Exit.{Stepped, NoStep, WasCut}
use Rattle.broker_core.specs.declared.answer.Answer.{Answer}
use Rattle.broker_core.specs.declared.answer.Answer.TheVariants.{Store}
use Rattle.broker_database.specs.BrokerView.{BrokerView}
use Rattle.broker_database.specs.Calls.{Applied}
use Rattle.broker_database.specs.declared.opening.Refused.{Refused}

-- how a call ended that was answered so: by a step, by no step, or, after a failure of the database, by one of the two
abbrev pub exit_of : Answer → Exit
exit_of Store = WasCut
exit_of given = if is_step given then Stepped given else NoStep

-- the connection was opened on files in which these trees were found
pub record IsOpenedOn (trees : Trees) (c : State) : Type 0 where
  pub opens : Opens c
  pub live : IsLive c
  pub found : c.committed.trees ≡ trees

-- shown is what a connection shows of its store
module _ {X : Type 0} (shown : Held X → State) where
  -- The commands of a session, one after another, from a broker to what is left of it. A program that is stopped in a
  -- call makes no other one, and a stopped broker calls no disk.
  abbrev pub RunsCalls : BrokerView X → List (Request × Exit) → BrokerView X → Type 0
  RunsCalls b [] end = end ≡ b
  RunsCalls b ((r, exit) ∷ calls) end =
      (given : Answer) × (next : BrokerView X) × Applied shown b r.token r.command given next
      × (((exit ≡ exit_of given) × RunsCalls next calls end)
      ⊎ ((exit ≡ WasCut) × (b.is_stopped ≡ false) × (calls ≡ []) × (end ≡ next)))

  -- the commands of a session, and the connection that is left of its broker; if there is no broker, there are none
  abbrev pub GivenRuns : Result (BrokerView X) (Refused X) → List (Request × Exit) → Held X → Type 0
  GivenRuns (Ok b) calls last = (end : BrokerView X) × RunsCalls b calls end × (end.connection ≡ last)
  GivenRuns (Err refused) calls last = (calls ≡ []) × (refused.connection ≡ last)
