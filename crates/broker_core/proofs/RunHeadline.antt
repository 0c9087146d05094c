-- each deployment and each release of a run is recorded if and only if it may be
use Rattle.std.proofs.Common.{◌++◌, List, [], ◌∷◌, refl, ap}
use Rattle.broker_core.specs.{declared.command.Command.TheVariants.{Deploy, Release}, declared.answer.Answer.{Answer}, State.{State}, Change.{Transition}}
use Rattle.broker_core.specs.{Machine.{Primitives, Request, Step, Run}, Laws.{TeamsDiffer}}
use Rattle.broker_core.specs.RunHeadline.{IsTaken, RunsDeployExactly, RunsReleaseExactly, TeamsStayApart, TeamsBeginApart}
use Rattle.broker_core.proofs.Callers.{TeamsDiffer-after_step, TeamsDiffer-opening, TeamsDiffer-after_run}
use Rattle.broker_core.proofs.Headline.{DeploysExactly-holds, ReleasesExactly-holds}

module _ (parts : Primitives) (r : Request) (IsExactly : State → Transition → Type 0)
    (each : (s : State) (out : Transition) → TeamsDiffer s → Step parts s r.token r.command out → IsExactly s out) where
  IsTaken-of_run : (first last : State) (before after : List Request) (answers : List Answer) → TeamsDiffer first
      → Run parts first (before ++ r ∷ after) answers last → IsTaken parts IsExactly first before after answers last
  IsTaken-of_run first last [] after [] one run = absurd run
  IsTaken-of_run first last [] after (a ∷ answers) one run = record {
    earlier = [];
    found = first;
    reached = refl;
    answer = a;
    left = run.0;
    exactly = each first (record { answer = a; state = run.0 }) one run.1;
    later = answers;
    goes_on = run.2;
    in_order = refl;
  }
  IsTaken-of_run first last (b ∷ before) after [] one run = absurd run
  IsTaken-of_run first last (b ∷ before) after (a ∷ answers) one run =
      let rest = IsTaken-of_run run.0 last before after answers (TeamsDiffer-after_step parts first b.token b.command _ run.1 one) run.2 in
      record {
        earlier = a ∷ rest.earlier;
        found = rest.found;
        reached = (run.0, run.1, rest.reached);
        answer = rest.answer;
        left = rest.left;
        exactly = rest.exactly;
        later = rest.later;
        goes_on = rest.goes_on;
        in_order = ap (λ (xs : List Answer). a ∷ xs) rest.in_order;
      }

pub RunsDeployExactly-holds : (parts : Primitives) → RunsDeployExactly parts
RunsDeployExactly-holds parts first last before after answers token e v instance =
    IsTaken-of_run parts (record { token = token; command = Deploy e v instance }) _ (λ s out. DeploysExactly-holds parts s token e v instance out) first last before after answers

pub RunsReleaseExactly-holds : (parts : Primitives) → RunsReleaseExactly parts
RunsReleaseExactly-holds parts first last before after answers token e v =
    IsTaken-of_run parts (record { token = token; command = Release e v }) _ (λ s out. ReleasesExactly-holds parts s token e v out) first last before after answers

pub TeamsStayApart-holds : (parts : Primitives) → TeamsStayApart parts
TeamsStayApart-holds parts first last requests answers one run = TeamsDiffer-after_run parts first last requests answers run one

pub TeamsBeginApart-holds : TeamsBeginApart
TeamsBeginApart-holds = TeamsDiffer-opening
