-- Each deployment and each release of a stream is recorded if and only if it may be.
use Rattle.std.proofs.Common.{List, [], ◌∷◌, ◌++◌, inl, inr, length, refl, sym, ap, ◌∙◌, subst, arith, length-append}
use Rattle.broker_core.specs.{Change.{Transition}, Laws.{TeamsDiffer}, Machine.{Request, Step}, State.{State as Broker}, declared.answer.Answer.{Answer}}
use Rattle.broker_core.{specs.declared.command.Command.TheVariants.{Deploy, Release}, proofs.Callers.{TeamsDiffer-after_step}}
use Rattle.broker_core.proofs.Headline.{DeploysExactly-holds, ReleasesExactly-holds}
use Rattle.command_facts.specs.Primitives.{broker_primitives}
use Rattle.broker_http.specs.{Journal.{state_of}, Laws.{RunsSteps, IsServedExactly, EachServed, StreamsDeployExactly, StreamsReleaseExactly}}

module _ (r : Request) (IsExactly : Broker → Transition → Type 0)
    (each : (s : Broker) (out : Transition) → TeamsDiffer s → Step broker_primitives s r.token r.command out → IsExactly s out) where
  IsServedExactly-of_run : (first last : Broker) (before after : List (Request × Answer)) (answer : Answer) → TeamsDiffer first
      → RunsSteps first (before ++ (r, answer) ∷ after) last → IsServedExactly IsExactly first before answer after last
  IsServedExactly-of_run first last [] after answer one run = record {
    found = first;
    reached = refl;
    left = run.0;
    exactly = each first (record { answer = answer; state = run.0 }) one run.1;
    goes_on = run.2;
  }
  IsServedExactly-of_run first last ((q, a) ∷ before) after answer one run =
      let rest = IsServedExactly-of_run run.0 last before after answer (TeamsDiffer-after_step broker_primitives first q.token q.command (record { answer = a; state = run.0 }) run.1 one) run.2 in
      record {
        found = rest.found;
        reached = (run.0, run.1, rest.reached);
        left = rest.left;
        exactly = rest.exactly;
        goes_on = rest.goes_on;
      }

  EachServed-holds : EachServed r IsExactly
  EachServed-holds mode journal before after answer run steps = elim run.teams_differ [
    | inl none ↦ absurd (omega (arith, ap length (sym none ∙ steps), length-append before ((r, answer) ∷ after)))
    | inr apart ↦
        IsServedExactly-of_run (state_of mode) (state_of journal.mode) before after answer apart
        (subst (λ (xs : List (Request × Answer)). RunsSteps (state_of mode) xs (state_of journal.mode)) steps run.runs)
  ]

pub StreamsDeployExactly-holds : StreamsDeployExactly
StreamsDeployExactly-holds token e v instance =
    EachServed-holds (record { token = token; command = Deploy e v instance }) _ (λ s out. DeploysExactly-holds broker_primitives s token e v instance out)

pub StreamsReleaseExactly-holds : StreamsReleaseExactly
StreamsReleaseExactly-holds token e v =
    EachServed-holds (record { token = token; command = Release e v }) _ (λ s out. ReleasesExactly-holds broker_primitives s token e v out)
