-- What is answered by steps is a run of the machine.
use Rattle.std.proofs.Common.{◌≡◌, ◌⊎◌, inl, inr, ℕ, if◌then◌else◌, List, [], ◌∷◌, ◌++◌, map, Option, refl, sym, ap, ◌∙◌, subst}
use Rattle.broker_core.specs.{Laws.{TeamsDiffer}, Machine.{Request as Asked, Run, Step}, State.{State as Broker}, Text.{Text}, declared.answer.Answer.{Answer}}
use Rattle.broker_core.specs.declared.command.Command.{Command}
use Rattle.command_facts.specs.Primitives.{broker_primitives}
use Rattle.http_responses.specs.Responses.{Response}
use Rattle.http_requests.specs.{declared.requests.Request.{Request}, declared.requests.Request.TheVariants.{Refused, NoRoute, NoMethod, Asks}}
use Rattle.broker_http.specs.{Stream.{Responses}, Serving.{Mode, ModeStep}, Serving.Mode.{Running, IsStopped}}
use Rattle.broker_http.specs.Journal.{Journal, JournalStep, written, state_of, blank, IsRunFrom}
use Rattle.broker_http.specs.Exchange as exchange

-- ---- what is written down is a run

RunTo : Broker → List (Asked × Answer) → Broker → Type 0
RunTo s steps t = Run broker_primitives s (map (λ x. x.0) steps) (map (λ x. x.1) steps) t

-- one step more
RunTo-append : (s t u : Broker) (steps : List (Asked × Answer)) (token : Option Text) (command : Command) (answer : Answer)
    → RunTo s steps t → Step broker_primitives t token command (record { answer = answer; state = u })
    → RunTo s (steps ++ (record { token = token; command = command }, answer) ∷ []) u
unfolding RunTo
RunTo-append s t u [] token command answer run step = (u, subst (λ (v : Broker). Step broker_primitives v token command (record { answer = answer; state = u })) run step, refl)
RunTo-append s t u (x ∷ steps) token command answer run step = (run.0, run.1, RunTo-append run.0 t u steps token command answer run.2 step)

-- a run, and if it has a step, no two teams of its first state have tokens with one digest
record RunsApart (s : Broker) (steps : List (Asked × Answer)) (t : Broker) : Type 0 where
  run : RunTo s steps t
  apart : (steps ≡ []) ⊎ TeamsDiffer s

-- the first step comes in the first state
RunsApart-first_differ : (s t : Broker) (steps : List (Asked × Answer)) → RunsApart s steps t → TeamsDiffer t → TeamsDiffer s
unfolding RunTo
RunsApart-first_differ s t steps it differ = elim it.apart [
  | inl none ↦ let same : t ≡ s = subst (λ xs. RunTo s xs t) none it.run in subst TeamsDiffer same differ
  | inr apart ↦ apart
]

-- no step is written down, and the state is the same
RunsApart-unchanged : (s t u : Broker) (steps later : List (Asked × Answer)) → later ≡ steps → u ≡ t → RunsApart s steps t → RunsApart s later u
RunsApart-unchanged s t u steps later is same it =
    subst (λ xs. RunsApart s xs u) (sym is) (subst (RunsApart s steps) (sym same) it)

-- an answer, by the mode that it comes in
RunsApart-after_answer : (s : Broker) (old new : Mode) (steps later : List (Asked × Answer)) (token : Option Text) (command : Command) (answer : Answer)
    → ModeStep old token command answer new → later ≡ written steps token command answer → RunsApart s steps (state_of old) → RunsApart s later (state_of new)
RunsApart-after_answer s (Running t) (Running u) steps later token command answer (inl p) is it = record {
  run = subst (λ xs. RunTo s xs u) (sym (is ∙ ap (λ b. if b then steps ++ (record { token = token; command = command }, answer) ∷ [] else steps) p.0)) (RunTo-append s t u steps token command answer it.run p.1);
  apart = inr (RunsApart-first_differ s t steps it p.2);
}
RunsApart-after_answer s (Running t) (Running u) steps later token command answer (inr (inr p)) is it =
    RunsApart-unchanged s t u steps later (is ∙ ap (written steps token command) p.0) p.2 it
RunsApart-after_answer s (Running t) (Running u) steps later token command answer (inr (inl p)) is it =
    RunsApart-unchanged s t u steps later (is ∙ ap (written steps token command) p.0) p.1 it
RunsApart-after_answer s (Running t) (IsStopped u of failed) steps later token command answer p is it =
    RunsApart-unchanged s t u steps later (is ∙ ap (written steps token command) p.0) p.1 it
RunsApart-after_answer s (IsStopped t of failed) new steps later token command answer p is it =
    RunsApart-unchanged s t (state_of new) steps later (is ∙ ap (written steps token command) p.0) (ap state_of p.1) it

RunsApart-after_response : (s : Broker) (old new : Journal) (asked : Request) (response : Response) → exchange.Responds JournalStep old asked response new
    → RunsApart s old.steps (state_of old.mode) → RunsApart s new.steps (state_of new.mode)
RunsApart-after_response s old new (Refused refusal is_bodiless) response p run = subst (λ (j : Journal). RunsApart s j.steps (state_of j.mode)) (sym p.1) run
RunsApart-after_response s old new (NoRoute closes) response p run = subst (λ (j : Journal). RunsApart s j.steps (state_of j.mode)) (sym p.1) run
RunsApart-after_response s old new (NoMethod resource closes) response p run = subst (λ (j : Journal). RunsApart s j.steps (state_of j.mode)) (sym p.1) run
RunsApart-after_response s old new (Asks token command closes) response p run = RunsApart-after_answer s old.mode new.mode old.steps new.steps token command p.0 p.1.0 p.1.1 run

RunsApart-after_responses : (s : Broker) (old new : Journal) (stream : List ℕ) (responses : List Response) (rest : List ℕ)
    → Responses (exchange.Exchange JournalStep) old stream responses new rest
    → RunsApart s old.steps (state_of old.mode) → RunsApart s new.steps (state_of new.mode)
RunsApart-after_responses s old new stream [] rest p run = subst (λ (j : Journal). RunsApart s j.steps (state_of j.mode)) (sym p.0) run
RunsApart-after_responses s old new stream (response ∷ responses) rest p run =
    RunsApart-after_responses s p.1 new p.2 responses rest p.5 (RunsApart-after_response s old p.1 p.4.0 response p.4.2 run)

-- from a blank journal
pub runs : (mode : Mode) (last : Journal) (stream : List ℕ) (responses : List Response) (rest : List ℕ)
    → Responses (exchange.Exchange JournalStep) (blank mode) stream responses last rest → IsRunFrom mode last
unfolding RunTo
runs mode last stream responses rest p =
    let it = RunsApart-after_responses (state_of mode) (blank mode) last stream responses rest p (record { run = refl; apart = inl refl }) in
    record { runs = it.run; teams_differ = it.apart }
