-- From brokers to the machine.
use Rattle.std.specs.Prelude.{min, length, Contains}
use Rattle.std.proofs.Common.{◌≡◌, ◌≢◌, ◌⊎◌, inl, inr, ℕ, suc, ◌+◌, ◌-◌, ◌*◌, ◌^◌, ◌≤◌, nat_le, Bool, true, false, if◌then◌else◌, IsTrue, List, [], ◌∷◌, ◌++◌, length-append, Option, refl, sym, ap, ◌∙◌, subst, arith}
use Rattle.std.proofs.lemmas.Bool.{cases_Bool, leb-true, leb-false}
use Rattle.sqlite.{specs.{Tree.{Trees}, Held.{Held}, State.{State, HasCleanDisk, Survives, HasCause}}, proofs.StateLemmas.{survives_then}}
use Rattle.sqlite_trees.specs.declared.error.StoreError.TheVariants.{Io}
use Rattle.table_access.specs.{Calls.{HasFailed}, declared.StoreFault.TheVariants.{Store}}
use Rattle.broker_core.specs.{Laws.{IsDone}, Machine.{Request as Asked, is_step}, State.{State as Broker}, Text.{Text}, declared.answer.Answer.{Answer}}
use Rattle.broker_core.specs.declared.command.Command.{Command}
use Rattle.broker_tables.specs.{Readable.{IsReadable}, Room.{HasRoomFor, TakesRoom, enough}}
use Rattle.broker_tables.proofs.RoomLemmas.{HasRoomFor-fewer, TakesRoom-same, TakesRoom-trans}
use Rattle.broker_database.specs.{BrokerView.{BrokerView}, Calls.{Applied}, Ends.{Applies, IsAsBefore, CommitsAtMostOnce}, Stored.{HoldsState}}
use Rattle.broker_database.proofs.{Transaction.{Survives-refl}, StoreFailures.{HasFailed-disk_at_fault}}
use Rattle.http_responses.specs.Responses.{Response}
use Rattle.broker_http.specs.{Stream.{Responses}, Serving.{Mode, ModeStep, IsInMode, RunsReadable, IsDiskAtFault, StopsOnlyBy}}
use Rattle.broker_http.specs.{Serving.Mode.{Running, IsStopped}, Journal.{Journal, JournalStep, written}}
use Rattle.http_requests.specs.{declared.requests.Request.{Request}, declared.requests.Request.TheVariants.{Refused, NoRoute, NoMethod, Asks}}
use Rattle.broker_core.specs.declared.answer.Answer.TheVariants as answers
use Rattle.broker_http.specs.Exchange as exchange

bool-not_true : (b : Bool) → ¬ (b ≡ true) → b ≡ false
bool-not_true true differs = absurd (differs refl)
bool-not_true false differs = refl

is_step-not_store : (answer : Answer) → is_step answer ≡ true → answer ≢ answers.Store
is_step-not_store answer e same = let wrong = ap is_step same in cc

le-zero : (m n : ℕ) → m ≤ n → n ≡ 0 → m ≡ 0
le-zero m n le e = omega (arith, le, e)

-- one more commit, before the others
Contains-first : (commit : Trees) (commits : List Trees) (trees : Trees) → trees ≡ commit → Contains (commit ∷ commits) trees
Contains-first commit commits trees is = (0, omega arith, sym is)

Contains-later : (commit : Trees) (commits : List Trees) (trees : Trees) → Contains commits trees → Contains (commit ∷ commits) trees
Contains-later commit commits trees it = (suc it.0, omega (arith, it.1), it.2)

-- ---- what stays of a connection

-- the disk has failed no less often, the limit of steps is the same, and only a fault of the disk shuts it
pub record IsSince (first here : State) : Type 0 where
  pub up : first.faults ≤ here.faults
  pub limit : here.step_limit ≡ first.step_limit
  pub closes : HasCleanDisk here → IsTrue first.is_open → IsTrue here.is_open ⊎ HasCause first here ⊥ Io

pub IsSince-refl : (c : State) → IsSince c c
IsSince-refl c = record { up = omega arith; limit = refl; closes = λ clean is_open. inl is_open }

IsSince-trans : {P : Trees → Type 0} (first here next : State) → IsSince first here → Survives here next P → HasCleanDisk next → IsSince first next
IsSince-trans first here next since s clean = record {
  up = omega (arith, since.up, s.counts);
  limit = s.limit ∙ since.limit;
  closes = λ _ is_open. elim (since.closes (le-zero _ _ s.clean clean) is_open) [ inl still ↦ elim (s.closes clean still) [ inl now ↦ inl now | inr more ↦ inr (omega (arith, since.up, more)) ] | inr more ↦ inr (omega (arith, s.counts, more)) ];
}

-- a connection is open unless the disk failed
IsSince-open_or_fault : (first here : State) → IsSince first here → HasCleanDisk here → IsTrue here.is_open ⊎ IsDiskAtFault first here
IsSince-open_or_fault first here since clean = elim (cases_Bool first.is_open) [
  | inl is_open ↦ elim (since.closes clean is_open) [ inl now ↦ inl now | inr more ↦ inr (inl more) ]
  | inr shut ↦ inr (inr shut)
]

IsDiskAtFault-more_faults : (first old new : State) → old.faults ≤ new.faults → IsDiskAtFault first old → IsDiskAtFault first new
IsDiskAtFault-more_faults first old new up (inl more) = inl (omega (arith, more, up))
IsDiskAtFault-more_faults first old new up (inr shut) = inr shut

IsDiskAtFault-since : (first old new : State) → IsSince first old → HasCleanDisk old → old.faults ≤ new.faults → IsDiskAtFault old new → IsDiskAtFault first new
IsDiskAtFault-since first old new since clean up (inl more) = inl (omega (arith, since.up, more))
IsDiskAtFault-since first old new since clean up (inr shut) = elim (IsSince-open_or_fault first old since clean) [
  | inl still ↦ absurd (let clash : true ≡ false = sym still ∙ shut in cc)
  | inr fault ↦ IsDiskAtFault-more_faults first old new up fault
]

-- whether it failed is seen
IsDiskAtFault-decidable : (old new : State) → IsDiskAtFault old new ⊎ (¬ IsDiskAtFault old new)
IsDiskAtFault-decidable old new = elim (cases_Bool (nat_le (min (old.faults + 1) (2 ^ 64 - 1)) new.faults)) [
  | inl more ↦ inl (inl (leb-true _ _ more))
  | inr few ↦ elim (cases_Bool old.is_open) [
    | inl is_open ↦ inr (λ fault. elim fault [
      | inl more ↦ absurd (omega (arith, leb-false _ _ few, more))
      | inr shut ↦ absurd (let clash : true ≡ false = sym is_open ∙ shut in cc)
    ])
    | inr shut ↦ inl (inr shut)
  ]
]

-- a command that leaves the database as it was leaves what is seen of it
now-unchanged : (s : Broker) (old new : State) → HoldsState s old → IsAsBefore old new → IsTrue new.is_open → new.now ≡ old.now
now-unchanged s old new holds it now =
    let was = holds.held (it.commit.was_open now) in (it.ended was.autocommit was.same now).1 ∙ it.commit.committed now ∙ sym was.same

-- ---- what the store promises of the connection

module _ {X : Type 0} (shown : Held X → State) where
  Survives-untouched : {P : Trees → Type 0} (old new : BrokerView X) → new ≡ old → Survives (shown old.connection) (shown new.connection) P
  Survives-untouched {P} old new same =
      subst (λ (b : BrokerView X). Survives (shown old.connection) (shown b.connection) P) (sym same) (Survives-refl (shown old.connection))

  CommitsAtMostOnce-unwritten : (old new : BrokerView X) → new ≡ old → CommitsAtMostOnce (shown old.connection) (shown new.connection)
  CommitsAtMostOnce-unwritten old new same = ((shown old.connection).now.trees, Survives-untouched old new same)

  -- what the store promises of the connection, over one message
  survives : (old new : BrokerView X) (asked : Request) (response : Response) → exchange.Responds (Applied shown) old asked response new
      → CommitsAtMostOnce (shown old.connection) (shown new.connection)
  survives old new (Refused refusal is_bodiless) response p = CommitsAtMostOnce-unwritten old new p.1
  survives old new (NoRoute closes) response p = CommitsAtMostOnce-unwritten old new p.1
  survives old new (NoMethod resource closes) response p = CommitsAtMostOnce-unwritten old new p.1
  survives old new (Asks token command closes) response p = p.1.survives

  -- and over a stream
  pub Survives-stream : (old : BrokerView X) (stream : List ℕ) (responses : List Response) (new : BrokerView X) (rest : List ℕ)
      → Responses (exchange.Exchange (Applied shown)) old stream responses new rest
      → (commits : List Trees) × Survives (shown old.connection) (shown new.connection) (Contains commits) × (length commits ≤ length responses)
  Survives-stream old stream [] new rest p = ([], Survives-untouched old new p.0, omega arith)
  Survives-stream old stream (response ∷ responses) new rest p =
      let one = survives old p.1 p.4.0 response p.4.2 in
      let later = Survives-stream p.1 p.2 responses new rest p.5 in (
        one.0 ∷ later.0,
        survives_then (shown old.connection) (shown p.1.connection) (shown new.connection) _ _ _ (λ _ trees is. Contains-first one.0 later.0 trees is) (λ _ trees is. Contains-later one.0 later.0 trees is) one.1 later.1,
        omega (arith, later.2),
      )

  -- a disk that is clean after a stream was clean before
  HasCleanDisk-before_stream : (old : BrokerView X) (stream : List ℕ) (responses : List Response) (new : BrokerView X) (rest : List ℕ)
      → Responses (exchange.Exchange (Applied shown)) old stream responses new rest
      → HasCleanDisk (shown new.connection) → HasCleanDisk (shown old.connection)
  HasCleanDisk-before_stream old stream responses new rest p clean = le-zero _ _ (Survives-stream old stream responses new rest p).1.clean clean

-- ---- what a broker answers is what the machine answers, and why it is stopped

-- first is the connection of a broker in this mode, before the stream
module _ {X : Type 0} (shown : Held X → State) (from : Mode) (first : Held X) where
  -- unless the disk failed, so many steps took no more of a table's numbers than they may
  abbrev HasTaken : ℕ → Held X → Type 0
  HasTaken steps here = IsDiskAtFault (shown first) (shown here) ⊎ TakesRoom (enough * steps) (shown first).now (shown here).now

  -- a broker that runs is in a state that can be read back, if the first could; one is stopped only so
  abbrev StopsLater : Held X → ℕ → Mode → Type 0
  StopsLater here steps (Running s) = (RunsReadable from → IsReadable s) × HasTaken steps here
  StopsLater here steps (IsStopped s token command) = StopsOnlyBy shown from first here steps (IsStopped s token command)

  -- the machine came so far with this broker
  pub record Reaches (b : BrokerView X) (mode : Mode) (steps : List (Asked × Answer)) : Type 0 where
    pub held : IsInMode shown mode b
    pub since : IsSince (shown first) (shown b.connection)
    pub stops : StopsLater b.connection (length steps) mode

  -- its answer to a command, and how far it comes
  abbrev Answers : Mode → List (Asked × Answer) → Option Text → Command → Answer → BrokerView X → Type 0
  Answers mode steps token command answer new =
      (next : Journal) × JournalStep (record { mode = mode; steps = steps }) token command answer next × Reaches new next.mode next.steps

  -- a broker that didn't change has reached the same mode
  Reaches-unchanged : (mode : Mode) (steps : List (Asked × Answer)) (old new : BrokerView X) → new ≡ old → Reaches old mode steps → Reaches new mode steps
  Reaches-unchanged mode steps old new same at = subst (λ (b : BrokerView X). Reaches b mode steps) (sym same) at

  HasTaken-more : (n m more : ℕ) (old new : Held X) → enough * n + m ≡ enough * more → IsSince (shown first) (shown new) → HasCleanDisk (shown new)
      → (shown old).faults ≤ (shown new).faults → HasTaken n old
      → (IsTrue (shown new).is_open → TakesRoom m (shown old).now (shown new).now) → HasTaken more new
  HasTaken-more n m more old new all since clean up before now = elim (IsSince-open_or_fault (shown first) (shown new) since clean) [
    | inr fault ↦ inl fault
    | inl is_open ↦ elim before [
      | inl fault ↦ inl (IsDiskAtFault-more_faults (shown first) (shown old) (shown new) up fault)
      | inr takes ↦
          let both = TakesRoom-trans (enough * n) m (shown first).now (shown old).now (shown new).now takes (now is_open) in
          inr (subst (λ taken. TakesRoom taken (shown first).now (shown new).now) all both)
    ]
  ]

  -- an answer of a broker that runs
  module _ (s : Broker) (steps : List (Asked × Answer)) (old : BrokerView X) (token : Option Text) (command : Command) (answer : Answer) (new : BrokerView X)
      (clean : HasCleanDisk (shown new.connection)) (at : Reaches old (Running s) steps) (a : Applied shown old token command answer new) where
    since_then_on : IsSince (shown first) (shown new.connection)
    since_then_on = IsSince-trans (shown first) (shown old.connection) (shown new.connection) at.since a.survives.1 clean

    runs_on : answer ≢ answers.Store → new.is_stopped ≡ false
    runs_on other = bool-not_true new.is_stopped (λ yes. other ((a.stops at.held.0).0 yes))

    -- no step: nothing is taken
    kept : answer ≢ answers.Store → ¬ (IsDone answer) → HoldsState s (shown new.connection) → steps ≡ written steps token command answer
        → ModeStep (Running s) token command answer (Running s) → Answers (Running s) steps token command answer new
    kept other undone holds CommitsAtMostOnce-unwritten step = (
      record { mode = Running s; steps = steps },
      (step, CommitsAtMostOnce-unwritten),
      record {
        held = (runs_on other, holds);
        since = since_then_on;
        stops = (
          at.stops.0,
          HasTaken-more (length steps) 0 (length steps) old.connection new.connection (omega arith) since_then_on clean a.survives.1.counts at.stops.1 (λ now.
              let same = now-unchanged s (shown old.connection) (shown new.connection) at.held.1 (a.unchanged clean at.held.0 other undone) now in
              TakesRoom-same 0 (shown old.connection).now (shown new.connection).now same),
        );
      },
    )

    -- the tables have numbers for the command, if they had for it and the steps before it
    room_here : ¬ IsDiskAtFault (shown first) (shown new.connection) → HasRoomFor (enough * (length steps + 1)) (shown first).now
        → HasRoomFor enough (shown old.connection).now
    room_here none room = elim at.stops.1 [
      | inl fault ↦ absurd (none (IsDiskAtFault-more_faults (shown first) (shown old.connection) (shown new.connection) a.survives.1.counts fault))
      | inr takes ↦ takes enough (HasRoomFor-fewer (enough + enough * length steps) (enough * (length steps + 1)) (omega arith) (shown first).now room)
    ]

    stopped_so : answer ≡ answers.Store → StopsOnlyBy shown from first new.connection (length steps) (IsStopped s token command)
    stopped_so store unlimited readable = elim (IsDiskAtFault-decidable (shown first) (shown new.connection)) [
      | inl fault ↦ inl fault
      | inr none ↦
          let no_failure : HasFailed (shown old.connection) (shown new.connection) Store → ⊥ = λ failed.
          none (IsDiskAtFault-since (shown first) (shown old.connection) (shown new.connection) at.since
          (le-zero _ _ a.survives.1.clean clean) a.survives.1.counts (HasFailed-disk_at_fault (shown old.connection) (shown new.connection) failed)) in
          elim (a.failure clean at.held.0 store s (record { held = at.held.1; readable = at.stops.0 readable; unlimited = at.since.limit ∙ unlimited })) [
            | inl failed ↦ absurd (no_failure failed)
            | inr to_do ↦ inr (to_do.0, λ room. elim (to_do.1 (room_here none room)) [ inl failed ↦ absurd (no_failure failed) | inr lacks ↦ (old.connection, lacks) ])
          ]
    ]

    applied : Applies s token command (shown new.connection) answer → Answers (Running s) steps token command answer new
    applied (inl p) =
        let more : List (Asked × Answer) = steps ++ (record { token = token; command = command }, answer) ∷ [] in (
          record { mode = Running p.next; steps = more },
          (inl (p.is_machines, p.step, p.teams_differ), sym (ap (λ b. if b then more else steps) p.is_machines)),
          record {
            held = (runs_on (is_step-not_store answer p.is_machines), p.keeps);
            since = since_then_on;
            stops = (
              λ readable. a.readable s (record { answer = answer; state = p.next }) (at.stops.0 readable) p.step,
              HasTaken-more (length steps) enough (length more) old.connection new.connection
                  (omega (arith, length-append steps ((record { token = token; command = command }, answer) ∷ [])))
                  since_then_on clean a.survives.1.counts at.stops.1 (a.room clean at.held.0 s at.held.1),
            );
          },
        )
    applied (inr (inl p)) =
        kept (λ is. let wrong = sym p.0 ∙ is in cc) (λ done. subst IsDone p.0 done) p.2
        (sym (ap (written steps token command) p.0)) (inr (inr (p.0, p.1, refl)))
    applied (inr (inr (inl p))) =
        kept (λ is. let wrong = sym p.0 ∙ is in cc) (λ done. subst IsDone p.0 done) p.1
        (sym (ap (written steps token command) p.0)) (inr (inl (p.0, refl)))
    applied (inr (inr (inr p))) = (
      record { mode = IsStopped s token command; steps = steps },
      ((p.0, refl, refl, refl), sym (ap (written steps token command) p.0)),
      record {
        held = ((a.stops at.held.0).1 p.0, p.1);
        since = since_then_on;
        stops = stopped_so p.0;
      },
    )

  Answers-of_applied : (mode : Mode) (steps : List (Asked × Answer)) (old new : BrokerView X) (token : Option Text) (command : Command) (answer : Answer)
      → HasCleanDisk (shown new.connection) → Reaches old mode steps → Applied shown old token command answer new → Answers mode steps token command answer new
  Answers-of_applied (Running s) steps old new token command answer clean at a =
      applied s steps old token command answer new clean at a (a.applies clean at.held.0 s at.held.1)
  Answers-of_applied (IsStopped s of failed) steps old new token command answer clean at a =
      let still = a.stopped at.held.0 in (
        record { mode = IsStopped s of failed; steps = steps },
        ((still.0, refl), sym (ap (written steps token command) still.0)),
        Reaches-unchanged (IsStopped s of failed) steps old new still.1 at,
      )

  -- a message and its response
  Responds-journal : (journal : Journal) (old new : BrokerView X) (asked : Request) (response : Response)
      → HasCleanDisk (shown new.connection) → Reaches old journal.mode journal.steps → exchange.Responds (Applied shown) old asked response new
      → (next : Journal) × exchange.Responds JournalStep journal asked response next × Reaches new next.mode next.steps
  Responds-journal journal old new (Refused refusal is_bodiless) response clean at p = (journal, (p.0, refl), Reaches-unchanged journal.mode journal.steps old new p.1 at)
  Responds-journal journal old new (NoRoute closes) response clean at p = (journal, (p.0, refl), Reaches-unchanged journal.mode journal.steps old new p.1 at)
  Responds-journal journal old new (NoMethod resource closes) response clean at p = (journal, (p.0, refl), Reaches-unchanged journal.mode journal.steps old new p.1 at)
  Responds-journal journal old new (Asks token command closes) response clean at p =
      let next = Answers-of_applied journal.mode journal.steps old new token command p.0 clean at p.1 in
      (next.0, (p.0, next.1, p.2), next.2)

  pub machine : (journal : Journal) (old : BrokerView X) (stream : List ℕ) (responses : List Response) (new : BrokerView X) (rest : List ℕ)
      → Responses (exchange.Exchange (Applied shown)) old stream responses new rest
      → HasCleanDisk (shown new.connection) → Reaches old journal.mode journal.steps
      → (last : Journal) × Responses (exchange.Exchange JournalStep) journal stream responses last rest × Reaches new last.mode last.steps
  machine journal old stream [] new rest p clean at = (journal, (refl, p.1), Reaches-unchanged journal.mode journal.steps old new p.0 at)
  machine journal old stream (response ∷ responses) new rest p clean at =
      let here = Responds-journal journal old p.1 p.4.0 response (HasCleanDisk-before_stream shown p.1 p.2 responses new rest p.5 clean) at p.4.2 in
      let later = machine here.0 p.1 p.2 responses new rest p.5 clean here.2 in
      (later.0, (p.0, here.0, p.2, p.3, (p.4.0, p.4.1, here.1), later.1), later.2)

  pub StopsOnlyBy-of_later : (here : Held X) (steps : ℕ) (mode : Mode) → StopsLater here steps mode → StopsOnlyBy shown from first here steps mode
  StopsOnlyBy-of_later here steps (Running s) it = tt
  StopsOnlyBy-of_later here steps (IsStopped s token command) it = it

-- before the first message
pub Reaches-start : {X : Type 0} (shown : Held X → State) (mode : Mode) (b : BrokerView X) → IsInMode shown mode b → Reaches shown mode b.connection b mode []
Reaches-start shown (Running s) b held = record {
  held = held;
  since = IsSince-refl (shown b.connection);
  stops = (λ readable. readable, inr (TakesRoom-same 0 (shown b.connection).now (shown b.connection).now refl));
}
Reaches-start shown (IsStopped s token command) b held = record { held = held; since = IsSince-refl (shown b.connection); stops = λ unlimited none. absurd none }
