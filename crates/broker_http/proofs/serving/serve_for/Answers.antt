use Rattle.std.{specs.Prelude.{length, Contains}, proofs.Common.{◌≤◌, refl, Result, Ok, Err, IfOk, IfErr, Option, List, ℕ, subst, sym}}
use Rattle.sqlite.specs.{Tree.{Trees}, Held.{Held}, State.{State, HasCleanDisk, Survives}}
use Rattle.broker_database.specs.BrokerView.{BrokerView}
use Rattle.broker_http.specs.{Calls.{ByBroker, HasAnswered, IsAnsweredByMachine}, Journal.{blank}, Serving.{Mode, IsInMode, ServesStream}}
use Rattle.broker_http.{specs.{declared.served.StreamFault.{StreamFault}, declared.served.Served.{Served}}, proofs.JournalLemmas.{runs}}
use Rattle.broker_http.proofs.ModeLemmas.{Reaches-start, machine, StopsOnlyBy-of_later, Survives-stream}
use Rattle.broker_http.proofs.serving.serve_for.Goals as goal

module _ {X : Type 0} (shown : Held X → State) (s t : BrokerView X) (before after old new : Option (List ℕ)) where
  survives : (result : Result Served StreamFault) → ServesStream (ByBroker shown) s t before after old new result
      → (commits : List Trees) × Survives (shown s.connection) (shown t.connection) (Contains commits) × IfOk result (λ served. length commits ≤ served.answered)
  survives (Ok served) answers =
      let p = answers.ok in
      let all = Survives-stream shown s p.0 p.1 t p.2 p.4 in
      (all.0, all.1, subst (λ (n : ℕ). length all.0 ≤ n) (sym p.6) all.2)
  survives (Err fault) answers =
      let p = answers.fault in
      let all = Survives-stream shown s p.0 p.1 t p.2 p.5 in
      (all.0, all.1, tt)

  survives_fault : (result : Result Served StreamFault) → ServesStream (ByBroker shown) s t before after old new result
      → IfErr result (λ _. (answered : ℕ) × HasAnswered shown s t before after old new answered
      × ((commits : List Trees) × Survives (shown s.connection) (shown t.connection) (Contains commits) × (length commits ≤ answered)))
  survives_fault (Ok served) answers = tt
  survives_fault (Err fault) answers =
      let p = answers.fault in
      (length p.1, (p.0, p.1, p.2, p.4, p.5, refl), Survives-stream shown s p.0 p.1 t p.2 p.5)

  -- the machine answers from the mode that the broker is in
  machines : (result : Result Served StreamFault) → ServesStream (ByBroker shown) s t before after old new result
      → HasCleanDisk (shown t.connection) → (mode : Mode) → IsInMode shown mode s → IsAnsweredByMachine shown s t before after old new mode result
  machines (Ok served) answers clean mode held =
      let p = answers.ok in
      let m = machine shown mode s.connection (blank mode) s p.0 p.1 t p.2 p.4 clean (Reaches-start shown mode s held) in
      record {
        last = m.0;
        run = runs mode m.0 p.0 p.1 p.2 m.1;
        holds = m.2.held;
        serves = record { ok = (p.0, p.1, p.2, p.3, m.1, p.5, p.6, p.7); end = answers.end; fault = tt };
        failure = StopsOnlyBy-of_later shown mode s.connection t.connection (length m.0.steps) m.0.mode m.2.stops;
      }
  machines (Err fault) answers clean mode held =
      let p = answers.fault in
      let m = machine shown mode s.connection (blank mode) s p.0 p.1 t p.2 p.5 clean (Reaches-start shown mode s held) in
      record {
        last = m.0;
        run = runs mode m.0 p.0 p.1 p.2 m.1;
        holds = m.2.held;
        serves = record { ok = tt; end = tt; fault = (p.0, p.1, p.2, p.3, p.4, m.1, p.6, p.7, p.8) };
        failure = StopsOnlyBy-of_later shown mode s.connection t.connection (length m.0.steps) m.0.mode m.2.stops;
      }

pub returns-clause-served : goal.returns-clause-served
returns-clause-served g c = record {
  answers = c.serve_messages.ensures.answers;
  machine = machines (g.B.Service.shown) _ _ _ _ _ _ c.serve_messages.result c.serve_messages.ensures.answers;
  survives = survives (g.B.Service.shown) _ _ _ _ _ _ c.serve_messages.result c.serve_messages.ensures.answers;
  survives_fault = survives_fault (g.B.Service.shown) _ _ _ _ _ _ c.serve_messages.result c.serve_messages.ensures.answers;
}
