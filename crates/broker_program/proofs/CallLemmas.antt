-- The commands of peers that are served one after another are those of one session.
use Rattle.std.proofs.Common.{◌≡◌, ◌≤◌, inl, inr, ℕ, List, [], ◌∷◌, ◌++◌, append_assoc, Option, Ok, Err, Result, refl, subst, sym, arith}
use Rattle.sqlite.specs.{Held.{Held}, State.{State, HasCleanDisk}, Files.{file_state}, declared.FileStore.{FileStore}}
use Rattle.sqlite_trees.specs.View.{doubt}
use Rattle.sqlite_disk.specs.declared.Disk.{Ghosts}
use Rattle.broker_core.specs.{Laws.{Exit}, Machine.{Request as Asked}}
use Rattle.http_requests.specs.{declared.requests.Request.{Request}, declared.requests.Request.TheVariants.{Refused, NoRoute, NoMethod, Asks}}
use Rattle.http_responses.specs.Responses.{Response}
use Rattle.program_io.specs.Entrance.{Visit}
use Rattle.broker_database.specs.{BrokerView.{BrokerView}, Calls.{Applied}, Sessions.{RunsCalls}}
use Rattle.broker_http.specs.{Calls.{ByBroker, IsServed}, Exchange.{Responds}, Stream.{Responses}, declared.served.StreamFault.{StreamFault}}
use Rattle.broker_http.specs.declared.served.Served.{Served}
use Rattle.broker_program.specs.{Asked.{calls_of_request, calls_of_served, calls_of_stream}, Serving.{ServesPeers, Work, Works, calls_of_peers}}

-- shown is what a connection shows of its store; the commands of a part go before others
module _ {X : Type 0} (shown : Held X → State) where
  RunsCalls-request : (s t end : BrokerView X) (more : List (Asked × Exit)) (asked : Request) (response : Response) (it : Responds (Applied shown) s asked response t) → RunsCalls shown t more end
      → RunsCalls shown s (calls_of_request shown s t asked response it ++ more) end
  RunsCalls-request s t end more (Refused refusal is_bodiless) response it runs = subst (λ b. RunsCalls shown b more end) it.1 runs
  RunsCalls-request s t end more (NoRoute closes) response it runs = subst (λ b. RunsCalls shown b more end) it.1 runs
  RunsCalls-request s t end more (NoMethod resource closes) response it runs = subst (λ b. RunsCalls shown b more end) it.1 runs
  RunsCalls-request s t end more (Asks token command closes) response it runs = (it.0, t, it.1, inl (refl, runs))

  RunsCalls-stream : (s t end : BrokerView X) (more : List (Asked × Exit)) (stream rest : List ℕ) (responses : List Response) (it : Responses (ByBroker shown) s stream responses t rest) → RunsCalls shown t more end
      → RunsCalls shown s (calls_of_stream shown s t stream rest responses it ++ more) end
  RunsCalls-stream s t end more stream rest [] it runs = subst (λ b. RunsCalls shown b more end) it.0 runs
  RunsCalls-stream s t end more stream rest (response ∷ responses) it runs =
      let front = calls_of_request shown s it.1 it.4.0 response it.4.2 in
      let back = calls_of_stream shown it.1 t it.2 rest responses it.5 in
      subst (λ calls. RunsCalls shown s calls end) (sym (append_assoc front back more))
      (RunsCalls-request s it.1 end (back ++ more) it.4.0 response it.4.2 (RunsCalls-stream it.1 t end more it.2 rest responses it.5 runs))

  RunsCalls-served : (s t end : BrokerView X) (more : List (Asked × Exit)) (before after old new : Option (List ℕ)) (result : Result Served StreamFault) (it : IsServed shown s t before after old new result)
      → RunsCalls shown t more end → RunsCalls shown s (calls_of_served shown s t before after old new result it ++ more) end
  RunsCalls-served s t end more before after old new (Ok served) it runs =
      let all = it.answers.ok in RunsCalls-stream s t end more all.0 all.2 all.1 all.4 runs
  RunsCalls-served s t end more before after old new (Err fault) it runs =
      let all = it.answers.fault in RunsCalls-stream s t end more all.0 all.2 all.1 all.5 runs

module _ {D : Type 0} {g : Ghosts D} where
  -- the commands of some peers are run from the broker that serves the first of them to what the last one leaves
  RunsCalls-peers : (visits : List Visit) (s t : BrokerView (FileStore D g)) (it : ServesPeers visits s t) → RunsCalls file_state s (calls_of_peers visits s t it) t
  RunsCalls-peers [] s t it = it
  RunsCalls-peers (visit ∷ visits) s t it =
      RunsCalls-served file_state s it.0 t (calls_of_peers visits it.0 t it.2) visit.before.sends visit.after.sends visit.before.took visit.after.took it.1.1 it.1.2 (RunsCalls-peers visits it.0 t it.2)

  -- and so are those of one opening
  pub RunsCalls-work : (work : Work) (conn : Held (FileStore D g)) (end : BrokerView (FileStore D g)) (it : Works work conn end) → RunsCalls file_state it.broker work.calls end
  RunsCalls-work work conn end it = subst (λ calls. RunsCalls file_state it.broker calls end) (sym it.calls) (RunsCalls-peers work.visits it.broker end it.peers)

  -- what stays over calls: doubts of the disk stay, its failures are counted, and reads that are tested stay so
  pub record IsBefore (old new : Held (FileStore D g)) : Type 0 where
    pub clean : doubt (file_state old).is_clean ≤ doubt (file_state new).is_clean
    pub counts : (file_state old).faults ≤ (file_state new).faults
    pub shield : (file_state old).IsShielded → (file_state new).IsShielded

  pub IsBefore-refl : (b end : BrokerView (FileStore D g)) → end ≡ b → IsBefore b.connection end.connection
  IsBefore-refl b end same =
      subst (λ (e : BrokerView (FileStore D g)). IsBefore b.connection e.connection) (sym same) (record { clean = omega arith; counts = omega arith; shield = λ tested. tested })

  pub IsBefore-calls : (calls : List (Asked × Exit)) (b end : BrokerView (FileStore D g)) → RunsCalls file_state b calls end → IsBefore b.connection end.connection
  IsBefore-calls [] b end same = IsBefore-refl b end same
  IsBefore-calls ((r, exit) ∷ calls) b end it =
      let one = it.2.survives.1 in
      let more : IsBefore it.1.connection end.connection = elim it.3 [ inl on ↦ IsBefore-calls calls it.1 end on.1 | inr cut ↦ IsBefore-refl it.1 end cut.3 ] in
      record { clean = omega (arith, one.clean, more.clean); counts = omega (arith, one.counts, more.counts); shield = λ tested. more.shield (one.shield tested) }

  -- over the commands of an opening, and over the opening too
  pub IsBefore-peers : (work : Work) (conn : Held (FileStore D g)) (end : BrokerView (FileStore D g)) (it : Works work conn end) → IsBefore it.broker.connection end.connection
  IsBefore-peers work conn end it = IsBefore-calls work.calls it.broker end (RunsCalls-work work conn end it)

  pub IsBefore-works : (work : Work) (conn : Held (FileStore D g)) (end : BrokerView (FileStore D g)) → Works work conn end → IsBefore conn end.connection
  IsBefore-works work conn end it =
      let opens = it.opened.tables.survives in
      let more = IsBefore-peers work conn end it in
      record { clean = omega (arith, opens.clean, more.clean); counts = omega (arith, opens.counts, more.counts); shield = λ tested. more.shield (opens.shield tested) }

  pub HasCleanDisk-before_works : (work : Work) (conn : Held (FileStore D g)) (end : BrokerView (FileStore D g)) → Works work conn end → HasCleanDisk (file_state end.connection) → HasCleanDisk (file_state conn)
  HasCleanDisk-before_works work conn end it clean = let since = IsBefore-works work conn end it in omega (arith, clean, since.clean)
