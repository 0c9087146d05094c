-- What the public call promises: how a broker answers a stream, and that the machine answers it so.
use Rattle.std.specs.Io.KnownBytes.{Consumes}
use Rattle.std.specs.Prelude.{◌≡◌, ◌≤◌, ◌⊎◌, ℕ, Bool, List, length, Contains, Option, Result, Ok, Err, IfOk, IfErr}
use Rattle.sqlite.specs.Tree.{Trees}
use Rattle.sqlite.specs.Held.{Held}
use Rattle.sqlite.specs.State.{State, HasCleanDisk, Survives}
use Rattle.broker_database.specs.BrokerView.{BrokerView}
use Rattle.broker_database.specs.Calls.{Applied}
use Rattle.http_messages.specs.Message.{Message}
use Rattle.http_requests.specs.declared.requests.Request.{Request}
use Rattle.http_responses.specs.Responses.{Response, Writes}
use Rattle.http_responses.specs.declared.writing.WriteFault.{WriteFault}
use Rattle.broker_http.specs.Exchange.{Exchange, Responds}
use Rattle.broker_http.specs.Journal.{Journal, JournalStep, IsRunFrom, blank}
use Rattle.broker_http.specs.Serving.{Mode, IsInMode, StopsOnlyBy, ServesStream}
use Rattle.broker_http.specs.Stream.{Responses}
use Rattle.broker_http.specs.Faults.{ReportsDevice, returned_as}
use Rattle.broker_http.specs.declared.served.StreamFault.{StreamFault}
use Rattle.broker_http.specs.declared.served.ServeFault.{ServeFault}
use Rattle.broker_http.specs.declared.served.ServeFault.TheVariants as returned
use Rattle.broker_http.specs.declared.served.Served.{Served}

-- a broker answers a message, each command by what it promises on any disk and any database
abbrev pub ByBroker : {X : Type 0} → (Held X → State) → BrokerView X → Message → Response → BrokerView X → Type 0
ByBroker shown = Exchange (Applied shown)

-- the machine answers it, and each answer that is a step is written down
abbrev pub ByMachine : Journal → Message → Response → Journal → Type 0
ByMachine = Exchange JournalStep

-- Shown is what a connection shows of its store. The writer had taken old and has taken new.
module _ {X : Type 0} (shown : Held X → State) (s t : BrokerView X) (old new : Option (List ℕ)) where
  -- what is asked is answered by the broker, and the response is out, or the writer failed at it
  abbrev pub IsResponded : Request → Result Bool WriteFault → Type 0
  IsResponded asked result =
      (response : Response) × Responds (Applied shown) s asked response t × Writes old new response result

-- The same, and the reader had before to give and has after.
module _ {X : Type 0} (shown : Held X → State) (s t : BrokerView X) (before after old new : Option (List ℕ)) where
  -- on any disk and any database, what was read is answered message by message by what the broker does with each
  -- command; a fault leaves some messages answered
  abbrev pub IsAnsweredByBroker : Result Served StreamFault → Type 0
  IsAnsweredByBroker result = ServesStream (ByBroker shown) s t before after old new result

  -- so many messages at the front of what was read are answered by the broker, one after another
  abbrev pub HasAnswered : ℕ → Type 0
  HasAnswered answered =
      (stream : List ℕ) × (responses : List Response) × (rest : List ℕ) × Consumes before after stream
      × Responses (ByBroker shown) s stream responses t rest × (answered ≡ length responses)

  -- The machine answers it, from this mode to the last.
  pub record IsAnsweredByMachine (mode : Mode) (result : Result Served StreamFault) : Type 0 where
    pub last : Journal
    -- the answers that are steps run it, in order, from one state to the other, which the database holds
    pub run : IsRunFrom mode last
    pub holds : IsInMode shown last.mode t
    -- each answer is the machine's, or it is no step; so too those to the messages before a fault
    pub serves : ServesStream ByMachine (blank mode) last before after old new result
    -- if one of these answers stopped the broker, the disk failed, or the command was to be done, and its change was
    -- made whole and undone, as by a COMMIT that lacked memory, as long as its tables have numbers for rows; so no
    -- request that changes nothing stops a broker whose disk works
    pub failure : StopsOnlyBy shown mode s.connection t.connection (length last.steps) last.mode

  -- what serving a stream promises
  pub record IsServed (result : Result Served StreamFault) : Type 0 where
    -- on any disk and any database, by what the broker does with each command
    pub answers : IsAnsweredByBroker result
    -- on a clean disk, from a database that holds a state of the machine, by the machine
    pub machine : HasCleanDisk (shown t.connection) → (mode : Mode) → IsInMode shown mode s
        → IsAnsweredByMachine mode result
    -- what the store promises of the connection: only a fault of the disk shuts it, its step limit stays, and what a
    -- crash may leave it could leave before, or it is one of these commits, at most one per message
    pub survives : (commits : List Trees) × Survives (shown s.connection) (shown t.connection) (Contains commits)
        × IfOk result (λ served. length commits ≤ served.answered)
    -- so too if a device or memory failed: at most one for each message that was answered until then
    pub survives_fault : IfErr result (λ _. (answered : ℕ) × HasAnswered answered × ((commits : List Trees)
        × Survives (shown s.connection) (shown t.connection) (Contains commits) × (length commits ≤ answered)))

  -- the stream was served to this end, or up to this fault, which was reported as one of three
  abbrev pub IsReturnedAs : Result Served StreamFault → Result Served ServeFault → Type 0
  IsReturnedAs (Ok served) result = result ≡ Ok served
  IsReturnedAs (Err fault) result = result ≡ Err (returned_as fault)

  -- What serving promises whose faults are three: it served the stream, and the reader or the writer has failed if a
  -- fault says so; or there was no memory for the routes, and nothing was read, done or written.
  abbrev pub IsServedOrIdle : (ReaderHasFailed WriterHasFailed : Type 0) → Result Served ServeFault → Type 0
  IsServedOrIdle ReaderHasFailed WriterHasFailed result =
      ((result ≡ Err returned.Memory) × (t ≡ s) × (after ≡ before) × (new ≡ old))
      ⊎ ((served : Result Served StreamFault) × IsServed served × IsReturnedAs served result
      × IfErr served (λ fault. ReportsDevice fault ReaderHasFailed WriterHasFailed))
