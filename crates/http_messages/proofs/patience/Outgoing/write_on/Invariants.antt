use Rattle.std.{specs.{Duration.{as_nanos}, Io.KnownBytes.{Keeps}}, proofs.Common.{◌+◌, ◌-◌, ◌≤◌}}
use Rattle.http_messages.specs.Waits.{millis}
use Rattle.http_messages.proofs.patience.Outgoing.write_on.Given as goal

-- The peer has taken nothing so far, and was waited for in vain no longer than counts as spent, nor than was left.
abbrev pub invariant-loop : goal.invariant-loop
invariant-loop g l =
    Keeps (g.W.PeerWriter.contents l.fn.self.peer) (g.W.PeerWriter.contents l.self.peer)
    × (g.W.PeerWriter.waited l.self.peer + as_nanos l.fn.spent ≤ g.W.PeerWriter.waited l.fn.self.peer + as_nanos l.spent)
    × (g.W.PeerWriter.waited l.self.peer ≤ g.W.PeerWriter.waited l.fn.self.peer + (millis l.fn.self.limits.answer - as_nanos l.fn.spent))
