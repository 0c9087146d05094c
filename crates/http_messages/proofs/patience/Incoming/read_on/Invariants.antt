use Rattle.std.{specs.{Duration.{as_nanos}, Io.KnownBytes.{Keeps}}, proofs.Common.{◌≡◌, ◌+◌, ◌-◌, ◌≤◌, length}}
use Rattle.http_messages.specs.Waits.{millis}
use Rattle.http_messages.proofs.patience.Incoming.read_on.Given as goal

-- Nothing that the peer sent is lost so far, and it was waited for in vain no longer than counts as spent, nor than was
-- left; so too of what counts while another peer waits, if one waited at first.
abbrev pub invariant-loop : goal.invariant-loop
invariant-loop g l =
    (length l.buf ≡ length l.fn.buf) × Keeps (g.R.PeerReader.remaining l.fn.self.peer) (g.R.PeerReader.remaining l.self.peer)
    × (g.R.PeerReader.waited l.self.peer + as_nanos l.fn.spent.all ≤ g.R.PeerReader.waited l.fn.self.peer + as_nanos l.spent.all)
    × (g.R.PeerReader.waited l.self.peer ≤ g.R.PeerReader.waited l.fn.self.peer + (millis l.fn.self.limits.message - as_nanos l.fn.spent.all))
    × (g.D.Door.IsWanted l.fn.self.door.now → g.D.Door.IsWanted l.self.door.now
    × (g.R.PeerReader.waited l.self.peer + as_nanos l.fn.spent.wanted ≤ g.R.PeerReader.waited l.fn.self.peer + as_nanos l.spent.wanted)
    × (g.R.PeerReader.waited l.self.peer ≤ g.R.PeerReader.waited l.fn.self.peer + (millis l.fn.self.limits.late - as_nanos l.fn.spent.wanted)))
