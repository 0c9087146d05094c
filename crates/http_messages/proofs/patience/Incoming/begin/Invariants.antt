use Rattle.std.{specs.Io.KnownBytes.{Keeps}, proofs.Common.{◌≡◌, ◌≤◌, length}}
use Rattle.http_messages.proofs.patience.Incoming.begin.Given as goal

-- Nothing that the peer sent is lost so far, and if another peer waited at first, it wasn't waited in vain.
abbrev pub invariant-loop : goal.invariant-loop
invariant-loop g l =
    (length l.buf ≡ length l.fn.buf) × Keeps (g.R.PeerReader.remaining l.fn.self.peer) (g.R.PeerReader.remaining l.self.peer)
    × (g.D.Door.IsWanted l.fn.self.door.now → g.D.Door.IsWanted l.self.door.now
    × (g.R.PeerReader.waited l.self.peer ≤ g.R.PeerReader.waited l.fn.self.peer))
