use Rattle.program_io.proofs.EntranceLemmas.{IsLetIn-stranger_by_counts}
use Rattle.program_io.proofs.entrance.SocketsPeers.next.Goals as goal

pub returns-in-Some-sides_of_waiting : goal.returns-in-Some-sides_of_waiting
returns-in-Some-sides_of_waiting c =
    let old = c.args.self.now in
    let new = c.next.new.self in
    IsLetIn-stranger_by_counts old.connections.left old.connections.served old.gone old.connections.lost new.left new.served new.lost
    c.next.ensures.left.0 c.in-Some.ensures.taken c.in-Some.ensures.lost
