use Rattle.std.proofs.Common.{◌<◌, length, subst, sym}
use Rattle.program_io.specs.Entrance.{Queue}
use Rattle.broker_program.proofs.{ServingLemmas.{ServesNext-visited}, VisitLemmas.{IsLetIn-one_in}}
use Rattle.broker_program.proofs.serve.serve_next.Goals as goal

pub let_go-requires : goal.let_go-requires
let_go-requires g c =
    subst (λ (q : Queue). length q.went < length q.came) (sym (g.met.P.Peers.stays c.next.new.self c.serve_peer-reader.new.door)) (IsLetIn-one_in _ _ _ c.in-Some.ensures c.requires.idle)

pub returns-in-Some : goal.returns-in-Some
returns-in-Some g c =
    ServesNext-visited _ _ _ _ _ _ _ _ c.in-Some.ensures (g.met.P.Peers.stays c.next.new.self c.serve_peer-reader.new.door) c.let_go.ensures c.requires.runs c.serve_peer-reader.result.0 c.serve_peer-reader.ensures
