use Rattle.std.proofs.{Common.{arith}, lemmas.List.{length-replicate}}
use Rattle.program_io.specs.Entrance.{stranger}
use Rattle.program_io.proofs.entrance.SocketsPeers.let_go.Goals as goal

-- not all that came were let go
pub one_more-gone-requires : goal.one_more-gone-requires
one_more-gone-requires c =
    omega (arith, c.requires, length-replicate c.args.self.now.gone stranger, length-replicate c.args.self.now.connections.served stranger)
