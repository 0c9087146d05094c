use Rattle.std.proofs.Common.{◌≡◌, length, false}
use Rattle.sqlite.specs.WalFiles.{image_at}
use Rattle.sqlite_disk.specs.contracts.start.UnknownStart.TheImpl.{ghosts}
use Rattle.program_io.specs.Entrance.{NoneIsIn}
use Rattle.broker_program.specs.{Files.{OpensBroker}, Reopening.{ServesBefore}}
use Rattle.broker_program.proofs.serve.serve_reopened.Given as goal

-- each opening takes one of those that are to come
abbrev pub decreases-loop-file : goal.decreases-loop-file
decreases-loop-file g l = length (g.P.Peers.queue l.peers).coming

abbrev pub invariant-loop-file : goal.invariant-loop-file
invariant-loop-file g l =
    let old = g.P.Peers.queue l.fn.peers in
    let now = g.P.Peers.queue l.peers in
    NoneIsIn now × (l.broker.is_stopped ≡ false) × OpensBroker (image_at ghosts) l.broker × ServesBefore old now l.broker
