use Rattle.std.proofs.Common.{◌≡◌, ◌≤◌, ◌<◌, ◌⊎◌, length, false}
use Rattle.sqlite.specs.WalFiles.{image_at}
use Rattle.program_io.specs.Entrance.{NoneIsIn}
use Rattle.broker_program.specs.Reopening.{ServesMore}
use Rattle.broker_program.proofs.serve.serve_opened.Given as goal

-- each turn takes one of those that are to come
abbrev pub decreases-loop-broker : goal.decreases-loop-broker
decreases-loop-broker g l = length (g.P.Peers.queue l.peers).coming

-- the broker is stopped only once it served somebody
abbrev pub invariant-loop-broker : goal.invariant-loop-broker
invariant-loop-broker g l =
    let old = g.P.Peers.queue l.fn.peers in
    let now = g.P.Peers.queue l.peers in
    NoneIsIn now
    × ((l.broker.is_stopped ≡ false) ⊎ ((length old.went < length now.went) × (length now.coming < length old.coming)))
    × (length now.coming ≤ length old.coming) × ServesMore (image_at g.S.Start) old now l.broker
