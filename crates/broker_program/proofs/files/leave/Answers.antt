use Rattle.std.proofs.Common.{arith}
use Rattle.sqlite.specs.{State.{HasCleanDisk}, Files.{file_state}}
use Rattle.broker_program.proofs.files.leave.Goals as goal

pub returns : goal.returns
returns g c =
    let kept = c.into_store.ensures in
    record {
      ends = λ clean.
          let early : HasCleanDisk (file_state c.args.connection) = omega (arith, clean, kept.quiet.clean) in
          (early, record { numbered = kept.numbered clean; sound = kept.sound clean; outcomes = kept.quiet.outcomes });
      shield = kept.quiet.shield;
    }
