use Rattle.std.proofs.Common.{Ok, [], refl, arith}
use Rattle.sqlite.specs.{Files.{file_state}, State.{HasCleanDisk}}
use Rattle.broker_database.specs.{Life.{IsGivenBack}, Life.Period.{Serving}}
use Rattle.broker_program.proofs.PeriodLemmas.{Keeps-append_period, Begins-start}
use Rattle.sqlite.specs.declared.file.Leftover.TheVariants as left
use Rattle.broker_program.proofs.laws.life_over_audit.Goals as goal

pub returns : goal.returns
returns g c held result store it old are image may =
    let given : IsGivenBack g.D.Disk it.broker.connection store = record {
      numbered = it.left.numbered;
      sound = it.left.sound;
      outcomes = λ trees found. (it.audited.unchanged it.clean).left trees (it.left.outcomes trees found);
    } in
    let early : HasCleanDisk (file_state it.broker.connection) = omega (arith, it.clean, it.audited.survives.clean) in
    Keeps-append_period g.D.Disk g.met.D.Disk.seen_may_stay old [] (Serving []) it.connection it.broker.connection (left.Store store) image
    (Begins-start g.D.Disk g.met.D.Disk.seen_may_stay old held it.connection are it.starts) (Ok it.broker, it.opened, (it.broker, refl, refl)) early given may
