use Rattle.std.proofs.Common.{Ok, Some, [], ◌∷◌, inl, refl}
use Rattle.command_facts.specs.Primitives.{broker_primitives}
use Rattle.broker_database.specs.{Life.Period.{Making, Migrating, Serving}, Sessions.{exit_of}}
use Rattle.broker_program.proofs.PeriodLemmas.{Keeps-append_period, Begins-start, serving_leads}
use Rattle.sqlite.specs.declared.file.Leftover.TheVariants as left
use Rattle.broker_program.proofs.laws.life_over_commands.Goals as goal

pub returns-clause-making : goal.returns-clause-making
returns-clause-making g c held office files it old are image may =
    Keeps-append_period g.D.Disk g.met.D.Disk.seen_may_stay old [] (Making (broker_primitives.digest_of office) []) it.connection it.broker.connection (left.Files files) image
    (Begins-start g.D.Disk g.met.D.Disk.seen_may_stay old held it.connection are it.starts) (Ok it.broker, it.made, (it.broker, refl, refl)) it.closed.was_clean it.closed may

pub returns-clause-migrating : goal.returns-clause-migrating
returns-clause-migrating g c held files it old are image may =
    Keeps-append_period g.D.Disk g.met.D.Disk.seen_may_stay old [] Migrating it.old it.new (left.Files files) image
    (Begins-start g.D.Disk g.met.D.Disk.seen_may_stay old held it.old are it.starts) (Ok tt, it.migrated) it.closed.was_clean it.closed may

pub returns-clause-asking : goal.returns-clause-asking
returns-clause-asking g c held token command answer store it old are image may =
    Keeps-append_period g.D.Disk g.met.D.Disk.seen_may_stay old [] (Serving ((record { token = Some token; command = command }, exit_of answer) ∷ [])) it.connection it.end.connection (left.Store store) image
    (Begins-start g.D.Disk g.met.D.Disk.seen_may_stay old held it.connection are it.starts) (Ok it.broker, it.opened, (it.end, (answer, it.end, it.applied, inl (refl, refl)), refl)) it.clean it.left may

pub returns-clause-serving : goal.returns-clause-serving
returns-clause-serving g c held count rest it clean old are image may =
    serving_leads g.D.Disk g.met.D.Disk.seen_may_stay old held count are rest it clean image may
