use Rattle.std.proofs.Common.{refl}
use Rattle.sqlite_disk.specs.Modelled.{calls_of, start_of}
use Rattle.broker_program.proofs.TestedLemmas.{serves_honestly}
use Rattle.broker_program.proofs.laws.service_is_honest.Goals as goal

pub returns : goal.returns
returns g c = serves_honestly _ (start_of g.S.Start) (λ f. g.C.Calls.history (calls_of f)) (λ _. refl) (λ _. refl)
