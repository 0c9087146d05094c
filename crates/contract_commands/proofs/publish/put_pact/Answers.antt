use Rattle.std.specs.Prelude.{⊤}
use Rattle.command_facts.{specs.Performs.{IsStepOf, IsToChange}, proofs.CarryLemmas.{PerformsWhereBetween-of_performs, CarriesBetween-weaker}}
use Rattle.command_facts.proofs.ShortTexts.{IsName-short, Reads-short}
use Rattle.broker_core.specs.declared.command.Command.TheVariants.{PutPact}
use Rattle.contract_commands.proofs.{PactLemmas.{StepOfCaller-form_fault}, Unread.{PerformsBetween-unread, FailsFromBetween-unread}}
use Rattle.contract_commands.proofs.publish.put_pact.Goals as goal

pub returns-in-Err : goal.returns-in-Err
returns-in-Err g c =
    let steps = IsStepOf c.args.caller.now (PutPact c.args.path.now c.args.file.now) in
    record {
      answers = PerformsWhereBetween-of_performs _ _ c.report_unread.result (λ _. ⊤) steps (PerformsBetween-unread _ c.in-Err.fault c.report_unread.result steps c.report_unread.ensures (λ found is s. StepOfCaller-form_fault s c.args.caller.now c.args.path.now c.args.file.now found (c.in-Err.ensures.fault found is)));
      failure = FailsFromBetween-unread _ _ c.in-Err.fault c.report_unread.result (λ s. ⊤) (IsToChange steps) c.report_unread.ensures;
    }

pub returns-in-Ok : goal.returns-in-Ok
returns-in-Ok g c =
    CarriesBetween-weaker (λ s out publishes. publishes c.args.file.now c.in-Ok.ensures.pact)
    (λ long named. long (Reads-short _ _ _ _ c.in-Ok.ensures.pact, (IsName-short _ named.1, (IsName-short _ named.2, (IsName-short _ named.0, tt))))) c.publish.ensures
