use Rattle.std.proofs.Common.{Ok, refl, sym, subst}
use Rattle.sqlite.specs.Held.{state}
use Rattle.table_access.proofs.CallLemmas.{CallsBetween-no_call}
use Rattle.command_facts.specs.{declared.checking.Comparison.{Comparison}, Performs.{PerformsWhereBetween}}
use Rattle.broker_core.specs.{declared.answer.Answer.TheVariants.{BadForm, Pattern}, declared.command.FormFault.TheVariants.{UnknownReply}}
use Rattle.contract_commands.specs.{Results.{HasPacticipant}, Checks.{Leads}}
use Rattle.broker_tables.{specs.Room.{enough}, proofs.RoomLemmas.{TakesRoom-same}}
use Rattle.contract_commands.proofs.replies.answer_compared.Goals as goal

pub returns-in-UnknownReply-clause-answers : goal.returns-in-UnknownReply-clause-answers
returns-in-UnknownReply-clause-answers g c =
    let here = state g.S.Store c.args.conn.now in
    subst (λ (returned : Comparison). PerformsWhereBetween here here (λ s. HasPacticipant s c.args.provider.now) (λ s out. Leads s c.args.provider.now c.args.report.now c.args.content returned out) (Ok (BadForm UnknownReply)))
    (sym c.in-UnknownReply.is) (CallsBetween-no_call here (BadForm UnknownReply) _ (λ s held has. (s, refl, (held, TakesRoom-same enough here.now here.now refl))))

pub returns-in-Pattern-clause-answers : goal.returns-in-Pattern-clause-answers
returns-in-Pattern-clause-answers g c =
    let here = state g.S.Store c.args.conn.now in
    subst (λ (returned : Comparison). PerformsWhereBetween here here (λ s. HasPacticipant s c.args.provider.now) (λ s out. Leads s c.args.provider.now c.args.report.now c.args.content returned out) (Ok Pattern))
    (sym c.in-Pattern.is) (CallsBetween-no_call here Pattern _ (λ s held has. (s, refl, (held, TakesRoom-same enough here.now here.now refl))))
