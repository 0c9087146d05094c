use Rattle.std.proofs.Common.{◌≡◌, ◌∙◌, true, sym}
use Rattle.sqlite.specs.Held.{state}
use Rattle.worked_examples.{specs.Asking.{is_question}, proofs.Questions.{goes_on}}
use Rattle.worked_examples.proofs.asking.ask.Goals as goal

pub returns : goal.returns
returns g c =
    let asks : is_question c.args.command.now ≡ true = sym c.is_question.ensures ∙ c.if-not-is_question.false in
    (asks, goes_on (state g.S.Store) c.args.broker.now c.args.token.now c.args.command.now asks c.apply.result c.apply.new.self c.apply.ensures)
