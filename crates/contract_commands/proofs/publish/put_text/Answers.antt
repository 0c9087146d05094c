use Rattle.std.{specs.Prelude.{⊤}, proofs.Common.{subst}}
use Rattle.sqlite.specs.Held.{state}
use Rattle.broker_core.specs.Text.{Text}
use Rattle.broker_tables.specs.Holds.{ChangesAndAnswersBetween}
use Rattle.content_store.{specs.Contents.{StoresIfRoom}, proofs.Held.{IsPutIfRoom-StoresIfRoom}}
use Rattle.contract_commands.proofs.publish.put_text.Goals as goal

pub returns-clause-answers : goal.returns-clause-answers
returns-clause-answers g c =
    let old = state g.S.Store c.args.conn.now in
    let new = state g.S.Store c.put_if_room.new.conn in
    subst (λ (body : Text). ChangesAndAnswersBetween old new c.put_if_room.result (λ s. ⊤) (StoresIfRoom body)) c.as_str.ensures
    (IsPutIfRoom-StoresIfRoom old new c.put_if_room.result c.as_str.result.now c.put_if_room.ensures.call)
