use Rattle.std.proofs.Common.{arith}
use Rattle.sqlite.specs.{State.{HasCleanDisk}, Files.{file_state}}
use Rattle.broker_program.proofs.UnchangedLemmas.{IsAsBefore-trans}
use Rattle.broker_program.proofs.can_i_deploy.answer_at.Goals as goal

pub returns-clause-ok : goal.returns-clause-ok
returns-clause-ok g c clean =
    let broker = c.in_ok-broker.broker in
    let given = c.release.ensures.ends clean in
    let applied = c.apply-answer.ensures in
    let early : HasCleanDisk (file_state broker.connection) = omega (arith, given.0, applied.survives.1.clean) in
    let from = c.in_ok-broker.ensures.opened in
    let first : HasCleanDisk (file_state from.0) = omega (arith, early, from.2.tables.survives.clean) in
    record {
      connection = from.0;
      broker = broker;
      end = c.apply-answer.new.self;
      starts = from.1 first;
      opened = from.2;
      applied = rw c.as_str.ensures at applied;
      unchanged = λ held undone. IsAsBefore-trans _ _ _ (from.2.tables.kept early) (applied.unchanged given.0 c.in_ok-broker.ensures.runs held undone);
      clean = given.0;
      left = given.1;
    }
