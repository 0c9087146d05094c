-- a database that is as it was, and then as it was, is as it was
use Rattle.std.proofs.Common.{◌∙◌}
use Rattle.sqlite.specs.State.{State}
use Rattle.broker_database.specs.Ends.{IsAsBefore}

pub IsAsBefore-trans : (a b c : State) → IsAsBefore a b → IsAsBefore b c → IsAsBefore a c
IsAsBefore-trans a b c first second = record {
  commit = record {
    was_open = λ now. first.commit.was_open (second.commit.was_open now);
    committed = λ now. second.commit.committed now ∙ first.commit.committed (second.commit.was_open now);
  };
  left = λ trees may. first.left trees (second.left trees may);
  ended = λ none same now.
      let mid = first.ended none same (second.commit.was_open now) in
      second.ended mid.0 mid.1 now;
}
