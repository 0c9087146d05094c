use Rattle.pact_file.proofs.{Again.{NormalAgain-holds, OnePact-holds}, Agreement.{IsDefinite-Normal}}
use Rattle.pact_file.proofs.laws.normal_again.Goals as goal

pub returns : goal.returns
returns c = record { again = NormalAgain-holds; one = OnePact-holds; alone = IsDefinite-Normal }
