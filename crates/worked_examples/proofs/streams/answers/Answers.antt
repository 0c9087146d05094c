use Rattle.sqlite.specs.Held.{state}
use Rattle.broker_http.specs.Serving.Mode.{Running}
use Rattle.worked_examples.proofs.Served.{MachineAnswers-of_stream}
use Rattle.worked_examples.proofs.streams.answers.Goals as goal

pub returns : goal.returns
returns g c = λ clean s mode.
    MachineAnswers-of_stream (state g.S.Store) s _ _ _ _ _ _ _ c.new-answers.ensures.items (c.in_ok-serve_stream.ensures.served.machine clean (Running s) mode)
