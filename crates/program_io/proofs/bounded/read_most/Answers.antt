use Rattle.program_io.proofs.NormaliseLemmas.{IsFrontOf-of_result}
use Rattle.program_io.proofs.bounded.read_most.Goals as goal

pub returns-clause-front : goal.returns-clause-front
returns-clause-front g c =
    IsFrontOf-of_result (λ bytes. bytes.items) c.read_bounded.result _ _ c.read_bounded.ensures.ok c.read_bounded.ensures.most
