use Rattle.program_io.proofs.NormaliseLemmas.{NormalisesUntil-of_cut, Normalises-of_read}
use Rattle.program_io.proofs.normalise.normalise.Goals as goal

pub returns-clause-ok : goal.returns-clause-ok
returns-clause-ok g c =
    Normalises-of_read _ _ _ _ _ c.in_ok-file.ensures.ok c.write_normal_text.result (rw c.as_slice.ensures.value at c.write_normal_text.ensures.ok)

pub returns-clause-err : goal.returns-clause-err
returns-clause-err g c =
    NormalisesUntil-of_cut _ _ _ _ _ c.in_ok-file.ensures.ok _ c.write_normal_text.result (rw c.as_slice.ensures.value at c.write_normal_text.ensures.err)
