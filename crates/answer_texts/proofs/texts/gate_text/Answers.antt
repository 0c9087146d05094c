use Rattle.answer_texts.proofs.texts.gate_text.Goals as goal

pub returns-then-marks : goal.returns-then-marks
returns-then-marks c = rw c.if-marks.true c.object_text.ensures

pub returns-else-marks : goal.returns-else-marks
returns-else-marks c = rw c.if-marks.false c.object_text-else-marks.ensures
