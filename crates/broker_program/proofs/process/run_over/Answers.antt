use Rattle.std.proofs.Common.{◌∙◌, ap, map, string_bytes}
use Rattle.command_line.specs.Lines.{texts_of}
use Rattle.broker_program.proofs.WordsLemmas.{Ran-of_texts}
use Rattle.broker_program.proofs.process.run_over.Goals as goal

pub returns-clause-ran : goal.returns-clause-ran
returns-clause-ran g c =
    let texts = ap texts_of c.as_slice-in-Ok-words_of.ensures.value ∙ c.in-Ok-words_of.ensures ∙ ap (map string_bytes) c.as_slice.ensures.value in
    Ran-of_texts _ _ _ _ _ _ _ _ _ _ _ _ _ texts c.run_from-ended.ensures
