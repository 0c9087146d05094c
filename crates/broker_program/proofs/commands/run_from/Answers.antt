use Rattle.sqlite.specs.WalFiles.{image_at}
use Rattle.command_line.specs.Lines.{texts_of}
use Rattle.broker_program.proofs.WordsLemmas.{Ran-of_words}
use Rattle.broker_program.proofs.commands.run_from.Goals as goal

pub returns-in-Err : goal.returns-in-Err
returns-in-Err g c =
    Ran-of_words (image_at g.S.Start) g.R.Read.remaining g.W.Write.contents g.E.Write.contents (texts_of c.args.words.now) c.in-Err.error c.in-Err.ensures.err c.in-Err.ensures.kind
    c.args.input.now _ _ _ _ _ c.print_usage-status.ensures.memory c.print_usage-status.ensures.returned
