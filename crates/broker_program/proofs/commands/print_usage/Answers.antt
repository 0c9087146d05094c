use Rattle.std.proofs.Common.{rules}
use Rattle.clap.specs.Words.{kind_of}
use Rattle.broker_program.proofs.WordsLemmas.{ReportsOfWords-by_mistake}
use Rattle.broker_program.proofs.commands.print_usage.Goals as goal

pub returns-in-Ok-clause-returned : goal.returns-in-Ok-clause-returned
returns-in-Ok-clause-returned g c =
    ReportsOfWords-by_mistake g.W.Write.contents g.E.Write.contents (kind_of c.args.error.now) _ _ _ _ _ _ (search rules) c.use_stderr.result c.use_stderr.ensures c.print_text.ensures.mistake c.print_text.ensures.shown
