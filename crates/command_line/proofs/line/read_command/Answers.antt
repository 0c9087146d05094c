use Rattle.std.proofs.Common.{◌∙◌, ap, subst}
use Rattle.clap.specs.Words.{App, HasKind, fault_of, is_simple_and_free}
use Rattle.command_line.specs.Lines.{command_named, texts_of}
use Rattle.command_line.proofs.LineLemmas.{HasOptions-of_matches, is_simple_and_free-command_named, is_simple-command_named, HasKind-only_memory}
use Rattle.command_line.proofs.line.read_command.Goals as goal

pub returns-in-Some-clause-ok : goal.returns-in-Some-clause-ok
returns-in-Some-clause-ok c =
    let is = c.in_ok-command_named.ensures in
    let free = ap is_simple_and_free is ∙ is_simple_and_free-command_named c.args.name in
    HasOptions-of_matches (command_named c.args.name) _ (texts_of c.args.words.now) c.in-Ok.matches c.in-Some.line
    is (is_simple-command_named c.args.name) c.in-Ok.ensures.matches (c.in-Ok.ensures.kinds free) c.in-Some.ensures

pub returns-clause-err : goal.returns-clause-err
returns-clause-err c =
    let is = c.in_ok-command_named.ensures in
    λ taken. HasKind-only_memory (command_named c.args.name) _ (texts_of c.args.words.now) c.in-Err.error is (c.in-Err.ensures.kinds (ap is_simple_and_free is ∙ is_simple_and_free-command_named c.args.name)) taken

pub returns-clause-kind : goal.returns-clause-kind
returns-clause-kind c =
    let is = c.in_ok-command_named.ensures in
    subst (λ (k : App). HasKind (fault_of k (texts_of c.args.words.now)) c.in-Err.error) is
    (c.in-Err.ensures.kinds (ap is_simple_and_free is ∙ is_simple_and_free-command_named c.args.name))
