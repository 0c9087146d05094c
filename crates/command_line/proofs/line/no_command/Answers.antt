use Rattle.std.proofs.{Common.{◌≡◌, ◌∙◌, [], ap, subst}, lemmas.Result.{IfOk-weaker}}
use Rattle.clap.specs.{Words.{App, HasKind, fault_of, is_simple_and_free}, declared.error.kind.ErrorKind.TheVariants.{InvalidSubcommand}}
use Rattle.command_line.{specs.Lines.{texts_of, whole_program}, proofs.LineLemmas.{HasKind-first, HasKind-or_else, is_simple_and_free-whole_program}}
use Rattle.command_line.proofs.line.no_command.Goals as goal

pub returns-in-Ok : goal.returns-in-Ok
returns-in-Ok c =
    let words = texts_of c.args.words.now in
    let is = c.in_ok-program.ensures in
    let none = subst (λ (app : App). fault_of app words ≡ []) is (c.in-Ok.ensures.kinds (ap is_simple_and_free is ∙ is_simple_and_free-whole_program)) in
    IfOk-weaker c.error.result _ _ (λ e kind. HasKind-first (fault_of whole_program words) InvalidSubcommand e none kind) c.error.ensures.kind

pub returns : goal.returns
returns c =
    let words = texts_of c.args.words.now in
    let is = c.in_ok-program.ensures in
    HasKind-or_else (fault_of whole_program words) _ c.in-Err.error
    (subst (λ (app : App). HasKind (fault_of app words) c.in-Err.error) is (c.in-Err.ensures.kinds (ap is_simple_and_free is ∙ is_simple_and_free-whole_program)))
