use Rattle.std.proofs.{Common.{ap, map}, lemmas.Result.{IfErr-weaker, IfOk-weaker}, lemmas.List.{nil_from_length}}
use Rattle.command_line.proofs.LineLemmas.{is_line-of_options, HasKind-named, is_taken-of_line, is_line-unnamed, mistakes-unnamed, is_line-empty, mistakes-empty}
use Rattle.command_line.proofs.line.read_line.Goals as goal

pub returns-in-Some-named-clause-only : goal.returns-in-Some-named-clause-only
returns-in-Some-named-clause-only c =
    IfOk-weaker c.read_command.result _ _
    (λ line read. is_line-of_options _ _ _ c.in-Some-named.name line (ap (map (λ word. word.now)) c.in-Some.ensures.cases.0) c.in-Some-named.ensures read)
    c.read_command.ensures.ok

pub returns-in-Some-named-clause-err : goal.returns-in-Some-named-clause-err
returns-in-Some-named-clause-err c =
    IfErr-weaker c.read_command.result _ _
    (λ e memory line. memory (is_taken-of_line _ _ _ c.in-Some-named.name (ap (map (λ word. word.now)) c.in-Some.ensures.cases.0) c.in-Some-named.ensures line))
    c.read_command.ensures.err

pub returns-in_ok-no_command-in-None-named-clause-err : goal.returns-in_ok-no_command-in-None-named-clause-err
returns-in_ok-no_command-in-None-named-clause-err c =
    λ line. absurd (is_line-unnamed _ _ _ (ap (map (λ word. word.now)) c.in-Some.ensures.cases.0) c.in-None-named.ensures line)

pub returns-in_ok-no_command-in-None-clause-err : goal.returns-in_ok-no_command-in-None-clause-err
returns-in_ok-no_command-in-None-clause-err c = λ line. absurd (is_line-empty _ (ap (map (λ word. word.now)) (nil_from_length c.args.words.now c.in-None.ensures.cases)) line)

pub returns-in-Some-named-clause-kind : goal.returns-in-Some-named-clause-kind
returns-in-Some-named-clause-kind c =
    IfErr-weaker c.read_command.result _ _
    (λ e kind. HasKind-named _ _ _ c.in-Some-named.name e (ap (map (λ word. word.now)) c.in-Some.ensures.cases.0) c.in-Some-named.ensures kind)
    c.read_command.ensures.kind

pub returns-in_ok-no_command-in-None-named-clause-kind : goal.returns-in_ok-no_command-in-None-named-clause-kind
returns-in_ok-no_command-in-None-named-clause-kind c =
    rw (mistakes-unnamed _ _ _ (ap (map (λ word. word.now)) c.in-Some.ensures.cases.0) c.in-None-named.ensures) c.in_ok-no_command-in-None-named.ensures

pub returns-in_ok-no_command-in-None-clause-kind : goal.returns-in_ok-no_command-in-None-clause-kind
returns-in_ok-no_command-in-None-clause-kind c =
    rw (mistakes-empty _ (ap (map (λ word. word.now)) (nil_from_length c.args.words.now c.in-None.ensures.cases))) c.in_ok-no_command-in-None.ensures
