use Rattle.std.proofs.Common.{◌≡◌, ap, map, sym, subst, None, MatchOption}
use Rattle.command_line.{specs.Lines.{BeginsWithName, named_in}, proofs.LineLemmas.{BeginsWithName-command_at}}
use Rattle.command_line.proofs.names.named.Goals as goal

pub returns-in-Some : goal.returns-in-Some
returns-in-Some c =
    subst (λ ws. MatchOption c.named_by.result (named_in ws ≡ None) (BeginsWithName ws)) (sym (ap (map (λ word. word.now)) c.in-Some.ensures.cases.0))
    (BeginsWithName-command_at c.in-Some.word.now.now (map (λ word. word.now) c.in-Some.field-0-1.now) c.named_by.result c.named_by.ensures)
