use Rattle.std.proofs.Common.{◌≡◌, IfOk, string_bytes, subst, rules}
use Rattle.pact_paths.{specs.Spelling.{IsPath, path_text}, proofs.ReadingLemmas.{path_text-reads_if_ok, path_text-own_if_ok}}
use Rattle.pact_paths.proofs.path.Path.text.Goals as goal

pub returns-clause-reading : goal.returns-clause-reading
returns-clause-reading c =
    let tokens = c.args.self.now in
    let path : IsPath tokens = subst IsPath c.self.view_is c.self.invariant in
    let canonical : IfOk c.text_of.result (λ s. string_bytes s ≡ path_text tokens) = search rules in
    path_text-reads_if_ok string_bytes c.text_of.result tokens path canonical

pub returns-clause-own : goal.returns-clause-own
returns-clause-own c =
    let tokens = c.args.self.now in
    let path : IsPath tokens = subst IsPath c.self.view_is c.self.invariant in
    let canonical : IfOk c.text_of.result (λ s. string_bytes s ≡ path_text tokens) = search rules in
    path_text-own_if_ok string_bytes c.text_of.result tokens path canonical
