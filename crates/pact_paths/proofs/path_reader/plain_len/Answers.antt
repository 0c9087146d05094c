use Rattle.std.proofs.{lemmas.Iterator.Search.{position_from_yields_List}, Common.{◌∙◌, ap, rules, tests, length, unwrap_or, Option, ℕ}}
use Rattle.std.proofs.lemmas.Iterator.{YieldsList-from_slice}
use Rattle.pact_paths.{specs.Spelling.{is_special}, proofs.PathLemmas.{position_or_len-unwrap_or}}
use Rattle.pact_paths.proofs.path_reader.plain_len.Goals as goal

pub returns-clause-value : goal.returns-clause-value
returns-clause-value c =
    let t = c.args.text.now in
    let found = position_from_yields_List is_special _ _ c.position.result c.position.ensures.ran (YieldsList-from_slice t cc) (λ x b q k. search (rules, tests)) in
    c.unwrap_or.ensures ∙ ap (λ (o : Option ℕ). unwrap_or o (length t)) found ∙ position_or_len-unwrap_or is_special t
