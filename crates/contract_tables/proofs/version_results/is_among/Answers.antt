use Rattle.std.proofs.Common.{◌∙◌}
use Rattle.contract_tables.proofs.Rising.{IsBinarySearchResult-is_ok}
use Rattle.contract_tables.proofs.version_results.is_among.Goals as goal

pub returns-clause-answers : goal.returns-clause-answers
returns-clause-answers c up = c.is_ok.ensures.value ∙ IsBinarySearchResult-is_ok (λ n. n) c.args.number c.args.numbers.now c.binary_search.result c.binary_search.ensures.bound c.binary_search.ensures.position up
