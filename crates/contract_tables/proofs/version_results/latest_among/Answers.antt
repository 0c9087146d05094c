use Rattle.std.{specs.{List.Sorted.{IsBinarySearchResult}, Ordering.{nat_cmp}}, proofs.Common.{rules, Ok, Err, false, refl}}
use Rattle.std.proofs.lemmas.List.Sorted.{answers_always}
use Rattle.table_access.proofs.{Members.{has_contains}, ReadLemmas.{get_or-has}}
use Rattle.contract_tables.specs.declared.version_results.LatestResult.{LatestResult}
use Rattle.contract_tables.proofs.{Rising.{sorted, IsBinarySearchResult-Ok, IsBinarySearchResult-Err}, VersionResults.{latest-said_at, latest-None}}
use Rattle.contract_tables.proofs.version_results.latest_among.Goals as goal

-- the closure gives a result's content
pub returns-in-Ok : goal.returns-in-Ok
returns-in-Ok c =
    let results = c.args.results.now in
    let at = c.in-Ok.at in
    let by_content : IsBinarySearchResult (λ y. nat_cmp y.content c.args.content) results (Ok at) = c.in-Ok.ensures.position (λ x. x.content) (answers_always _ _ _ (λ f a r g called. search rules)) in
    let none : LatestResult = record { content = 0; result = 0; latest = record { pass = false; checked = false } } in
    let here = has_contains results _ (get_or-has results at none c.in-Ok.ensures.bound) in
    let same = IsBinarySearchResult-Ok (λ x. x.content) c.args.content results at none by_content in
    record { answers = λ s v listed. latest-said_at s v results listed c.args.content _ here same; found = (_, here, same, refl) }

pub returns-in-Err-clause-answers : goal.returns-in-Err-clause-answers
returns-in-Err-clause-answers c s v listed =
    let results = c.args.results.now in
    let by_content : IsBinarySearchResult (λ y. nat_cmp y.content c.args.content) results (Err c.in-Err.field-0) = c.in-Err.ensures.position (λ x. x.content) (answers_always _ _ _ (λ f a r g called. search rules)) in
    latest-None s v results listed c.args.content (IsBinarySearchResult-Err (λ x. x.content) c.args.content results c.in-Err.field-0 by_content (sorted (λ x. x.content) results listed.sorted))
