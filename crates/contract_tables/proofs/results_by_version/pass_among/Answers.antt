use Rattle.std.{specs.{List.Sorted.{IsBinarySearchResult}, Ordering.{nat_cmp}}, proofs.Common.{rules, refl, Ok, Err, false}}
use Rattle.std.proofs.lemmas.List.Sorted.{answers_always}
use Rattle.contract_tables.{specs.declared.version_results.ContentPass.{ContentPass}, proofs.Rising.{IsBinarySearchResult-Ok, IsBinarySearchResult-Err}}
use Rattle.table_access.proofs.{Members.{has_contains}, ReadLemmas.{get_or-has}}
use Rattle.contract_tables.proofs.results_by_version.pass_among.Goals as goal

-- the closure gives a result's number
pub returns-in-Ok : goal.returns-in-Ok
returns-in-Ok c =
    let passes = c.args.passes.now in
    let at = c.in-Ok.at in
    let n = c.args.number in
    let found : IsBinarySearchResult (λ y. nat_cmp y.result n) passes (Ok at) = c.in-Ok.ensures.position (λ x. x.result) (answers_always _ _ _ (λ f a r g called. search rules)) in
    let none : ContentPass = record { content = 0; result = 0; pass = false } in
    let here = has_contains passes _ (get_or-has passes at none c.in-Ok.ensures.bound) in
    record { some = (_, here, IsBinarySearchResult-Ok (λ x. x.result) n passes at none found, refl); none = λ up. tt }

pub returns-in-Err : goal.returns-in-Err
returns-in-Err c =
    let passes = c.args.passes.now in
    let n = c.args.number in
    let past : IsBinarySearchResult (λ y. nat_cmp y.result n) passes (Err c.in-Err.field-0) = c.in-Err.ensures.position (λ x. x.result) (answers_always _ _ _ (λ f a r g called. search rules)) in
    record { some = tt; none = λ up returned. IsBinarySearchResult-Err (λ x. x.result) n passes c.in-Err.field-0 past up returned.0 returned.1 returned.2 }
