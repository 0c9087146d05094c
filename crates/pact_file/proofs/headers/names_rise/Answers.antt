use Rattle.std.{specs.Ordering.{is_lt}, proofs.{Common.{rules}, lemmas.List.Sorted.{answers_always}}}
use Rattle.pact_file.specs.Pact.{name_cmp}
use Rattle.pact_file.proofs.headers.names_rise.Goals as goal

pub returns : goal.returns
returns c = c.is_sorted_by.ensures.cases (λ x y. is_lt (name_cmp x y)) (answers_always _ _ _ (λ f a r g called. search rules))
