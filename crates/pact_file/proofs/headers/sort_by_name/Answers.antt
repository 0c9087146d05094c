use Rattle.std.{specs.Ordering.{is_lt}, proofs.{Common.{rules}, lemmas.List.Sorted.{ranks_by, answers_always}}}
use Rattle.pact_file.{specs.Pact.{name_cmp}, proofs.HeaderSets.{name_cmp-total}}
use Rattle.pact_file.proofs.headers.sort_by_name.Goals as goal

pub returns-clause-sorted : goal.returns-clause-sorted
returns-clause-sorted c = c.sort_unstable_by.ensures.sorted (λ x y. is_lt (name_cmp x y)) (ranks_by name_cmp-total (λ h. h)) (answers_always _ _ _ (λ f a r g called. search rules))
