use Rattle.pact_file.{specs.{Pact.{Interaction, key_cmp}, Sorting.{same_text}}, proofs.OrderedSets.{key_cmp-total}}
use Rattle.pact_file.proofs.Searching.{IsRising-IsNonDecreasingBy, goes_between, meets}
use Rattle.std.proofs.{Common.{◌≡◌, Some, None, true, false, cond, refl, sym, ap, ◌∙◌, rules, arith}, lemmas.Fn.{always_returns_same}}
use Rattle.pact_file.proofs.order.index_of.Goals as goal

pub returns-then-is_same-clause-ok : goal.returns-then-is_same-clause-ok
returns-then-is_same-clause-ok c =
    let xs = c.args.list.now in
    let x = c.args.new.now in
    let y = c.index-list-place.result in
    let equal = c.in-Ok.ensures.position (λ (z : Interaction). key_cmp z x) (always_returns_same _ _ _ (λ a r g called. search rules)) y in
    let same : same_text x y ≡ true = sym c.is_same.ensures ∙ c.if-is_same.true in
    meets key_cmp key_cmp-total same_text x xs c.in-Ok.place y c.requires c.in-Ok.ensures.bound equal
    ∙ ap (λ z. cond (same_text x z) (Some xs) None) (sym c.index-list-place.is) ∙ ap (λ b. cond b (Some xs) None) same

pub returns-else-is_same-clause-err : goal.returns-else-is_same-clause-err
returns-else-is_same-clause-err c =
    let xs = c.args.list.now in
    let x = c.args.new.now in
    let y = c.index-list-place.result in
    let equal = c.in-Ok.ensures.position (λ (z : Interaction). key_cmp z x) (always_returns_same _ _ _ (λ a r g called. search rules)) y in
    let differs : same_text x y ≡ false = sym c.is_same.ensures ∙ c.if-is_same.false in (
      refl,
      meets key_cmp key_cmp-total same_text x xs c.in-Ok.place y c.requires c.in-Ok.ensures.bound equal
          ∙ ap (λ z. cond (same_text x z) (Some xs) None) (sym c.index-list-place.is) ∙ ap (λ b. cond b (Some xs) None) differs,
    )

pub returns-in-Err-clause-ok : goal.returns-in-Err-clause-ok
returns-in-Err-clause-ok c =
    let xs = c.args.list.now in
    let x = c.args.new.now in
    let split =
    c.in-Err.ensures.position (λ (z : Interaction). key_cmp z x) (always_returns_same _ _ _ (λ a r g called. search rules)) (IsRising-IsNonDecreasingBy key_cmp key_cmp-total xs x c.requires) in
    (c.in-Err.ensures.bound, goes_between key_cmp key_cmp-total same_text x xs c.in-Err.at c.in-Err.ensures.bound (λ k d b. split.0 k d (omega arith) b) (λ k d a b. split.1 k d a b))
