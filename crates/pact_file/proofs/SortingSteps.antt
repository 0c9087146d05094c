-- Where one is inserted in a list whose keys rise, as the loops go.
use Rattle.std.proofs.Common.{◌≡◌, List, [], ◌∷◌, Bool, Ordering, Option, Some, None, refl, sym, ◌∙◌}
use Rattle.pact_file.specs.Sorting.{insert_sorted, insert_all_sorted}

module _ {A : Type 0} (cmp : A → A → Ordering) (same : A → A → Bool) where
  pub insert_all_sorted-goes_on : (list left : List A) (x : A) (more new : List A) (total : Option (List A))
      → left ≡ x ∷ more → insert_sorted cmp same x list ≡ Some new → insert_all_sorted cmp same list left ≡ total → insert_all_sorted cmp same new more ≡ total
  unfolding insert_all_sorted
  insert_all_sorted-goes_on list left x more new total is h so_far =
      let one : insert_all_sorted cmp same list left ≡ insert_all_sorted cmp same new more = rw (is, h) refl in
      sym one ∙ so_far

  pub insert_all_sorted-ends : (list left : List A) (x : A) (more : List A) (total : Option (List A))
      → left ≡ x ∷ more → insert_sorted cmp same x list ≡ None → insert_all_sorted cmp same list left ≡ total → total ≡ None
  unfolding insert_all_sorted
  insert_all_sorted-ends list left x more total is h so_far =
      let one : insert_all_sorted cmp same list left ≡ None = rw (is, h) refl in
      sym so_far ∙ one

  pub insert_all_sorted-done : (list left : List A) (total : Option (List A)) → left ≡ [] → insert_all_sorted cmp same list left ≡ total → total ≡ Some list
  unfolding insert_all_sorted
  insert_all_sorted-done list left total is so_far =
      let one : insert_all_sorted cmp same list left ≡ Some list = rw is refl in
      sym so_far ∙ one
