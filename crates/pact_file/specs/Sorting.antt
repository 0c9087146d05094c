-- For private clauses: inserting one after another into a list whose keys rise.
use Rattle.std.specs.Prelude.{◌≡◌, ◌≤◌, ◌++◌, ℕ, length, take, drop, List, [], ◌∷◌, Bool, Option, Some, None, option_map, option_and_then, if◌then◌else◌}
use Rattle.std.specs.Ordering.{match_ordering}
use Rattle.std.specs.declared.cmp.Ordering.{Ordering}
use Rattle.std.specs.Str.{bytes_eq}
use Rattle.serde_json.specs.Written.{compact_text}
use Rattle.pact_file.specs.Pact.{Interaction, interaction_data, key_cmp}

-- one of a key that is there is kept once, if it is the same
unfoldable pub insert_sorted : {A : Type 0} → (A → A → Ordering) → (A → A → Bool) → A → List A → Option (List A)
insert_sorted cmp same x [] = Some (x ∷ [])
insert_sorted cmp same x (y ∷ ys) =
    match_ordering (cmp x y) (Some (x ∷ y ∷ ys)) (if same x y then Some (y ∷ ys) else None)
    (option_map (λ more. y ∷ more) (insert_sorted cmp same x ys))

unfoldable pub insert_all_sorted : {A : Type 0} → (A → A → Ordering) → (A → A → Bool) → List A → List A
    → Option (List A)
insert_all_sorted cmp same list [] = Some list
insert_all_sorted cmp same list (x ∷ xs) =
    option_and_then (λ more. insert_all_sorted cmp same more xs) (insert_sorted cmp same x list)

abbrev pub same_text : Interaction → Interaction → Bool
same_text x y = bytes_eq (compact_text (interaction_data x)) (compact_text (interaction_data y))

-- the list with the interaction in its place by key, once if it is there; none if a different one has its key
abbrev pub with_interaction : Interaction → List Interaction → Option (List Interaction)
with_interaction new list = insert_sorted key_cmp same_text new list

-- it is the list with the new one inserted at this index
abbrev pub IsInsertedAt : {A : Type 0} → A → List A → Option (List A) → ℕ → Type 0
IsInsertedAt new list inserted at = (at ≤ length list) × (inserted ≡ Some (take at list ++ new ∷ drop at list))
