-- Reading values one after the other, as a loop does.
use Rattle.std.proofs.Common.{◌≡◌, ℕ, ◌+◌, ◌<◌, List, [], ◌∷◌, ◌++◌, map, length, get_or, drop, Option, Some, None, option_map, refl, sym, ap, ◌∙◌, append_assoc, append-nil}
use Rattle.std.proofs.lemmas.List.{drop_more}
use Rattle.pact_file.specs.Parts.{all_of, listed}
use Rattle.serde_json.specs.{View.{view, items_view}, declared.value.Value.{Value}}

pub listed_view : (vs : List Value) → listed (items_view vs) ≡ map view vs
listed_view [] = refl
listed_view (v ∷ vs) = ap (λ ds. view v ∷ ds) (listed_view vs)

-- what is left from a place on
pub drop-at : {A : Type 0} (xs : List A) (i : ℕ) (x : A) → i < length xs → x ≡ get_or xs i x → drop i xs ≡ x ∷ drop (i + 1) xs
drop-at xs i x lt is = drop_more xs i x lt ∙ ap (λ y. y ∷ drop (i + 1) xs) (sym is)

-- what was read before, and what is still read
abbrev pub with_front : {B : Type 0} → List B → Option (List B) → Option (List B)
with_front front read = option_map (λ xs. front ++ xs) read

with_front-push : {B : Type 0} (front : List B) (b : B) (read : Option (List B)) → with_front front (option_map (λ bs. b ∷ bs) read) ≡ with_front (front ++ b ∷ []) read
with_front-push front b (Some bs) = ap Some (sym (append_assoc front (b ∷ []) bs))
with_front-push front b None = refl

pub all_of-goes_on : {A B : Type 0} (f : A → Option B) (front : List B) (left : List A) (x : A) (more : List A) (b : B) (total : Option (List B))
    → left ≡ x ∷ more → f x ≡ Some b → with_front front (all_of f left) ≡ total → with_front (front ++ b ∷ []) (all_of f more) ≡ total
unfolding all_of
all_of-goes_on f front left x more b total is h so_far =
    let one : with_front front (all_of f left) ≡ with_front (front ++ b ∷ []) (all_of f more) = rw (is, h) (with_front-push front b (all_of f more)) in
    sym one ∙ so_far

pub all_of-ends : {A B : Type 0} (f : A → Option B) (front : List B) (left : List A) (x : A) (more : List A) (total : Option (List B))
    → left ≡ x ∷ more → f x ≡ None → with_front front (all_of f left) ≡ total → None ≡ total
unfolding all_of
all_of-ends f front left x more total is h so_far =
    let one : with_front front (all_of f left) ≡ None = rw (is, h) refl in
    sym one ∙ so_far

pub all_of-done : {A B : Type 0} (f : A → Option B) (front : List B) (left : List A) (total : Option (List B))
    → left ≡ [] → with_front front (all_of f left) ≡ total → Some front ≡ total
unfolding all_of
all_of-done f front left total is so_far =
    let one : with_front front (all_of f left) ≡ Some front = rw is (ap Some (append-nil front)) in
    sym one ∙ so_far
