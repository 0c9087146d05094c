-- Rows that are read one after another.
use Rattle.std.proofs.Common.{◌≡◌, ℕ, zero, suc, ◌+◌, List, [], ◌∷◌, ◌++◌, take, length, refl, ap, sym, subst, arith, get_or, inl, inr, ◌<◌, pos, Option, Some, None, slice_get, option_map, ◌∙◌}
use Rattle.std.proofs.lemmas.List.{take_more}
use Rattle.sqlite_rules.specs.Lists.{Has}
use Rattle.sqlite.specs.{declared.types.Value.TheVariants.{Int}, Order.{Row, column}, Edit.{id_in}}
use Rattle.table_access.specs.{Reading.{AreRead}, Sound.{whole}}

-- one more
pub AreRead-push : {A B : Type 0} (reads : A → B → Type 0) (rows : List A) (items : List B) (row : A) (item : B) → AreRead reads rows items → reads row item → AreRead reads (rows ++ row ∷ []) (items ++ item ∷ [])
AreRead-push reads [] [] row item all here = (here, tt)
AreRead-push reads (r ∷ rows) (x ∷ items) row item all here = (all.0, AreRead-push reads rows items row item all.1 here)
AreRead-push reads _ _ row item all here = absurd all

-- an item at a place of a list is in it
pub get_or-has : {X : Type 0} (xs : List X) (at : ℕ) (d : X) → at < length xs → Has xs (get_or xs at d)
get_or-has [] at d low = absurd (omega arith)
get_or-has (x ∷ xs) zero d low = inl refl
get_or-has (x ∷ xs) (suc at) d low = inr (get_or-has xs at d (omega arith))

-- one turn of a loop that reads
pub AreRead-one_turn : {A B : Type 0} (reads : A → B → Type 0) (rows : List A) (items : List B) (at : ℕ) (row : A) (item : B) → at < length rows → row ≡ get_or rows at row → AreRead reads (take at rows) items → reads row item
    → AreRead reads (take (at + 1) rows) (items ++ item ∷ [])
AreRead-one_turn reads rows items at row item low is all here =
    subst (λ xs. AreRead reads xs (items ++ item ∷ [])) (sym (take_more rows at row low)) (AreRead-push reads (take at rows) items (get_or rows at row) item all (subst (λ r. reads r item) is here))

pub option_map-compose : {X Y Z : Type 0} (g : Y → Z) (f : X → Y) (o : Option X) → option_map g (option_map f o) ≡ option_map (λ x. g (f x)) o
option_map-compose g f None = refl
option_map-compose g f (Some x) = refl

pub option_map-whole_pos : (o : Option ℕ) → option_map whole (option_map pos o) ≡ o
option_map-whole_pos None = refl
option_map-whole_pos (Some n) = refl

-- numbers that are the same whole numbers are the same
pub option_map-pos_injective : (a b : Option ℕ) → option_map pos a ≡ option_map pos b → a ≡ b
option_map-pos_injective a b e = sym (option_map-whole_pos a) ∙ ap (option_map whole) e ∙ option_map-whole_pos b

-- what `find_number` found, as a whole number
pub number_found : (found : Option ℕ) (rows : List Row) → option_map (λ n. Int (pos n)) found ≡ option_map (λ r. column r 0) (slice_get rows 0) → option_map pos found ≡ option_map (λ r. id_in (column r 0)) (slice_get rows 0)
number_found found rows is = sym (option_map-compose id_in (λ n. Int (pos n)) found) ∙ ap (option_map id_in) is ∙ option_map-compose id_in (λ r. column r 0) (slice_get rows 0)
