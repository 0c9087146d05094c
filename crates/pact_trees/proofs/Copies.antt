-- Trees beside the JSON values that they are copies of.
use Rattle.std.specs.{BTreeMap.{insert_entry}, Ordering.{match_ordering}}
use Rattle.std.proofs.Common.{◌≡◌, List, [], ◌∷◌, ◌++◌, length, Bool, true, false, ◌||◌, Result, Ok, Err, OnErr, Some, IsSome, ℤ, pos, negsuc, String, Global, Ordering, Less, Equal, Greater, string_bytes, string_cmp, refl, ◌∙◌, arith}
use Rattle.std.proofs.lemmas.Int.{ints}
use Rattle.serde_json.specs.{Data.{array, object, Num, unsigned, negative, float, put}, Find.{as_integer, is_float, of_integer}, Number.{num_of, is_valid}}
use Rattle.serde_json.specs.{Written.{has_float, members_have_float}, View.{view, items_view, members_view}, declared.value.Value.{Value}}
use Rattle.serde_json.{specs.{declared.number.N.{N}, declared.number.N.TheVariants.{PosInt, NegInt, Float}}, proofs.Views.{Entry as Member}}
use Rattle.pact_trees.specs.{Trees.{data_of, members_data, has_parts}, declared.tree.Tree.{Tree}}

abbrev pub Entry : Type 0
Entry = String Global × Tree

members_data-match_ordering : (o : Ordering) (a b c : List Entry) → members_data (match_ordering o a b c) ≡ match_ordering o (members_data a) (members_data b) (members_data c)
members_data-match_ordering Less a b c = refl
members_data-match_ordering Equal a b c = refl
members_data-match_ordering Greater a b c = refl

-- a tree that is inserted at a key is put there in the object
pub members_data-insert_entry : (es : List Entry) (k : String Global) (t : Tree) → members_data (insert_entry string_cmp es k t) ≡ put (string_bytes k) (data_of t) (members_data es)
members_data-insert_entry [] k t = refl
members_data-insert_entry (e ∷ es) k t = members_data-match_ordering (string_cmp k e.0) _ _ _ ∙ rw (members_data-insert_entry es k t)

or-false_right : (a b : Bool) → (a || b) ≡ false → b ≡ false
or-false_right true b h = cc
or-false_right false b h = h

-- those after a member have no fraction either
pub members_have_float-tail : (e : Member) (es : List Member) → members_have_float (members_view (e ∷ es)) ≡ false → members_have_float (members_view es) ≡ false
members_have_float-tail e es h = or-false_right (has_float (view e.1)) _ h

-- a number without a fraction is a whole one
pub as_integer-is_some : (n : Num) → is_float n ≡ false → IsSome (as_integer n)
as_integer-is_some (unsigned n) h = refl
as_integer-is_some (negative z) h = refl
as_integer-is_some (float x) h = cc

-- and its value says which number it is
pub of_integer-as_integer : (n : N) (z : ℤ) → is_valid n ≡ true → as_integer (num_of n) ≡ Some z → of_integer z ≡ num_of n
of_integer-as_integer (PosInt n) z v h = let e : z ≡ pos n = cc in rw e refl
of_integer-as_integer (NegInt (pos n)) z v h = absurd (omega (arith, ints))
of_integer-as_integer (NegInt (negsuc n)) z v h = let e : z ≡ negsuc n = cc in rw e refl
of_integer-as_integer (Float x) z v h = cc

-- there is something to copy: an item of a list that isn't empty, or a member
pub has_parts-items : (vs : List Value) → (length vs ≡ 0 → ⊥) → has_parts (array (items_view vs)) ≡ true
has_parts-items [] h = absurd (h refl)
has_parts-items (v ∷ vs) h = refl

pub has_parts-members : (done : List Member) {e : Member} {left rest es : List Member} → es ≡ done ++ rest → rest ≡ e ∷ left → has_parts (object (members_view es)) ≡ true
has_parts-members [] is next = rw (is, next) refl
has_parts-members (d ∷ done) is next = rw is refl

-- a fact of any failure
pub OnErr-any_fact : {T E : Type 0} (r : Result T E) (P : Type 0) → P → OnErr r P
OnErr-any_fact (Ok x) P p = tt
OnErr-any_fact (Err e) P p = p
