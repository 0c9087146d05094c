-- Trees as the values that they are, level by level.
use Rattle.std.specs.{Cmp.Lexicographic.{slice_cmp}, Map.{lookup}, BTreeMap.{is_at}, Ordering.{match_ordering}}
use Rattle.std.proofs.Common.{◌≡◌, ℕ, List, [], ◌∷◌, suc, length, vec_len, Vec, eqb, Bool, true, false, ◌&&◌, Option, None, Some, option_map, is_some, cond, is_eq, String, Global, Ordering, Less, Equal, Greater, string_bytes, nat_cmp, rules, refl, sym, ap, ◌∙◌, arith}
use Rattle.serde_json.specs.{Data.{Data, array}, Events.{items_len}, Find.{get_member}}
use Rattle.pact_trees.specs.{Trees.{data_of, items_data, members_data}, declared.tree.Tree.{Tree, the_lemmas}}
use Rattle.pact_rules.specs.Matching.{equal_here, within, at_least, at_most}
use Rattle.pact_trees.specs.declared.tree.Tree as tree

abbrev pub Entry : Type 0
Entry = String Global × Tree

pub data-List : (v : Vec Tree Global) → data_of (tree.List v) ≡ array (items_data v.items)
data-List v = search (rules, the_lemmas)

-- ---- lists

items_len-items_data : (ts : List Tree) → items_len (items_data ts) ≡ length ts
items_len-items_data [] = refl
items_len-items_data (t ∷ ts) = ap suc (items_len-items_data ts)

-- the list that a vector of trees is has as many items as the vector has elements
len_data : (v : Vec Tree Global) → items_len (items_data v.items) ≡ vec_len v
len_data v = items_len-items_data v.items ∙ omega (arith, v.ok)

and_true : (b : Bool) → (b && true) ≡ b
and_true true = refl
and_true false = refl

pub equal_lists : (a b : Tree) (v w : Vec Tree Global) (m n : ℕ) → a ≡ tree.List v → b ≡ tree.List w → m ≡ vec_len v → n ≡ vec_len w → eqb m n ≡ equal_here (data_of a) (data_of b)
equal_lists a b v w m n ea eb em en =
    ap (λ k. eqb k n) em ∙ ap (eqb (vec_len v)) en
    ∙ sym (ap (λ x. equal_here x (data_of b)) (ap data_of ea ∙ data-List v) ∙ ap (equal_here (array (items_data v.items))) (ap data_of eb ∙ data-List w)
    ∙ and_true (eqb (items_len (items_data v.items)) (items_len (items_data w.items)))
    ∙ ap (λ k. eqb k (items_len (items_data w.items))) (len_data v) ∙ ap (eqb (vec_len v)) (len_data w))

pub within_trees : (min max : Option ℕ) (a b : Tree) (v w : Vec Tree Global) (n : ℕ) → a ≡ tree.List v → b ≡ tree.List w → n ≡ vec_len w → within min max (data_of a) (data_of b) ≡ (at_least min n && at_most max n)
within_trees min max a b v w n ea eb en =
    ap (λ x. within min max x (data_of b)) (ap data_of ea ∙ data-List v) ∙ ap (within min max (array (items_data v.items))) (ap data_of eb ∙ data-List w)
    ∙ ap (λ k. at_least min k && at_most max k) (len_data w ∙ sym en)

-- ---- objects

found_or : (o : Ordering) (t : Tree) (rest : Option Tree) (d : Option Data) → option_map data_of rest ≡ d → option_map data_of (cond (is_eq o) (Some t) rest) ≡ match_ordering o d (Some (data_of t)) d
found_or Less t rest d e = e
found_or Equal t rest d e = refl
found_or Greater t rest d e = e

data-lookup : (name : List ℕ) (es : List Entry) → option_map data_of (lookup (is_at (λ k. slice_cmp nat_cmp name (string_bytes k))) es) ≡ get_member name (members_data es)
data-lookup name [] = refl
data-lookup name (e ∷ es) = found_or (slice_cmp nat_cmp name (string_bytes e.0)) e.1 _ _ (data-lookup name es)

is_some-data : (o : Option Tree) → is_some (option_map data_of o) ≡ is_some o
is_some-data None = refl
is_some-data (Some t) = refl

-- whether there is a member of a key
pub has_key : (name key : List ℕ) (es : List Entry) (r : Bool) → name ≡ key → r ≡ is_some (lookup (is_at (λ k. slice_cmp nat_cmp name (string_bytes k))) es) → is_some (get_member key (members_data es)) ≡ r
has_key name key es r is e = ap (λ k. is_some (get_member k (members_data es))) (sym is) ∙ ap is_some (sym (data-lookup name es)) ∙ is_some-data _ ∙ sym e
