-- How the logic stores JSON data: as the list of its parts, each after what it holds.
use Rattle.std.specs.Prelude.{◌≡◌, ◌⊎◌, ℕ, ◌==◌, ℤ, Bool, Float, List, [], ◌∷◌, cond, refl}
use Rattle.std.specs.Coded.{Coded, code_by, coded_ℕ, coded_ℤ, coded_bool, coded_list, coded⊎}
use Rattle.std.proofs.Common.{inl, inr, ap, ◌∙◌}
use Rattle.serde_json.specs.Data as json
use base.Stored.{coded_float}

pub data Part : Type 0 where
  null : Part
  boolean : Bool → Part
  unsigned : ℕ → Part
  negative : ℤ → Part
  float : Float → Part
  string : List ℕ → Part
  array : Part
  object : Part
  no_items : Part
  item : Part
  no_members : Part
  member : List ℕ → Part

-- ---- a part as numbers and texts

abbrev Stored : Type 0
Stored = ℕ ⊎ (Bool ⊎ (ℕ ⊎ (ℤ ⊎ (Float ⊎ (List ℕ ⊎ List ℕ)))))

abbrev to_stored : Part → Stored
to_stored null = inl 0
to_stored (boolean b) = inr (inl b)
to_stored (unsigned n) = inr (inr (inl n))
to_stored (negative z) = inr (inr (inr (inl z)))
to_stored (float x) = inr (inr (inr (inr (inl x))))
to_stored (string s) = inr (inr (inr (inr (inr (inl s)))))
to_stored array = inl 1
to_stored object = inl 2
to_stored no_items = inl 3
to_stored item = inl 4
to_stored no_members = inl 5
to_stored (member k) = inr (inr (inr (inr (inr (inr k)))))

abbrev by_number : ℕ → Part
by_number n = cond (n == 0) null (cond (n == 1) array (cond (n == 2) object (cond (n == 3) no_items (cond (n == 4) item no_members))))

abbrev from_stored : Stored → Part
from_stored (inl n) = by_number n
from_stored (inr (inl b)) = boolean b
from_stored (inr (inr (inl n))) = unsigned n
from_stored (inr (inr (inr (inl z)))) = negative z
from_stored (inr (inr (inr (inr (inl x))))) = float x
from_stored (inr (inr (inr (inr (inr (inl s)))))) = string s
from_stored (inr (inr (inr (inr (inr (inr k)))))) = member k

pub from_stored-to_stored : (p : Part) → from_stored (to_stored p) ≡ p
from_stored-to_stored null = refl
from_stored-to_stored p = refl

abbrev part_code : Coded Part
part_code =
    code_by Stored (coded⊎ coded_ℕ (coded⊎ coded_bool (coded⊎ coded_ℕ (coded⊎ coded_ℤ (coded⊎ coded_float (coded⊎ (coded_list coded_ℕ) (coded_list coded_ℕ)))))))
    to_stored from_stored from_stored-to_stored

-- ---- data as parts

abbrev number_part : json.Num → Part
number_part (json.unsigned n) = unsigned n
number_part (json.negative z) = negative z
number_part (json.float x) = float x

abbrev mutual
  parts : json.Data → List Part → List Part
  parts json.null rest = null ∷ rest
  parts (json.boolean b) rest = boolean b ∷ rest
  parts (json.number n) rest = number_part n ∷ rest
  parts (json.string s) rest = string s ∷ rest
  parts (json.array ds) rest = items_parts ds (array ∷ rest)
  parts (json.object ms) rest = members_parts ms (object ∷ rest)

  items_parts : json.Items → List Part → List Part
  items_parts json.no_items rest = no_items ∷ rest
  items_parts (json.item d ds) rest = parts d (items_parts ds (item ∷ rest))

  members_parts : json.Members → List Part → List Part
  members_parts json.no_members rest = no_members ∷ rest
  members_parts (json.member k d ms) rest = parts d (members_parts ms (member k ∷ rest))

-- what is made of the parts so far
pub data Made : Type 0 where
  whole : json.Data → Made
  items : json.Items → Made
  members : json.Members → Made

abbrev of_items : List Made → List Made
of_items (items ds ∷ made) = whole (json.array ds) ∷ made
of_items made = made

abbrev of_members : List Made → List Made
of_members (members ms ∷ made) = whole (json.object ms) ∷ made
of_members made = made

abbrev one_item : List Made → List Made
one_item (items ds ∷ whole d ∷ made) = items (json.item d ds) ∷ made
one_item made = made

abbrev one_member : List ℕ → List Made → List Made
one_member k (members ms ∷ whole d ∷ made) = members (json.member k d ms) ∷ made
one_member k made = made

abbrev add : Part → List Made → List Made
add null made = whole json.null ∷ made
add (boolean b) made = whole (json.boolean b) ∷ made
add (unsigned n) made = whole (json.number (json.unsigned n)) ∷ made
add (negative z) made = whole (json.number (json.negative z)) ∷ made
add (float x) made = whole (json.number (json.float x)) ∷ made
add (string s) made = whole (json.string s) ∷ made
add array made = of_items made
add object made = of_members made
add no_items made = items json.no_items ∷ made
add item made = one_item made
add no_members made = members json.no_members ∷ made
add (member k) made = one_member k made

abbrev assembled : List Part → List Made → List Made
assembled [] made = made
assembled (p ∷ ps) made = assembled ps (add p made)

abbrev first : List Made → json.Data
first (whole d ∷ made) = d
first made = json.null

number_back : (n : json.Num) (rest : List Part) (made : List Made) → assembled (number_part n ∷ rest) made ≡ assembled rest (whole (json.number n) ∷ made)
number_back (json.unsigned n) rest made = refl
number_back n rest made = refl

mutual
  back : (d : json.Data) (rest : List Part) (made : List Made) → assembled (parts d rest) made ≡ assembled rest (whole d ∷ made)
  back (json.number n) rest made = number_back n rest made
  back (json.array ds) rest made = items_back ds (array ∷ rest) made
  back (json.object ms) rest made = members_back ms (object ∷ rest) made
  back d rest made = refl

  items_back : (ds : json.Items) (rest : List Part) (made : List Made) → assembled (items_parts ds rest) made ≡ assembled rest (items ds ∷ made)
  items_back json.no_items rest made = refl
  items_back (json.item d ds) rest made = back d (items_parts ds (item ∷ rest)) made ∙ items_back ds (item ∷ rest) (whole d ∷ made)

  members_back : (ms : json.Members) (rest : List Part) (made : List Made) → assembled (members_parts ms rest) made ≡ assembled rest (members ms ∷ made)
  members_back json.no_members rest made = refl
  members_back (json.member k d ms) rest made = back d (members_parts ms (member k ∷ rest)) made ∙ members_back ms (member k ∷ rest) (whole d ∷ made)

pub first-assembled : (d : json.Data) → first (assembled (parts d []) []) ≡ d
first-assembled d = ap first (back d [] [])

-- the code of JSON data
abbrev pub data_code : Coded json.Data
data_code = code_by (List Part) (coded_list part_code) (λ d. parts d []) (λ ps. first (assembled ps [])) first-assembled
