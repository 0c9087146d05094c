-- When an actual value fits an expected one: the entry that is chosen at a location says what is asked there, and
-- without one the two are alike (how entries are chosen: Pact Specification, version 3; what an entry asks of nested
-- values: this project's own choice).
use Rattle.std.specs.Prelude.{◌≡◌, ◌⊎◌, ◌==◌, ℕ, Bool, List, [], ◌∷◌, ◌++◌, length, Option, Some, None, IsTrue, option_and_then, slice_get}
use Rattle.pact_paths.specs.Paths.{key, Location}
use Rattle.pact_paths.specs.Paths as paths
use Rattle.serde_json.specs.Data.{Data, array, object, Members, no_members, member}
use Rattle.pact_rules.specs.Rules.{Rules, BodyRule}
use Rattle.pact_rules.specs.Choice.{IsChoice}
use Rattle.pact_rules.specs.Matching.{are_alike, entry_holds}
use Rattle.serde_json.specs.Find.{get_member, get_item}

-- the rule that is chosen at a location, or none if none is chosen
abbrev pub IsRuleFor : Rules → Location → Option BodyRule → Type 0
IsRuleFor rules at rule =
    (choice : Option ℕ) × IsChoice rules.body at choice × (rule ≡ option_and_then (slice_get rules.body) choice)

-- the location is the chosen path's own place if the path has as many tokens as the location has steps
abbrev pub is_own_place : BodyRule → Location → Bool
is_own_place rule at = length rule.path == length at

-- what is asked at a location itself: the chosen entry holds, or without one the two are alike
abbrev pub MeetsRule : Option BodyRule → Location → Data → Data → Type 0
MeetsRule None at x y = IsTrue (are_alike x y)
MeetsRule (Some rule) at x y = IsTrue (entry_holds rule.entry x y (is_own_place rule at))

abbrev pub MeetsHere : Rules → Location → Data → Data → Type 0
MeetsHere rules at x y = (rule : Option BodyRule) × IsRuleFor rules at rule × MeetsRule rule at x y

-- the item at an index of a list
abbrev pub HasItem : Data → ℕ → Data → Type 0
HasItem (array ts) i t = get_item i ts ≡ Some t
HasItem _ i t = ⊥

-- one of the members, with its value
abbrev pub IsMember : Members → List ℕ → Data → Type 0
IsMember no_members k t = ⊥
IsMember (member l u fs) k t = ((l ≡ k) × (u ≡ t)) ⊎ IsMember fs k t

-- an object with this member
abbrev pub HasMember : Data → List ℕ → Data → Type 0
HasMember (object fs) k t = IsMember fs k t
HasMember _ k t = ⊥

-- an object with this value under the key
abbrev pub Expects : Data → List ℕ → Data → Type 0
Expects (object fs) k t = get_member k fs ≡ Some t
Expects _ k t = ⊥

abbrev pub IsObject : Data → Type 0
IsObject (object fs) = Unit {0}
IsObject _ = ⊥

-- what an item at this index is compared with: the example's item there, or its first if the example is shorter
abbrev pub IsExample : Data → ℕ → Data → Type 0
IsExample x i e = HasItem x i e ⊎ (((t : Data) → ¬ (HasItem x i t)) × HasItem x 0 e)

-- the two meet here; if both are lists, each actual item fits its example; if both are objects, each expected
-- key is there, and its value fits
pub data Fits (rules : Rules) : Location → Data → Data → Type 0 where
  fitting : (at : Location) (x y : Data) → MeetsHere rules at x y
      → ((i : ℕ) (e t : Data) → IsExample x i e → HasItem y i t → Fits rules (at ++ paths.item i ∷ []) e t)
      → ((k : List ℕ) (e : Data) → Expects x k e → IsObject y → (t : Data) × HasMember y k t)
      → ((k : List ℕ) (e t : Data) → Expects x k e → HasMember y k t → Fits rules (at ++ key k ∷ []) e t)
      → Fits rules at x y
