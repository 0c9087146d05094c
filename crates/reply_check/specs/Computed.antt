-- For private clauses: whether an actual value fits an expected one, computed from value to value as the code does it.
-- It is the relation of `Fitting`, as a truth value.
use Rattle.std.specs.Prelude.{option_and_then, slice_get, ℕ, suc, Bool, true, ◌&&◌, [], ◌∷◌, ◌++◌, Option, Some, None}
use Rattle.serde_json.specs.Data.{Data, array, object, Items, no_items, item, Members, no_members, member}
use Rattle.pact_paths.specs.Paths.{key, Location}
use Rattle.pact_paths.specs.Paths as paths
use Rattle.pact_rules.specs.Rules.{Rules, BodyRule}
use Rattle.pact_rules.specs.Choice.{chosen}
use Rattle.pact_rules.specs.Matching.{are_alike, has_keys_of, entry_holds}
use Rattle.reply_check.specs.Fitting.{is_own_place}
use Rattle.serde_json.specs.Find.{get_member, get_item}

-- the rule that is chosen at a location
abbrev pub rule_for : Rules → Location → Option BodyRule
rule_for rules at = option_and_then (slice_get rules.body) (chosen rules.body at)

-- the chosen rule's entry holds (the location is its own place if the path is as long); without a rule the two are
-- alike
abbrev pub meets_rule : Option BodyRule → Location → Data → Data → Bool
meets_rule None at x y = are_alike x y
meets_rule (Some r) at x y = entry_holds r.entry x y (is_own_place r at)

abbrev pub meets_here : Rules → Location → Data → Data → Bool
meets_here rules at x y = meets_rule (rule_for rules at) at x y

abbrev pub first_or : Items → Option Data → Option Data
first_or xs (Some t) = Some t
first_or xs None = get_item 0 xs

-- the item at an index, or else the first, if there is one
abbrev pub example : Items → ℕ → Option Data
example xs i = first_or xs (get_item i xs)

abbrev pub expected_items : Data → Items
expected_items (array xs) = xs
expected_items x = no_items

abbrev pub expected_members : Data → Members
expected_members (object fs) = fs
expected_members x = no_members

abbrev pub if_there : Option Data → (Data → Bool) → Bool
if_there None test = true
if_there (Some x) test = test x

-- the two meet; each item fits the expected one of its index, or else the first; each expected key is there and fits
abbrev mutual
  pub fits : Rules → Location → Data → Data → Bool
  fits rules at x (array ys) = meets_here rules at x (array ys) && items_fit rules at (expected_items x) 0 ys
  fits rules at x (object gs) =
      meets_here rules at x (object gs)
      && (has_keys_of (expected_members x) gs && members_fit rules at (expected_members x) gs)
  fits rules at x y = meets_here rules at x y

  pub items_fit : Rules → Location → Items → ℕ → Items → Bool
  items_fit rules at xs i no_items = true
  items_fit rules at xs i (item y ys) =
      if_there (example xs i) (λ x. fits rules (at ++ paths.item i ∷ []) x y) && items_fit rules at xs (suc i) ys

  pub members_fit : Rules → Location → Members → Members → Bool
  members_fit rules at fs no_members = true
  members_fit rules at fs (member k y gs) =
      if_there (get_member k fs) (λ x. fits rules (at ++ key k ∷ []) x y) && members_fit rules at fs gs
