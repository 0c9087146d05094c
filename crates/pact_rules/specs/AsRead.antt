-- For private clauses: the value that is read in place of a tree. A table has numbers only as bounds, so each one that
-- is none is -1 there.
use Rattle.std.specs.Prelude.{negsuc, Option, Some, None, ℕ}
use Rattle.serde_json.specs.Data.{Num, unsigned, negative, Data, null, boolean, number, string, array, object, Items, no_items, item, Members, no_members, member}
use Rattle.pact_rules.specs.RuleReading.{as_bound}

abbrev pub bound_or_less : Option ℕ → Num
bound_or_less (Some n) = unsigned n
bound_or_less None = negative (negsuc 0)

abbrev mutual
  pub as_read : Data → Data
  as_read null = null
  as_read (boolean b) = boolean b
  as_read (number n) = number (bound_or_less (as_bound n))
  as_read (string s) = string s
  as_read (array ds) = array (items_as_read ds)
  as_read (object ms) = object (members_as_read ms)

  pub items_as_read : Items → Items
  items_as_read no_items = no_items
  items_as_read (item d ds) = item (as_read d) (items_as_read ds)

  pub members_as_read : Members → Members
  members_as_read no_members = no_members
  members_as_read (member k d ms) = member k (as_read d) (members_as_read ms)
