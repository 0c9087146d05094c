-- Which JSON value (RFC 8259) a tree is, in the words of `serde_json`.
use Rattle.std.specs.Prelude.{List, map, Bool, true, false, String, string_bytes}
use Rattle.std.specs.declared.alloc.Global.{Global}
use Rattle.serde_json.specs.Data.{Data, null, boolean, number, string, array, object, Items, no_items, item, Members, no_members, member}
use Rattle.serde_json.specs.Find.{of_integer}
use Rattle.serde_json.specs.View.{items_of, members_of}
use Rattle.pact_trees.specs.declared.check.NoTree.{NoTree}
use Rattle.pact_trees.specs.declared.check.NoTree.TheVariants as no_tree
use Rattle.pact_trees.specs.declared.tree.Tree.{Tree, fold-Tree}
use Rattle.pact_trees.specs.declared.tree.Tree.TheOpen.{Tree-F}
use Rattle.pact_trees.specs.declared.tree.TreeFault.{TreeFault}
use Rattle.pact_trees.specs.declared.tree.TreeFault.TheVariants.{NotWhole, TooDeep}

-- one level, if each tree inside is already seen as its data
abbrev pub level_data : Tree-F Data → Data
level_data Tree-F.Null = null
level_data (Tree-F.Truth b) = boolean b
level_data (Tree-F.Whole n) = number (of_integer n)
level_data (Tree-F.Text s) = string (string_bytes s)
level_data (Tree-F.List v) = array (items_of v.items)
level_data (Tree-F.Object m) = object (members_of m.entries)

-- the JSON value that a tree is
abbrev pub data_of : Tree → Data
data_of = fold-Tree Data level_data

abbrev pub items_data : List Tree → Items
items_data ts = items_of (map data_of ts)

abbrev pub members_data : List (String Global × Tree) → Members
members_data ms = members_of (map (λ m. (m.0, data_of m.1)) ms)

-- why a value is no tree, as a fault of making one
abbrev pub fault_of : NoTree → TreeFault
fault_of no_tree.NotWhole = NotWhole
fault_of no_tree.TooDeep = TooDeep

-- there is something to copy: a text, an item, a member
abbrev pub has_parts : Data → Bool
has_parts null = false
has_parts (boolean b) = false
has_parts (number n) = false
has_parts (string s) = true
has_parts (array no_items) = false
has_parts (array (item d ds)) = true
has_parts (object no_members) = false
has_parts (object (member k d ms)) = true
