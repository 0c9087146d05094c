-- The texts of faults: a number, and where it helps a place (this project's own choice).
use Rattle.std.specs.Prelude.{ℕ, List, ◌++◌, codes, decimal}
use Rattle.pact_file.specs.Words.{part_text}
use Rattle.pact_trees.specs.declared.check.NoTree.{NoTree}
use Rattle.pact_trees.specs.declared.check.NoTree.TheVariants as no_tree
use Rattle.reply_check.specs.declared.fault.RepliesFault.{RepliesFault}
use Rattle.reply_check.specs.declared.fault.RepliesFault.TheVariants as replies_fault
use Rattle.reply_check.specs.declared.fault.CheckFault.{CheckFault}
use Rattle.reply_check.specs.declared.fault.CheckFault.TheVariants as check_fault
use Rattle.reply_check.specs.declared.fault.Place.{Place}
use Rattle.reply_check.specs.declared.fault.Place.TheVariants.{File, Replies, Reply}

abbrev pub place_text : Place → List ℕ
place_text File = codes "file"
place_text Replies = codes "replies"
place_text (Reply i part) = codes "replies[" ++ (decimal i ++ (codes "]" ++ part_text part))

abbrev pub tree_text : NoTree → List ℕ
tree_text no_tree.NotWhole = codes "3.1"
tree_text no_tree.TooDeep = codes "3.2"

-- the fault's number, and what follows it
abbrev pub number_text : RepliesFault → List ℕ
number_text replies_fault.NotJson = codes "1"
number_text (replies_fault.Shape place) = codes "2 " ++ place_text place
number_text (replies_fault.Tree fault) = tree_text fault
number_text replies_fault.SameReplyTwice = codes "4"
number_text replies_fault.Memory = codes "5"

-- `replies 2 replies[1].status`; out of memory is `memory`
abbrev pub replies_text : RepliesFault → List ℕ
replies_text replies_fault.Memory = codes "memory"
replies_text fault = codes "replies " ++ number_text fault

-- `check 1` without the place, since it is no part of the text
abbrev pub check_text : CheckFault → List ℕ
check_text (check_fault.UnknownInteraction i) = codes "check 1"
check_text check_fault.Pattern = codes "check 2"
check_text check_fault.Memory = codes "memory"
