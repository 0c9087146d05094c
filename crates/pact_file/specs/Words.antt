-- The texts of faults: a number, and where it helps a place (this project's own choice).
use Rattle.std.specs.Prelude.{ℕ, List, [], ◌++◌, codes, decimal}
use Rattle.pact_rules.specs.declared.rule_fault.RuleFault.{RuleFault}
use Rattle.pact_rules.specs.declared.rule_fault.RuleFault.TheVariants as rule_fault
use Rattle.pact_trees.specs.declared.check.NoTree.{NoTree}
use Rattle.pact_trees.specs.declared.check.NoTree.TheVariants as no_tree
use Rattle.pact_file.specs.declared.fault.PactFault.{PactFault}
use Rattle.pact_file.specs.declared.fault.PactFault.TheVariants.{TooLong, NotJson, Shape, Version, Messages, Tree, Rules, SameInteraction, TooMany, SelfContract, Memory}
use Rattle.pact_file.specs.declared.fault.Place.{Place}
use Rattle.pact_file.specs.declared.fault.Place.TheVariants.{File, Consumer, ConsumerName, Provider, ProviderName, Interactions, Interaction}
use Rattle.pact_file.specs.declared.fault.TextParts.{TextParts}
use Rattle.pact_file.specs.declared.fault.TextParts.TheVariants.{Plain, Numbered}
use Rattle.pact_file.specs.declared.fault.Part.{Part}
use Rattle.pact_file.specs.declared.fault.Part.TheVariants.{Whole, Description, States, Request, Response, Status, Headers}

abbrev pub parts_text : TextParts → List ℕ
parts_text (Plain text) = text.now
parts_text (Numbered front number following end) = front.now ++ (decimal number ++ (following.now ++ end.now))

-- a part of an interaction or of a recorded reply: nothing of it as a whole
abbrev pub part_text : Part → List ℕ
part_text Whole = []
part_text Description = codes ".description"
part_text States = codes ".providerStates"
part_text Request = codes ".request"
part_text Response = codes ".response"
part_text Status = codes ".status"
part_text Headers = codes ".headers"

abbrev pub place_text : Place → List ℕ
place_text File = codes "file"
place_text Consumer = codes "consumer"
place_text ConsumerName = codes "consumer.name"
place_text Provider = codes "provider"
place_text ProviderName = codes "provider.name"
place_text Interactions = codes "interactions"
place_text (Interaction i part) = codes "interactions[" ++ (decimal i ++ (codes "]" ++ part_text part))

abbrev pub tree_text : NoTree → List ℕ
tree_text no_tree.NotWhole = codes "6.1"
tree_text no_tree.TooDeep = codes "6.2"

abbrev pub rule_number : RuleFault → List ℕ
rule_number rule_fault.Form = codes "1"
rule_number rule_fault.OldRules = codes "2"
rule_number rule_fault.BadPath = codes "3"
rule_number rule_fault.SamePathTwice = codes "4"
rule_number (rule_fault.Unsupported name) = codes "5"
rule_number rule_fault.BadBound = codes "6"
rule_number rule_fault.Pattern = codes "7"
rule_number rule_fault.BadCombine = codes "8"
rule_number rule_fault.Memory = codes "9"

-- the name of what isn't supported, after a space
abbrev pub rule_name : RuleFault → List ℕ
rule_name (rule_fault.Unsupported name) = codes " " ++ name
rule_name fault = []

-- the fault's number, and what follows it
abbrev pub number_text : PactFault → List ℕ
number_text TooLong = codes "1"
number_text NotJson = codes "2"
number_text (Shape place) = codes "3 " ++ place_text place
number_text Version = codes "4"
number_text Messages = codes "5"
number_text (Tree fault) = tree_text fault
number_text (Rules i fault) =
    codes "7." ++ (rule_number fault ++ (codes " interactions[" ++ (decimal i ++ (codes "]" ++ rule_name fault))))
number_text SameInteraction = codes "8"
number_text TooMany = codes "9"
number_text SelfContract = codes "10"
number_text Memory = codes "11"

-- `pact 3 interactions[0].status`, `pact 7.5 interactions[0] decimal`; out of memory is `memory`
abbrev pub fault_text : PactFault → List ℕ
fault_text Memory = codes "memory"
fault_text fault = codes "pact " ++ number_text fault
