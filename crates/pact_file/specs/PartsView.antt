-- For private clauses: the parts of an interaction as the code holds them, and the faults of its rules as those of a
-- pact.
use Rattle.std.specs.Prelude.{ℕ, string_bytes}
use Rattle.serde_json.specs.View.{view}
use Rattle.pact_rules.specs.declared.rule_fault.RuleFault.{RuleFault}
use Rattle.pact_rules.specs.declared.rule_fault.RuleFault.TheVariants as rule_fault
use Rattle.pact_file.specs.Pact.{Interaction, interaction_with}
use Rattle.pact_file.specs.declared.fault.PactFault.{PactFault}
use Rattle.pact_file.specs.declared.fault.PactFault.TheVariants.{Rules, Memory}
use Rattle.pact_file.specs.declared.interaction.Parts.{Parts}

abbrev pub parts_view : Parts → Interaction
parts_view p = interaction_with (string_bytes p.description) p.states.items (view p.request.now) (view p.response.now)

-- no memory is the whole call's own fault
abbrev pub as_pact_fault : ℕ → RuleFault → PactFault
as_pact_fault i rule_fault.Memory = Memory
as_pact_fault i fault = Rules i fault
