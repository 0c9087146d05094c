-- For private clauses: the parts of a reply as the code holds them, and the faults of matching as those of a check.
use Rattle.std.specs.Prelude.{string_bytes}
use Rattle.serde_json.specs.View.{view}
use Rattle.pact_rules.specs.declared.matching.MatchFault.{MatchFault}
use Rattle.pact_rules.specs.declared.matching.MatchFault.TheVariants as match_fault
use Rattle.reply_check.specs.Recorded.{Reply, reply_with}
use Rattle.reply_check.specs.declared.fault.CheckFault.{CheckFault}
use Rattle.reply_check.specs.declared.fault.CheckFault.TheVariants.{Pattern, Memory}
use Rattle.reply_check.specs.declared.parts.Parts.{Parts}

abbrev pub as_check_fault : MatchFault → CheckFault
as_check_fault match_fault.Memory = Memory
as_check_fault match_fault.Pattern = Pattern

abbrev pub parts_view : Parts → Reply
parts_view p = reply_with (string_bytes p.description) p.states.items (view p.response)
