-- the words of answers for rules, for what is missing, for what is taken, for kinds of faults and for
-- faults of form (this project's own choice)
use Rattle.std.specs.Prelude.{◌++◌, codes, Option, Some, None}
use Rattle.broker_core.specs.declared.policy.Rule.{Rule}
use Rattle.broker_core.specs.declared.policy.Rule.TheVariants.{KnownCaller, OfficeOnly, OwnerToPublish, OwnerToVerify, OwnerOrOfficeToRead, OwnerOrOfficeToAsk, OwnerWithGrant, KnownCallerToList}
use Rattle.broker_core.specs.declared.need.Kind.{Kind}
use Rattle.broker_core.specs.declared.need.Kind.TheVariants as kind
use Rattle.broker_core.specs.declared.answer.Missing.{Missing}
use Rattle.broker_core.specs.declared.answer.Missing.TheVariants as missing
use Rattle.broker_core.specs.declared.answer.Clash.{Clash}
use Rattle.broker_core.specs.declared.answer.Clash.TheVariants as clash
use Rattle.broker_core.specs.declared.command.FormFault.{FormFault}
use Rattle.broker_core.specs.declared.command.FormFault.TheVariants as fault
use Rattle.broker_core.specs.Text.{Text}

abbrev pub rule_text : Rule → Text
rule_text KnownCaller = codes "A1"
rule_text OfficeOnly = codes "A2"
rule_text OwnerToPublish = codes "A3"
rule_text OwnerToVerify = codes "A4"
rule_text OwnerOrOfficeToRead = codes "A5"
rule_text OwnerOrOfficeToAsk = codes "A6"
rule_text OwnerWithGrant = codes "A7"
rule_text KnownCallerToList = codes "A8"

abbrev pub kind_text : Kind → Text
kind_text kind.Absent = codes "absent"
kind_text kind.Missing = codes "missing"
kind_text kind.Failed = codes "failed"
kind_text kind.Claimed = codes "claimed"

abbrev pub missing_text : Missing → Text
missing_text missing.Team = codes "team"
missing_text missing.Pacticipant = codes "pacticipant"
missing_text missing.Environment = codes "environment"
missing_text missing.Version = codes "version"
missing_text missing.Contract = codes "contract"
missing_text missing.Grant = codes "grant"
missing_text missing.Deployed = codes "deployed"
missing_text missing.Released = codes "released"

abbrev pub clash_text : Clash → Text
clash_text clash.Name = codes "name"
clash_text clash.Token = codes "token"
clash_text clash.OtherContent = codes "other content"
clash_text clash.Run = codes "run"

-- the place of a fault in a pact file or in replies follows the word
abbrev pub fault_text : FormFault → Text
fault_text fault.Name = codes "name"
fault_text fault.Json = codes "json"
fault_text (fault.Field field) = codes "field " ++ field
fault_text (fault.Query key) = codes "query " ++ key
fault_text fault.Token = codes "token"
fault_text fault.Names = codes "names"
fault_text (fault.Pact place) = codes "pact " ++ place
fault_text (fault.Replies place) = codes "replies " ++ place
fault_text fault.UnknownReply = codes "check 1"

-- what a fault names: the field, the key or the place
abbrev pub named_in : FormFault → Option Text
named_in fault.Name = None
named_in fault.Json = None
named_in (fault.Field field) = Some field
named_in (fault.Query key) = Some key
named_in fault.Token = None
named_in fault.Names = None
named_in (fault.Pact place) = Some place
named_in (fault.Replies place) = Some place
named_in fault.UnknownReply = None
