-- Whether a pacticipant is there, and whether the policy's rule allows the caller.
use Rattle.std.specs.Prelude.{◌≡◌, ◌∷◌, [], Bool, filter_map, is_some}
use Rattle.broker_core.specs.Text.{Text}
use Rattle.broker_core.specs.State.{State as Broker}
use Rattle.broker_core.specs.Policy.{allows}
use Rattle.broker_core.specs.declared.policy.Caller.{Caller}
use Rattle.broker_core.specs.declared.policy.Rule.{Rule}
use Rattle.caller_facts.specs.declared.rules.OwnerFacts.{OwnerFacts}

-- whether the pacticipant is there, and whether the rule allows the caller, with this grant
pub record IsOwnerRead (s : Broker) (caller : Caller) (rule : Rule) (p : Text) (granted : Bool)
    (found : OwnerFacts) : Type 0 where
  pub pacticipant_is : is_some (s.pacticipants p) ≡ found.has_pacticipant
  pub may_is : allows rule caller (filter_map s.pacticipants (p ∷ [])) granted ≡ found.is_allowed
