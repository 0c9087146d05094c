-- what showing the pact of a branch reads of a state, for the clauses of private functions: no public clause cites it
use Rattle.std.specs.Prelude.{◌≡◌, ◌≤◌, ℕ, Option, Some, None, true, MatchOption, Result, Ok, Err}
use Rattle.broker_core.specs.Text.{Text}
use Rattle.broker_core.specs.State.{State as Broker}
use Rattle.broker_core.specs.Request.{branch_version, refusal}
use Rattle.broker_core.specs.declared.answer.Answer.{Answer}
use Rattle.broker_core.specs.declared.command.Command.TheVariants.{GetBranchPact}
use Rattle.broker_core.specs.declared.command.Version.{Version}
use Rattle.broker_core.specs.declared.policy.Caller.{Caller}
use Rattle.broker_tables.specs.Numbers.{number_of}
use Rattle.registry_tables.specs.Registry.{IsNewestBelow}
use Rattle.contract_commands.specs.declared.branch_pact.BranchVersion.{BranchVersion}

-- no version of the consumer on the branch that has this number or a greater one has a contract with the provider
abbrev pub NoneFrom : Broker → Text → Text → Text → ℕ → Type 0
NoneFrom s provider consumer branch bound =
    (v : Version) (n : ℕ) → number_of s.versions v ≡ Some n → bound ≤ n → v.pacticipant ≡ consumer
    → s.branches (v, branch) ≡ true → s.contracts (v, provider) ≡ None

-- the greatest number below this one of a version of the consumer on the branch, and the content of that version's
-- contract with the provider
abbrev pub IsNextBelow : Broker → Text → Text → Text → ℕ → Option BranchVersion → Type 0
IsNextBelow s provider consumer branch bound None = IsNewestBelow s consumer branch bound None
IsNextBelow s provider consumer branch bound (Some next) =
    IsNewestBelow s consumer branch bound (Some next.number)
    × ((v : Version) → number_of s.versions v ≡ Some next.number → next.content ≡ s.contracts (v, provider))

-- the content of the contract of the version that the branch shows; none if and only if there is no such version
abbrev pub IsBranchContent : Broker → Text → Text → Text → Option ℕ → Type 0
IsBranchContent s provider consumer branch content =
    MatchOption content (branch_version s provider consumer branch ≡ None)
    (λ n. (v : Version) × (branch_version s provider consumer branch ≡ Some v) × (s.contracts (v, provider) ≡ Some n))

-- the content that the branch shows, if no version from this number on has a contract
abbrev pub IsContentBelow : Broker → Text → Text → Text → ℕ → Option ℕ → Type 0
IsContentBelow s provider consumer branch bound content =
    NoneFrom s provider consumer branch bound → IsBranchContent s provider consumer branch content

-- that content, if nothing refuses to show its text, or the refusal
abbrev pub ReachesBranch : Broker → Caller → Text → Text → Text → Result ℕ Answer → Type 0
ReachesBranch s caller provider consumer branch (Ok content) =
    IsBranchContent s provider consumer branch (Some content)
    × (refusal s caller (GetBranchPact provider consumer branch) ≡ None)
ReachesBranch s caller provider consumer branch (Err answer) =
    refusal s caller (GetBranchPact provider consumer branch) ≡ Some answer
