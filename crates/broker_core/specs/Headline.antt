-- The sentence for which this broker exists (this project's own; contracts, partners and latest verifications are
-- those of the Pact Broker's can-i-deploy): a deployment into a gated environment is recorded exactly when every
-- contract between the version and its partners there has a successful latest verification, no required
-- provider is absent and the caller's team is granted; otherwise the answer names every failing or missing pair, or
-- the denying rule, and nothing changes. A release is judged in the same way
use Rattle.std.specs.Prelude.{◌≡◌, ◌≢◌, ◌⊎◌, ◌↔◌, ℕ, Option, Some, None, IsSome, IsNone, IsSomeAnd, IsTrue, Contains}
use Rattle.broker_core.specs.declared.policy.Caller.{Caller}
use Rattle.broker_core.specs.declared.policy.Caller.TheVariants.{Team}
use Rattle.broker_core.specs.declared.policy.Rule.TheVariants.{KnownCaller, OwnerWithGrant}
use Rattle.broker_core.specs.declared.command.Command.TheVariants.{Deploy, Release}
use Rattle.broker_core.specs.declared.command.Version.{Version}
use Rattle.broker_core.specs.declared.answer.Answer.{Answer}
use Rattle.broker_core.specs.declared.answer.Answer.TheVariants.{Done, Already, Denied, Unknown, NotPermitted}
use Rattle.broker_core.specs.declared.answer.Detail.TheVariants.{Plain}
use Rattle.broker_core.specs.declared.answer.Missing.{Missing}
use Rattle.broker_core.specs.declared.answer.Missing.TheVariants as missing
use Rattle.broker_core.specs.Text.{Text, version}
use Rattle.broker_core.specs.State.{State, latest, is_gated, is_strict}
use Rattle.broker_core.specs.Gate.{IsPresent, IsPermitted, IsFault}
use Rattle.broker_core.specs.Faults.{fault_cmp}
use Rattle.broker_core.specs.Listing.{Lists}
use Rattle.broker_core.specs.Change.{Transition, instance_of}
use Rattle.broker_core.specs.Machine.{Primitives, IsCallerOfToken, Step}
use Rattle.broker_core.specs.Laws.{TeamsDiffer}

-- ---- what the gate permits, in these words

-- a contract of a consumer's version with a provider's: one of the two is v, and the other is a partner that is
-- in e; if v is the provider's, the consumer is another pacticipant
pub record IsBetween (s : State) (v : Version) (e : Text) (consumer provider : Version) (content : ℕ) : Type 0 where
  pub contract : s.contracts (consumer, provider.pacticipant) ≡ Some content
  pub partner : ((consumer ≡ v) × IsPresent s e provider)
      ⊎ ((provider ≡ v) × IsPresent s e consumer × (consumer.pacticipant ≢ v.pacticipant))

-- the latest verification of the content by the provider's version is a success, checked by the broker if e is strict
abbrev pub IsVerified : State → Text → Version → ℕ → Type 0
IsVerified s e provider content = IsSomeAnd (latest s content provider)
    (λ latest. IsTrue latest.pass × (IsTrue (is_strict s e) → IsTrue latest.checked))

-- every contract between v and the partners that are in e is verified
abbrev pub AreVerified : State → Version → Text → Type 0
AreVerified s v e = (consumer provider : Version) (content : ℕ)
    → IsBetween s v e consumer provider content → IsVerified s e provider content

-- no provider with which v has a contract is without a version in e
abbrev pub NoneIsAbsent : State → Version → Text → Type 0
NoneIsAbsent s v e = (provider : Text) (content : ℕ) → s.contracts (v, provider) ≡ Some content
    → ¬ ((name : Text) → ¬ (IsPresent s e (version provider name)))

-- what is permitted in a gated environment; in any other everything is
abbrev pub PermitsVerified : Type 0
PermitsVerified = (s : State) (v : Version) (e : Text)
    → IsPermitted s v e ↔ (IsTrue (is_gated s e) → AreVerified s v e × NoneIsAbsent s v e)

-- ---- what is recorded, and what is refused

-- the environment, the pacticipant and its version are there
pub record NamesExist (s : State) (e : Text) (v : Version) : Type 0 where
  pub environment : IsSome (s.environments e)
  pub pacticipant : IsSome (s.pacticipants v.pacticipant)
  pub version : Contains s.versions v

-- the first of these names that isn't there
abbrev pub IsFirstMissing : State → Text → Version → Missing → Type 0
IsFirstMissing s e v missing.Environment = IsNone (s.environments e)
IsFirstMissing s e v missing.Pacticipant = IsSome (s.environments e) × IsNone (s.pacticipants v.pacticipant)
IsFirstMissing s e v missing.Version =
    IsSome (s.environments e) × IsSome (s.pacticipants v.pacticipant) × ¬ (Contains s.versions v)
IsFirstMissing s e v missing.Team = ⊥
IsFirstMissing s e v missing.Contract = ⊥
IsFirstMissing s e v missing.Grant = ⊥
IsFirstMissing s e v missing.Deployed = ⊥
IsFirstMissing s e v missing.Released = ⊥

-- of a token with which v is to be recorded in e
module _ (parts : Primitives) (s : State) (token : Option Text) (e : Text) (v : Version) where
  -- the token is that of the office or a team
  abbrev pub HasCaller : Type 0
  HasCaller = (caller : Caller) × IsCallerOfToken parts s token (Some caller)

  -- the token is that of the team which owns the pacticipant, and the team has a grant for e
  pub record IsGranted : Type 0 where
    pub team : Text
    pub caller : IsCallerOfToken parts s token (Some (Team team))
    pub owner : s.pacticipants v.pacticipant ≡ Some team
    pub grant : IsTrue (s.grants (team, e))

  pub record MayBeRecorded : Type 0 where
    pub names : NamesExist s e v
    pub granted : IsGranted
    pub permitted : IsPermitted s v e

  -- the refusals, each with its case: no one's token; a name that isn't there; a caller that isn't granted; and all
  -- faults in order
  abbrev pub IsRefusal : Answer → Type 0
  IsRefusal (Denied KnownCaller) = IsCallerOfToken parts s token None
  IsRefusal (Unknown what) = HasCaller × IsFirstMissing s e v what
  IsRefusal (Denied OwnerWithGrant) = HasCaller × NamesExist s e v × ¬ IsGranted
  IsRefusal (NotPermitted faults) =
      NamesExist s e v × IsGranted × (¬ (IsPermitted s v e)) × Lists fault_cmp (IsFault s v e) faults
  IsRefusal _ = ⊥

  -- it is recorded if and only if it may be; otherwise it is refused, and nothing changes
  pub record IsRecordedExactly (IsRecorded : State → Type 0) (out : Transition) : Type 0 where
    pub recorded : (((out.answer ≡ Done Plain) ⊎ (out.answer ≡ Already Plain)) × IsRecorded out.state)
        ↔ MayBeRecorded
    pub refused : ¬ MayBeRecorded → IsRefusal out.answer × (out.state ≡ s)

  abbrev pub IsDeployedExactly : Option Text → Transition → Type 0
  IsDeployedExactly instance =
      IsRecordedExactly (λ t. t.deployed (e, v.pacticipant, instance_of instance) ≡ Some v.name)

  abbrev pub IsReleasedExactly : Transition → Type 0
  IsReleasedExactly = IsRecordedExactly (λ t. IsTrue (t.released (e, v)))

-- a deployment
abbrev pub DeploysExactly : Primitives → Type 0
DeploysExactly parts =
    (s : State) (token : Option Text) (e : Text) (v : Version) (instance : Option Text) (out : Transition)
    → TeamsDiffer s → Step parts s token (Deploy e v instance) out
    → IsDeployedExactly parts s token e v instance out

-- a release
abbrev pub ReleasesExactly : Primitives → Type 0
ReleasesExactly parts =
    (s : State) (token : Option Text) (e : Text) (v : Version) (out : Transition)
    → TeamsDiffer s → Step parts s token (Release e v) out → IsReleasedExactly parts s token e v out
