-- What of a state can be read back from the tables: a row is read as texts in UTF-8, and as numbers below 2^32. Each
-- state to which a run leads from the opening state is such (the law `readable_stays`): commands bring in names in UTF-8
-- and normal texts of pacts, digests are letters and digits, and versions, contents and results have a limit.
use Rattle.std.specs.Prelude.{◌≡◌, ◌≤◌, List, length, Some, IsUtf8, All}
use Rattle.broker_core.specs.Limit.{limit}
use Rattle.broker_core.specs.Text.{Text}
use Rattle.broker_names.specs.Name.{IsName}
use Rattle.broker_core.specs.State.{State as Broker}
use Rattle.broker_core.specs.declared.command.Version.{Version}

-- a name in UTF-8
abbrev pub IsNamed : Text → Type 0
IsNamed text = IsUtf8 text × IsName text

-- there are no more of them than the machine numbers
abbrev pub AreFew : {X : Type 0} → List X → Type 0
AreFew xs = length xs ≤ limit

pub record IsReadable (s : Broker) : Type 0 where
  pub office : IsUtf8 s.office
  pub teams : (team digest : Text) → s.teams team ≡ Some digest → IsNamed team × IsUtf8 digest
  pub pacticipants : (p team : Text) → s.pacticipants p ≡ Some team → IsNamed p × IsNamed team
  pub versions : All (λ (v : Version). IsNamed v.pacticipant × IsNamed v.name) s.versions
  pub contents : All IsUtf8 s.contents
  pub instances : (e p instance name : Text) → s.deployed (e, p, instance) ≡ Some name → IsUtf8 instance
  pub few_versions : AreFew s.versions
  pub few_contents : AreFew s.contents
  pub few_results : AreFew s.results
