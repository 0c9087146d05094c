-- What refuses a command on a version and an environment, from what was read.
use Rattle.std.{specs.Prelude.{Option, Some, None, is_some}, proofs.Common.{◌≡◌, ap}}
use Rattle.broker_core.specs.{Text.{Text}, State.{State}, Request.{unless}, declared.answer.Missing.{Missing}, declared.command.Marks.{Marks}}
use Rattle.broker_core.specs.declared.command.Version.{Version}
use Rattle.environment_commands.specs.{Places.{HasPlace, IsAdmitted, unless_environment}, declared.places.Admitted.{Admitted}}
use Rattle.broker_core.specs.declared.answer.Missing.TheVariants as missing

pub unless_environment-missing : (s : State) (e : Text) (rest : Option Missing) → s.environments e ≡ None → unless_environment s e rest ≡ Some missing.Environment
unless_environment-missing s e rest is = ap (λ (o : Option Marks). unless (is_some o) missing.Environment rest) is

-- what is admitted is there
pub HasPlace-of_admitted : (s : State) (e : Text) (v : Version) (place : Admitted) → IsAdmitted e v place s → HasPlace e v place.number s
HasPlace-of_admitted s e v place it = (ap is_some it.0, it.1)
