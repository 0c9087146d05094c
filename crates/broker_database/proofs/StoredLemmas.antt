-- The laws of the machine, of the states that a database holds.
use Rattle.broker_core.{specs.{Laws.{HasOneStep}, declared.command.Command.{Command}}, proofs.Exists.{StepExists-holds}}
use Rattle.broker_core.proofs.RunHeadline.{RunsDeployExactly-holds, RunsReleaseExactly-holds}
use Rattle.command_facts.{specs.{Readings.{is_refusal}, Primitives.{broker_primitives}}, proofs.Again.{AreReadOnce-holds}}
use Rattle.broker_database.specs.Laws.{StoredRunsDeployExactly, StoredRunsReleaseExactly, StoredTeamsDiffer, StoredStepExists}
use Rattle.broker_database.proofs.ListedLemmas.{IsListed-holds}
use Rattle.broker_core.proofs.Once as core
use Rattle.registry_tables.proofs.TeamRows as team_rows

pub teams_differ : StoredTeamsDiffer
teams_differ db s stored = team_rows.teams_differ db s stored.tables

pub StoredRunsDeployExactly-holds : StoredRunsDeployExactly
StoredRunsDeployExactly-holds db first last before after answers token e v instance stored =
    RunsDeployExactly-holds broker_primitives first last before after answers token e v instance (teams_differ db first stored)

pub StoredRunsReleaseExactly-holds : StoredRunsReleaseExactly
StoredRunsReleaseExactly-holds db first last before after answers token e v stored =
    RunsReleaseExactly-holds broker_primitives first last before after answers token e v (teams_differ db first stored)

pub StoredStepExists-holds : StoredStepExists
StoredStepExists-holds db s token command stored read = StepExists-holds broker_primitives s token command (IsListed-holds db s stored.tables) stored.contents read

pub HasOneStep-broker : (command : Command) → HasOneStep broker_primitives is_refusal command
HasOneStep-broker command = core.StepOnce-holds broker_primitives is_refusal command (AreReadOnce-holds command)
