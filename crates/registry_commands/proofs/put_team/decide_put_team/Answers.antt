use Rattle.std.proofs.Common.{Option, subst}
use Rattle.broker_core.specs.{Machine.{IsCallerOfDigest}, declared.policy.Caller.{Caller}, declared.policy.Caller.TheVariants.{Team}}
use Rattle.registry_commands.proofs.put_team.decide_put_team.Goals as goal

pub returns-in-None-holder-clause-unused : goal.returns-in-None-holder-clause-unused
returns-in-None-holder-clause-unused c = λ s h team is. subst (λ (o : Option Caller). IsCallerOfDigest s c.args.digest.now o) c.in-None-holder.is h (Team team) is
