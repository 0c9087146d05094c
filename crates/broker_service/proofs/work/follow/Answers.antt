use Rattle.std.proofs.Common.{inl, sym, subst, refl, Ok, Some}
use Rattle.sqlite.specs.Held.{state}
use Rattle.broker_core.specs.{declared.command.Command.{Command}, declared.command.Command.TheVariants.{PostReplies, Malformed}}
use Rattle.broker_core.specs.{declared.answer.Answer.{Answer}, declared.answer.Answer.TheVariants.{BadForm}}
use Rattle.command_facts.{specs.Performs.{PerformsBetween, CallersStep}, proofs.PerformLemmas.{PerformsBetween-answer}}
use Rattle.broker_service.proofs.WorkFailures.{DoesBetween-of_carries, FailsFromBetween-of_sound_change}
use Rattle.broker_service.proofs.work.follow.Goals as goal

pub returns-in-PutTeam : goal.returns-in-PutTeam
returns-in-PutTeam g c = DoesBetween-of_carries c.args.caller.now c.in-PutTeam.is c.put_team.ensures

pub returns-in-PutPacticipant : goal.returns-in-PutPacticipant
returns-in-PutPacticipant g c = DoesBetween-of_carries c.args.caller.now c.in-PutPacticipant.is c.put_pacticipant.ensures

pub returns-in-PutEnvironment : goal.returns-in-PutEnvironment
returns-in-PutEnvironment g c = DoesBetween-of_carries c.args.caller.now c.in-PutEnvironment.is c.put_environment.ensures

pub returns-in-PutGrant : goal.returns-in-PutGrant
returns-in-PutGrant g c = DoesBetween-of_carries c.args.caller.now c.in-PutGrant.is c.put_grant.ensures.carries

pub returns-in-PutVersion : goal.returns-in-PutVersion
returns-in-PutVersion g c = DoesBetween-of_carries c.args.caller.now c.in-PutVersion.is c.put_version.ensures

pub returns-in-PutPact : goal.returns-in-PutPact
returns-in-PutPact g c = DoesBetween-of_carries c.args.caller.now c.in-PutPact.is c.put_pact.ensures

pub returns-in-GetBranchPact : goal.returns-in-GetBranchPact
returns-in-GetBranchPact g c = DoesBetween-of_carries c.args.caller.now c.in-GetBranchPact.is c.get_branch_pact.ensures

pub returns-in-PostResult : goal.returns-in-PostResult
returns-in-PostResult g c = DoesBetween-of_carries c.args.caller.now c.in-PostResult.is c.post_result.ensures

pub returns-in-Deploy : goal.returns-in-Deploy
returns-in-Deploy g c = DoesBetween-of_carries c.args.caller.now c.in-Deploy.is c.deploy.ensures

pub returns-in-Release : goal.returns-in-Release
returns-in-Release g c = DoesBetween-of_carries c.args.caller.now c.in-Release.is c.release.ensures

pub returns-in-CanIDeploy : goal.returns-in-CanIDeploy
returns-in-CanIDeploy g c = DoesBetween-of_carries c.args.caller.now c.in-CanIDeploy.is c.can_i_deploy.ensures

pub returns-in-PostReplies : goal.returns-in-PostReplies
returns-in-PostReplies g c = record {
  answers = subst (λ (command : Command). PerformsBetween (state g.S.Store c.args.conn.now) (state g.S.Store c.post_replies.new.conn) (CallersStep c.args.caller.now command) c.post_replies.result) (sym c.in-PostReplies.is) c.post_replies.ensures.answers;
  failure =
      FailsFromBetween-of_sound_change (state g.S.Store c.args.conn.now) (state g.S.Store c.post_replies.new.conn) c.post_replies.result c.args.caller.now c.args.command.now
      (PostReplies c.in-PostReplies.path c.in-PostReplies.report c.in-PostReplies.replies) c.in-PostReplies.is c.post_replies.ensures.failure;
}

pub returns-in-Ok : goal.returns-in-Ok
returns-in-Ok g c = record {
  answers =
      let here = state g.S.Store c.args.conn.now in
      subst (λ (answer : Answer). PerformsBetween here here (CallersStep c.args.caller.now c.args.command.now) (Ok answer)) (sym c.in-Ok.ensures.ok)
      (subst (λ (command : Command). PerformsBetween here here (CallersStep c.args.caller.now command) (Ok (BadForm c.in-Malformed.fault))) (sym c.in-Malformed.is)
      (PerformsBetween-answer here (BadForm c.in-Malformed.fault) (CallersStep c.args.caller.now (Malformed c.in-Malformed.fault)) (λ s sound. inl (Some c.in-Malformed.fault, refl, refl))));
  failure = λ clean s here sound. tt;
}
