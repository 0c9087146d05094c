use Rattle.table_audit.proofs.TriedLemmas.{TriesBetween-same_rule}
use Rattle.table_audit.proofs.auditing.judge_by.Goals as goal

pub returns-in-Office : goal.returns-in-Office
returns-in-Office g c = TriesBetween-same_rule _ _ c.judge_office.result _ _ c.in-Office.is c.judge_office.ensures

pub returns-in-Team : goal.returns-in-Team
returns-in-Team g c = TriesBetween-same_rule _ _ c.judge_teams.result _ _ c.in-Team.is c.judge_teams.ensures

pub returns-in-Pacticipant : goal.returns-in-Pacticipant
returns-in-Pacticipant g c = TriesBetween-same_rule _ _ c.judge_pacticipants.result _ _ c.in-Pacticipant.is c.judge_pacticipants.ensures

pub returns-in-Version : goal.returns-in-Version
returns-in-Version g c = TriesBetween-same_rule _ _ c.judge_versions.result _ _ c.in-Version.is c.judge_versions.ensures

pub returns-in-Content : goal.returns-in-Content
returns-in-Content g c = TriesBetween-same_rule _ _ c.judge_contents.result _ _ c.in-Content.is c.judge_contents.ensures

pub returns-in-Result : goal.returns-in-Result
returns-in-Result g c = TriesBetween-same_rule _ _ c.judge_results.result _ _ c.in-Result.is c.judge_results.ensures

pub returns-in-Provider : goal.returns-in-Provider
returns-in-Provider g c = TriesBetween-same_rule _ _ c.judge_providers.result _ _ c.in-Provider.is c.judge_providers.ensures

pub returns-in-Named : goal.returns-in-Named
returns-in-Named g c = TriesBetween-same_rule _ _ c.judge_named.result _ _ c.in-Named.is c.judge_named.ensures

pub returns-in-Newest : goal.returns-in-Newest
returns-in-Newest g c = TriesBetween-same_rule _ _ c.judge_newest.result _ _ c.in-Newest.is c.judge_newest.ensures

pub returns-in-Deployed : goal.returns-in-Deployed
returns-in-Deployed g c = TriesBetween-same_rule _ _ c.judge_deployed.result _ _ c.in-Deployed.is c.judge_deployed.ensures
