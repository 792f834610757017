use Rattle.plan_core.proofs.LastCommits.{last_commit-push}
use Rattle.plan_core.proofs.laws.commits_by_one_more.Goals as goal

pub returns : goal.returns
returns c = last_commit-push
