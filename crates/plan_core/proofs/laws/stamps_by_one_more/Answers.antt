use Rattle.plan_core.proofs.LastCommits.{stamps_more}
use Rattle.plan_core.proofs.laws.stamps_by_one_more.Goals as goal

pub returns : goal.returns
returns c = stamps_more
