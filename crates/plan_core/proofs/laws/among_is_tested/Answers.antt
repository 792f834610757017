use Rattle.plan_core.proofs.LastCommits.{contains_from_among, among_from_contains}
use Rattle.plan_core.proofs.laws.among_is_tested.Goals as goal

pub returns : goal.returns
returns c = λ n numbers. (contains_from_among n numbers, among_from_contains n numbers)
