use Rattle.plan_core.specs.Commits.{last_commit}
use Rattle.plan_core.proofs.LastCommits.{last_is, last_only, current_to, current_from}
use Rattle.plan_core.proofs.laws.currency_by_stamps.Goals as goal

pub returns-clause-last : goal.returns-clause-last
returns-clause-last c = last_is

pub returns-clause-only : goal.returns-clause-only
returns-clause-only c = λ commits v n l. last_only commits v n (last_commit v commits) l (last_is commits v)

pub returns-clause-current : goal.returns-clause-current
returns-clause-current c = λ commits base v.
    (current_to commits base v (last_commit v commits) (last_is commits v), current_from commits base v (last_commit v commits) (last_is commits v))
