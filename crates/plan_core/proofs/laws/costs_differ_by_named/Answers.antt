use Rattle.plan_core.proofs.Costs.{cost-with_routes, cost-one, cost-two}
use Rattle.plan_core.proofs.laws.costs_differ_by_named.Goals as goal

pub returns : goal.returns
returns c = record { all = cost-with_routes; one = cost-one; two = cost-two }
