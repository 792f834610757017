use Rattle.plan_core.proofs.Costs.{way_append}
use Rattle.plan_core.proofs.Ways.{route_cost-some}
use Rattle.plan_core.proofs.laws.ways_join.Goals as goal

pub returns : goal.returns
returns c = record { parts = way_append; route = route_cost-some }
