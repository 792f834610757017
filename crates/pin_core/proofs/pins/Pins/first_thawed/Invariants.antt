use Rattle.plan_core.specs.Drafts.{routes_by}
use Rattle.plan_core.specs.Plan.{with_routes}
use Rattle.plan_core.specs.Commits.{named_vehicles}
use Rattle.pin_core.specs.Pins.{IsFrontKept}
use Rattle.pin_core.proofs.Standing.{AllBefore}
use Rattle.pin_core.proofs.pins.Pins.first_thawed.Given as goal

-- the named vehicles so far keep their fronts
abbrev pub invariant-loop-new : goal.invariant-loop-new
invariant-loop-new g l = AllBefore (IsFrontKept l.self l.plan.routes (with_routes (routes_by g.R.NewRoute.draft l.plan.routes l.new_routes) l.plan.routes)) (named_vehicles (routes_by g.R.NewRoute.draft l.plan.routes l.new_routes)) l.new-index
