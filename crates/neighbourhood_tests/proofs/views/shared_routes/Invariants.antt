use Rattle.std.proofs.Common.{◌≡◌, take}
use Rattle.plan_core.specs.Plan.{routes_of}
use Rattle.neighbourhood_tests.proofs.views.shared_routes.Given as goal

-- the routes of the vehicles so far
abbrev pub invariant-loop-before : goal.invariant-loop-before
invariant-loop-before g l = routes_of l.routes.items ≡ take l.before l.plan.routes
