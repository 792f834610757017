use Rattle.std.proofs.Common.{◌≡◌, [], replicate}
use Rattle.plan_core.specs.Plan.{routes_of}
use Rattle.plan_core.proofs.plan.empty_routes.Given as goal

-- one empty route for each vehicle so far
abbrev pub invariant-loop : goal.invariant-loop
invariant-loop l = routes_of l.routes.items ≡ replicate l.counter []
