use Rattle.std.proofs.Common.{ℕ, ◌≤◌}
use Rattle.dimension_core.specs.Feasible.{FitsAll}
use Rattle.dimension_core.specs.Setup.{setting}
use Rattle.plan_core.specs.Plan.{route_at}
use Rattle.plan_tests.proofs.ranges.made_anew.Given as goal

-- the routes of the vehicles so far are in bounds
abbrev pub invariant-loop-before : goal.invariant-loop-before
invariant-loop-before g l = (v : ℕ) → 1 ≤ v → v ≤ l.before → FitsAll (setting l.setup) v (route_at l.plan.routes v)
