use Rattle.std.proofs.Common.{ℕ, ◌≤◌, length}
use Rattle.plan_core.specs.Plan.{route_at}
use Rattle.pin_core.specs.Pins.{front_of}
use Rattle.pin_core.specs.View.{pins_of}
use Rattle.neighbourhood_tests.proofs.views.do_fronts_fit.Given as goal

-- the fronts of the vehicles so far fit
abbrev pub invariant-loop-before : goal.invariant-loop-before
invariant-loop-before l = (v : ℕ) → 1 ≤ v → v ≤ l.before → front_of (pins_of l.view) v ≤ length (route_at l.plan.routes v)
