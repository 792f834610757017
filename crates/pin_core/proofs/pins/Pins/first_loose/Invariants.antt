use Rattle.plan_core.specs.Drafts.{routes_by}
use Rattle.plan_core.specs.Plan.{with_routes}
use Rattle.pin_core.specs.Pins.{IsHeld}
use Rattle.pin_core.proofs.Standing.{AllBefore}
use Rattle.pin_core.proofs.pins.Pins.first_loose.Given as goal

-- the touched customers so far stand on their vehicles
abbrev pub invariant-loop-touch : goal.invariant-loop-touch
invariant-loop-touch g l = AllBefore (λ t. IsHeld l.self (with_routes (routes_by g.R.NewRoute.draft l.plan.routes l.new_routes) l.plan.routes) t.customer) l.touched l.touch-index
