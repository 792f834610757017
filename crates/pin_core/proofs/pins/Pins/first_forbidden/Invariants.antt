use Rattle.std.proofs.Common.{ℕ, ◌<◌}
use Rattle.plan_core.specs.Drafts.{routes_by}
use Rattle.plan_core.specs.Plan.{with_routes}
use Rattle.pin_core.specs.Override.{IsPassed}
use Rattle.pin_core.proofs.pins.Pins.first_forbidden.Given as goal

-- no pin of the touched customers so far forbids
abbrev pub invariant-loop-k : goal.invariant-loop-k
invariant-loop-k g l = (j : ℕ) → j < l.k → IsPassed l.self (with_routes (routes_by g.R.NewRoute.draft l.plan.routes l.new_routes) l.plan.routes) l.touched l.free j
