use Rattle.std.proofs.Common.{◌≡◌}
use Rattle.pin_core.proofs.Standing.{AllBefore}
use Rattle.pin_core.proofs.pins.new_route.Given as goal

-- no draft so far is for the vehicle
abbrev pub invariant-loop-new : goal.invariant-loop-new
invariant-loop-new g l = AllBefore (λ r. (g.R.NewRoute.draft r).vehicle ≡ l.vehicle → ⊥) l.new_routes l.new-index
