use Rattle.std.proofs.Common.{◌≡◌, take}
use Rattle.plan_core.specs.Plan.{routes_of}
use Rattle.published_board.proofs.eye.shared.Given as goal

abbrev pub invariant-loop-route : goal.invariant-loop-route
invariant-loop-route l = routes_of l.made.items ≡ routes_of (take l.route-index l.routes)
