use Rattle.std.proofs.Common.{◌≡◌, take, map}
use Rattle.plan_core.specs.Plan.{routes_of}
use Rattle.published_board.specs.Lanes.{route_in}
use Rattle.published_board.proofs.views.routes.Given as goal

abbrev pub invariant-loop-lane : goal.invariant-loop-lane
invariant-loop-lane l = routes_of l.made.items ≡ map route_in (take l.lane-index l.lanes)
