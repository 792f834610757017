use Rattle.std.proofs.Common.{◌≡◌, take}
use Rattle.plan_core.specs.Plan.{routes_of}
use Rattle.published_board.specs.Lanes.{renewed}
use Rattle.published_board.proofs.views.renew_all.Given as goal

abbrev pub invariant-loop-lane : goal.invariant-loop-lane
invariant-loop-lane l = routes_of l.routes.items ≡ renewed l.entries (take l.lane-index l.lanes) (routes_of l.fn.routes.items)
