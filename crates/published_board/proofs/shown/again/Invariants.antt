use Rattle.std.proofs.Common.{◌≡◌, take}
use Rattle.published_board.proofs.shown.again.Given as goal

abbrev pub invariant-loop-lane : goal.invariant-loop-lane
invariant-loop-lane l = l.made.items ≡ take l.lane-index l.lanes
