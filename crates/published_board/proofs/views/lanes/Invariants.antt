use Rattle.std.proofs.Common.{◌≡◌}
use Rattle.published_board.specs.Lanes.{lanes_of}
use Rattle.published_board.proofs.views.lanes.Given as goal

abbrev pub invariant-loop-index : goal.invariant-loop-index
invariant-loop-index l = l.made.items ≡ lanes_of l.base l.entry l.index
