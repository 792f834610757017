use Rattle.std.proofs.Common.{[]}
use Rattle.plan_core.specs.Plan.{routes_of, route_at}
use Rattle.dimension_core.specs.Setting.{Setting}
use Rattle.board_rules.specs.History.{state_after}
use Rattle.board_core.specs.Kept.{IsKept}
use Rattle.published_board.specs.Written.{AreCells}
use Rattle.board_lock.proofs.copies.routes.Given as goal

-- the first cells are there
abbrev pub invariant-loop-before : goal.invariant-loop-before
invariant-loop-before l = (s : Setting) → IsKept s l.core → AreCells l.before [] (route_at (state_after s l.core.journal).routes) (routes_of l.made.items)
