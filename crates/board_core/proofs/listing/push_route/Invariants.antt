use Rattle.std.proofs.Common.{take}
use Rattle.dimension_core.specs.Setup.{setting}
use Rattle.move_core.specs.Touched.{touches}
use Rattle.board_rules.specs.State.{BoardState}
use Rattle.board_state.specs.Held.{Holds}
use Rattle.board_core.specs.Shown.{Grows}
use Rattle.board_core.proofs.listing.push_route.Given as goal

-- the rows of the first places are there
abbrev pub invariant-loop-before : goal.invariant-loop-before
invariant-loop-before g l = (board : BoardState) → Holds (setting l.setup) l.state board
    → Grows (setting l.setup) board l.session (touches l.vehicle 1 (take l.before l.route)) l.fn.rows.items l.rows.items
