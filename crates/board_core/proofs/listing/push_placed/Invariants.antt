use Rattle.std.proofs.Common.{take}
use Rattle.dimension_core.specs.Setup.{setting}
use Rattle.board_rules.specs.Listing.{placed_spots}
use Rattle.board_rules.specs.State.{BoardState}
use Rattle.board_state.specs.Held.{Holds}
use Rattle.board_core.specs.Shown.{Grows, AreMarked}
use Rattle.board_core.proofs.listing.push_placed.Given as goal

-- the rows of the first vehicles are there, and their customers are marked
abbrev pub invariant-loop-before : goal.invariant-loop-before
invariant-loop-before g l = record {
  grown : (board : BoardState) → Holds (setting l.setup) l.state board
      → Grows (setting l.setup) board l.session (placed_spots 1 (take l.before board.routes)) l.fn.rows.items l.rows.items;
  marked : AreMarked (take l.before l.state.plan.routes) l.fn.placed l.placed;
}
