use Rattle.std.proofs.Common.{◌≡◌, ℕ, ◌+◌, ◌<◌, false, length}
use Rattle.std.specs.Prelude.{slice_index_or}
use Rattle.dimension_core.specs.Setup.{setting}
use Rattle.move_core.specs.Moves.{is_placed}
use Rattle.board_rules.specs.Listing.{unassigned_spots}
use Rattle.board_rules.specs.State.{BoardState}
use Rattle.board_state.specs.Held.{Holds}
use Rattle.board_core.specs.Shown.{Grows}
use Rattle.board_core.proofs.listing.push_unassigned.Given as goal

-- the rows of the first customers are there
abbrev pub invariant-loop-before : goal.invariant-loop-before
invariant-loop-before g l = (board : BoardState) → Holds (setting l.setup) l.state board
    → ((k : ℕ) → k < length l.placed → slice_index_or l.placed k false ≡ is_placed board.routes (k + 1))
    → Grows (setting l.setup) board l.session (unassigned_spots l.before board.routes) l.fn.rows.items l.rows.items
