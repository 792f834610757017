use Rattle.std.proofs.Common.{None}
use Rattle.pin_core.specs.Pins.{pin_of}
use Rattle.dimension_core.specs.Setting.{Setting}
use Rattle.board_rules.specs.History.{state_after}
use Rattle.board_core.specs.Kept.{IsKept}
use Rattle.published_board.specs.Written.{AreCells}
use Rattle.board_lock.proofs.copies.pins.Given as goal

-- the first cells are there
abbrev pub invariant-loop-before : goal.invariant-loop-before
invariant-loop-before l = (s : Setting) → IsKept s l.core → AreCells l.before None (pin_of (state_after s l.core.journal).pins) l.cells.items
