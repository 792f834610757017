-- The state of which a beginning of the log tells.
use Rattle.board_rules.specs.State.{BoardState}
use Rattle.board_rules.specs.History.{state_after}
use Rattle.published_board.specs.Reached.{Reached, entries_of, opening_of}

abbrev pub told : Reached → BoardState
told r = state_after (opening_of r.pages).setting (entries_of r.pages)
