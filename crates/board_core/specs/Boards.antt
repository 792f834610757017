-- The history of a board.
use Rattle.dimension_core.specs.Setup.{setting}
use Rattle.board_core.specs.declared.board.Board.{Board}
use Rattle.board_core.specs.Kept.{history_of}
use Rattle.board_rules.specs.History.{History}

-- the opening entry and the entries of a board
abbrev pub history : {i j : Type 0} {held : i → Type 0} {holds : j → Type 0} {calls : _} {asks : _} → Board i j held holds calls asks → History
history board = history_of (setting board.setup.value) board.core
