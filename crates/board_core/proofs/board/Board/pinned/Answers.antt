use Rattle.dimension_core.specs.Setup.{setting}
use Rattle.board_core.proofs.board.Board.pinned.Goals as goal

pub pinned-requires : goal.pinned-requires
pinned-requires g c = (setting c.args.self.now.setup.value, c.args.self.now.kept, c.requires.low, c.requires.high)

pub returns : goal.returns
returns g c = c.pinned.ensures (setting c.args.self.now.setup.value) c.args.self.now.kept
