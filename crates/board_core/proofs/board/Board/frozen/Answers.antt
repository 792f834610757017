use Rattle.dimension_core.specs.Setup.{setting}
use Rattle.board_core.proofs.board.Board.frozen.Goals as goal

pub frozen-requires : goal.frozen-requires
frozen-requires g c = (setting c.args.self.now.setup.value, c.args.self.now.kept, c.requires.low, c.requires.high)

pub returns : goal.returns
returns g c = c.frozen.ensures (setting c.args.self.now.setup.value) c.args.self.now.kept
