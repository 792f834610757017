use Rattle.dimension_core.specs.Setup.{setting}
use Rattle.board_core.proofs.board.Board.place_of.Goals as goal

pub returns : goal.returns
returns g c = c.place_of.ensures (setting c.args.self.now.setup.value) c.args.self.now.kept
