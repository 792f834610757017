use Rattle.dimension_core.specs.Setup.{setting}
use Rattle.board_core.proofs.board.Board.desks.Goals as goal

pub desks-requires : goal.desks-requires
desks-requires g c = (setting c.args.self.now.setup.value, c.args.self.now.kept)
