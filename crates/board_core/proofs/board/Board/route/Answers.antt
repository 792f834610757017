use Rattle.dimension_core.specs.Setup.{setting}
use Rattle.board_core.proofs.board.Board.route.Goals as goal

pub route-requires : goal.route-requires
route-requires g c = (setting c.args.self.now.setup.value, c.args.self.now.kept, c.requires.low, c.requires.high)

pub returns : goal.returns
returns g c = c.route.ensures (setting c.args.self.now.setup.value) c.args.self.now.kept
