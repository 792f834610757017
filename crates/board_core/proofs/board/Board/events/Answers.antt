use Rattle.dimension_core.specs.Setup.{setting}
use Rattle.board_core.proofs.board.Board.events.Goals as goal

pub returns-clause-few : goal.returns-clause-few
returns-clause-few g c = c.events.ensures.few (setting c.args.self.now.setup.value) c.args.self.now.kept
