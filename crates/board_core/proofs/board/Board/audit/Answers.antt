use Rattle.dimension_core.specs.Setup.{setting}
use Rattle.board_core.proofs.board.Board.audit.Goals as goal

pub returns-clause-asked : goal.returns-clause-asked
returns-clause-asked g c = c.audit.ensures.asked (setting c.args.self.now.setup.value) c.args.self.now.kept
