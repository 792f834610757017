use Rattle.dimension_core.specs.Setup.{setting}
use Rattle.board_core.proofs.board.Board.plan.Goals as goal

pub returns-clause-plan : goal.returns-clause-plan
returns-clause-plan g c = c.plan.ensures (setting c.args.self.now.setup.value) c.args.self.now.kept
