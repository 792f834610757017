use Rattle.dimension_core.specs.Setup.{setting}
use Rattle.board_core.proofs.board.Board.turns.Goals as goal

pub returns-clause-value : goal.returns-clause-value
returns-clause-value g c = c.turns.ensures.value (setting c.args.self.now.setup.value) c.args.self.now.kept

pub returns-clause-few : goal.returns-clause-few
returns-clause-few g c = c.turns.ensures.few (setting c.args.self.now.setup.value) c.args.self.now.kept
