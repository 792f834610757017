use Rattle.dimension_core.specs.Setup.{setting}
use Rattle.board_core.proofs.board.Board.review.Goals as goal

pub returns-clause-names : goal.returns-clause-names
returns-clause-names g c = c.review.ensures.names (setting c.args.self.now.setup.value) c.args.self.now.kept

pub returns-clause-asked : goal.returns-clause-asked
returns-clause-asked g c = c.review.ensures.asked (setting c.args.self.now.setup.value) c.args.self.now.kept

pub returns-clause-fault : goal.returns-clause-fault
returns-clause-fault g c = c.review.ensures.fault (setting c.args.self.now.setup.value) c.args.self.now.kept

pub returns-clause-barred : goal.returns-clause-barred
returns-clause-barred g c f due = c.review.ensures.barred (setting c.args.self.now.setup.value) f c.args.self.now.kept due
