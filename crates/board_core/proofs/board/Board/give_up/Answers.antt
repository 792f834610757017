use Rattle.dimension_core.specs.Setup.{setting}
use Rattle.board_core.proofs.board.Board.give_up.Goals as goal

pub invariant_of-self : goal.invariant_of-self
invariant_of-self g c = record { kept = c.give_up.ensures.kept (setting c.args.self.now.setup.value) c.args.self.now.kept }
