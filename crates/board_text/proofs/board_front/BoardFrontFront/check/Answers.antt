use Rattle.std.proofs.Common.{refl}
use Rattle.dimension_core.specs.Setup.{setting}
use Rattle.board_text.proofs.board_front.BoardFrontFront.check.Goals as goal

pub returns-clause-answer : goal.returns-clause-answer
returns-clause-answer g c =
    let board = c.args.self.now.board in
    (c.check.ensures (setting board.setup.value) board.kept, refl)
