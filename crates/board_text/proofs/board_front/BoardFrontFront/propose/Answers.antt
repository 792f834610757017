use Rattle.board_text.proofs.Asked.{not_err, not_ok}
use Rattle.board_text.proofs.board_front.BoardFrontFront.propose.Goals as goal

pub returns-then-is_ok-clause-err : goal.returns-then-is_ok-clause-err
returns-then-is_ok-clause-err g c = not_err _ _ c.if-is_ok.ensures.value

pub returns-else-is_ok-clause-ok : goal.returns-else-is_ok-clause-ok
returns-else-is_ok-clause-ok g c = not_ok _ _ c.if-is_ok.ensures.value
