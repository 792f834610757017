use Rattle.board_lines.proofs.Starting.{pushed}
use Rattle.board_lines.proofs.digits.push_text.Goals as goal

pub returns-clause-left : goal.returns-clause-left
returns-clause-left c = pushed _ _ _ _ _ c.push_str.ensures.bytes
