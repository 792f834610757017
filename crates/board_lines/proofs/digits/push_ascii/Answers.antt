use Rattle.std.proofs.Common.{rules}
use Rattle.board_lines.proofs.Starting.{pushed}
use Rattle.board_lines.proofs.digits.push_ascii.Goals as goal

pub returns-clause-ok : goal.returns-clause-ok
returns-clause-ok c = rw (← c.push.ensures.ascii c.requires) (search rules)

pub returns-clause-left : goal.returns-clause-left
returns-clause-left c = pushed _ _ _ _ _ c.push.ensures.bytes
