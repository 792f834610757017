use Rattle.std.proofs.Common.{arith}
use Rattle.board_lines.specs.Replies.{spaced}
use Rattle.board_lines.proofs.Starting.{on_err, cut_loop}
use Rattle.board_lines.proofs.digits.push_each.Goals as goal

pub returns-in_err-push_spaced-clause-left : goal.returns-in_err-push_spaced-clause-left
returns-in_err-push_spaced-clause-left c = on_err _ (cut_loop spaced _ _ _ _ _ _ _ (omega (arith, c.loop-n-test.true)) c.from.ensures c.loop-n.invariant c.in_err-push_spaced.ensures.left)
