use Rattle.std.proofs.Common.{arith, refl}
use Rattle.board_lines.specs.Replies.{spaced}
use Rattle.board_lines.proofs.Starting.{on_err, cut_loop}
use Rattle.board_lines.proofs.listing.push_early.Goals as goal

pub returns-in_err-push_spaced-clause-left : goal.returns-in_err-push_spaced-clause-left
returns-in_err-push_spaced-clause-left c = on_err _ (cut_loop spaced _ _ 0 _ _ _ _ (omega (arith, c.loop-value-test.true)) refl c.loop-value.invariant c.in_err-push_spaced.ensures.left)
