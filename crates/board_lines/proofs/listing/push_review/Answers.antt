use Rattle.std.proofs.Common.{arith, refl}
use Rattle.board_lines.specs.Listings.{end_line, name_line}
use Rattle.board_lines.proofs.Starting.{on_err, cut_more, cut_loop, loop_done, err_then}
use Rattle.board_lines.proofs.listing.push_review.Goals as goal

pub returns-in_err-push_name_line-clause-left : goal.returns-in_err-push_name_line-clause-left
returns-in_err-push_name_line-clause-left c = on_err _ (cut_more _ _ end_line _ _ (cut_loop name_line _ _ _ _ _ _ _ (omega (arith, c.loop-name-test.true)) c.name-item.is c.loop-name.invariant c.in_err-push_name_line.ensures.left) refl)

pub returns-clause-left : goal.returns-clause-left
returns-clause-left c = err_then _ _ _ _ _ _ _ c.loop-name.invariant c.push_end.ensures.left (loop_done name_line _ _ end_line c.loop-name-test.false)
