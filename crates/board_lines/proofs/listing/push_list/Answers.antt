use Rattle.std.proofs.Common.{arith, refl}
use Rattle.board_lines.specs.Listings.{end_line, row_line}
use Rattle.board_lines.proofs.Starting.{on_err, cut_more, cut_loop, loop_done, err_then}
use Rattle.board_lines.proofs.listing.push_list.Goals as goal

pub returns-in_err-push_row-clause-left : goal.returns-in_err-push_row-clause-left
returns-in_err-push_row-clause-left c = on_err _ (cut_more _ _ end_line _ _ (cut_loop row_line _ _ _ _ _ _ _ (omega (arith, c.loop-row-test.true)) c.row-item.is c.loop-row.invariant c.in_err-push_row.ensures.left) refl)

pub returns-clause-left : goal.returns-clause-left
returns-clause-left c = err_then _ _ _ _ _ _ _ c.loop-row.invariant c.push_end.ensures.left (loop_done row_line _ _ end_line c.loop-row-test.false)
