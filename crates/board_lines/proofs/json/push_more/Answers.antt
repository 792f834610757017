use Rattle.std.proofs.Common.{arith, refl}
use Rattle.board_lines.specs.Json.{cells_text, next_cells}
use Rattle.board_lines.proofs.Starting.{on_err, cut_more, cut_then, cut_loop}
use Rattle.board_lines.proofs.json.push_more.Goals as goal

pub returns-in_err-push_text-clause-left : goal.returns-in_err-push_text-clause-left
returns-in_err-push_text-clause-left c = on_err _ (cut_loop next_cells _ _ _ _ _ _ _ (omega (arith, c.loop-row-test.true)) c.row-item.is c.loop-row.invariant (cut_more _ _ (cells_text c.row-item.result) _ _ c.in_err-push_text.ensures.left refl))

pub returns-in_err-push_cells-clause-left : goal.returns-in_err-push_cells-clause-left
returns-in_err-push_cells-clause-left c = on_err _ (cut_loop next_cells _ _ _ _ _ _ _ (omega (arith, c.loop-row-test.true)) c.row-item.is c.loop-row.invariant (cut_then _ _ _ _ _ _ c.in_ok-push_text.ensures.ok c.in_err-push_cells.ensures.left refl))
