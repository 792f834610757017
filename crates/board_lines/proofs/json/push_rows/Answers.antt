use Rattle.std.proofs.Common.{◌++◌, ◌∷◌, [], arith, refl, length, take, drop}
use Rattle.std.specs.List.{flat_map}
use Rattle.board_lines.specs.Json.{cells_text, next_cells}
use Rattle.board_lines.proofs.Pieces.{rows_taken}
use Rattle.board_lines.proofs.Starting.{on_err, cut_more, cut_then, err_then}
use Rattle.board_lines.proofs.json.push_rows.Goals as goal

pub returns-in_err-push_ascii-clause-left : goal.returns-in_err-push_ascii-clause-left
returns-in_err-push_ascii-clause-left c = on_err _ (cut_more _ _ (cells_text c.first-item.result ++ (flat_map next_cells (take (length c.args.rows.now) (drop 1 c.args.rows.now)) ++ (93 ∷ []))) _ _ c.in_err-push_ascii.ensures.left (rows_taken _ _ _ _ c.in-len1-up.len_at_least (omega (arith, c.in-len1-up.len_at_least)) c.first-item.is))

pub returns-in_err-push_cells-clause-left : goal.returns-in_err-push_cells-clause-left
returns-in_err-push_cells-clause-left c = on_err _ (cut_then _ _ _ _ _ _ c.in_ok-push_ascii.ensures.ok (cut_more _ _ (flat_map next_cells (take (length c.args.rows.now) (drop 1 c.args.rows.now)) ++ (93 ∷ [])) _ _ c.in_err-push_cells.ensures.left refl) (rows_taken _ _ _ _ c.in-len1-up.len_at_least (omega (arith, c.in-len1-up.len_at_least)) c.first-item.is))

pub returns-in_err-push_more-clause-left : goal.returns-in_err-push_more-clause-left
returns-in_err-push_more-clause-left c = on_err _ (cut_then _ _ _ _ _ _ c.in_ok-push_ascii.ensures.ok (cut_then _ _ _ _ _ _ c.in_ok-push_cells.ensures.ok (cut_more _ _ (93 ∷ []) _ _ c.in_err-push_more.ensures.left refl) refl) (rows_taken _ _ _ _ c.in-len1-up.len_at_least (omega (arith, c.in-len1-up.len_at_least)) c.first-item.is))

pub returns-clause-left : goal.returns-clause-left
returns-clause-left c = err_then _ _ _ _ _ _ _ c.in_ok-push_ascii.ensures.ok (err_then _ _ _ _ _ _ _ c.in_ok-push_cells.ensures.ok (err_then _ _ _ _ _ _ _ c.in_ok-push_more.ensures.ok c.push_ascii-2.ensures.left refl) refl) (rows_taken _ _ _ _ c.in-len1-up.len_at_least (omega (arith, c.in-len1-up.len_at_least)) c.first-item.is)
