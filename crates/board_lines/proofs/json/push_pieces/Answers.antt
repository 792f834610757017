use Rattle.std.proofs.Common.{rules, refl, codes, ◌++◌}
use Rattle.board_lines.specs.Json.{rows_json}
use Rattle.board_lines.proofs.Starting.{on_err, cut_more, cut_then, err_then}
use Rattle.board_lines.proofs.json.push_pieces.Goals as goal

pub returns-in_err-push_text-clause-left : goal.returns-in_err-push_text-clause-left
returns-in_err-push_text-clause-left c = on_err _ (cut_more _ _ (rows_json c.args.rows.now ++ (codes "]}")) _ _ c.in_err-push_text.ensures.left (search rules))

pub returns-in_err-push_rows-clause-left : goal.returns-in_err-push_rows-clause-left
returns-in_err-push_rows-clause-left c = on_err _ (cut_then _ _ _ _ _ _ c.in_ok-push_text.ensures.ok (cut_more _ _ (codes "]}") _ _ c.in_err-push_rows.ensures.left refl) (search rules))

pub returns-clause-left : goal.returns-clause-left
returns-clause-left c = err_then _ _ _ _ _ _ _ c.in_ok-push_text.ensures.ok (err_then _ _ _ _ _ _ _ c.in_ok-push_rows.ensures.ok c.push_text-2.ensures.left refl) (search rules)
