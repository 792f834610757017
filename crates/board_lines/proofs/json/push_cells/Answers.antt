use Rattle.std.proofs.Common.{rules, append_assoc, refl, ◌++◌}
use Rattle.std.specs.List.{flat_map}
use Rattle.board_lines.specs.Json.{comma_number}
use Rattle.board_lines.proofs.Starting.{on_err, cut_more, cut_then, err_then}
use Rattle.board_lines.proofs.json.push_cells.Goals as goal

pub returns-in_err-push_decimal-clause-left : goal.returns-in_err-push_decimal-clause-left
returns-in_err-push_decimal-clause-left c = on_err _ (cut_more _ _ (comma_number c.args.row.now.place ++ (comma_number c.args.row.now.customer ++ flat_map comma_number c.args.row.now.early)) _ _ c.in_err-push_decimal.ensures.left (search (rules, append_assoc)))

pub returns-in_err-push_comma-clause-left : goal.returns-in_err-push_comma-clause-left
returns-in_err-push_comma-clause-left c = on_err _ (cut_then _ _ _ _ _ _ c.in_ok-push_decimal.ensures.ok (cut_more _ _ (comma_number c.args.row.now.customer ++ flat_map comma_number c.args.row.now.early) _ _ c.in_err-push_comma.ensures.left refl) (search (rules, append_assoc)))

pub returns-in_err-push_comma-2-clause-left : goal.returns-in_err-push_comma-2-clause-left
returns-in_err-push_comma-2-clause-left c = on_err _ (cut_then _ _ _ _ _ _ c.in_ok-push_decimal.ensures.ok (cut_then _ _ _ _ _ _ c.in_ok-push_comma.ensures.ok (cut_more _ _ (flat_map comma_number c.args.row.now.early) _ _ c.in_err-push_comma-2.ensures.left refl) refl) (search (rules, append_assoc)))

pub returns-clause-left : goal.returns-clause-left
returns-clause-left c = err_then _ _ _ _ _ _ _ c.in_ok-push_decimal.ensures.ok (err_then _ _ _ _ _ _ _ c.in_ok-push_comma.ensures.ok (err_then _ _ _ _ _ _ _ c.in_ok-push_comma-2.ensures.ok c.push_commas.ensures.left refl) refl) (search (rules, append_assoc))
