use Rattle.std.proofs.Common.{rules, append_assoc, refl, ◌++◌, ◌∷◌}
use Rattle.board_lines.specs.Replies.{spaced}
use Rattle.board_lines.proofs.Starting.{on_err, cut_more, cut_then, err_then}
use Rattle.board_lines.proofs.spelling.push_number_and_name.Goals as goal

pub returns-in_err-push_text-clause-left : goal.returns-in_err-push_text-clause-left
returns-in_err-push_text-clause-left c = on_err _ (cut_more _ _ (spaced c.args.number ++ (32 ∷ c.args.name.now)) _ _ c.in_err-push_text.ensures.left (search (rules, append_assoc)))

pub returns-in_err-push_each-clause-left : goal.returns-in_err-push_each-clause-left
returns-in_err-push_each-clause-left c = on_err _ (cut_then _ _ _ _ _ _ c.in_ok-push_text.ensures.ok (cut_more _ _ (32 ∷ c.args.name.now) _ _ c.in_err-push_each.ensures.left refl) (search (rules, append_assoc)))

pub returns-clause-left : goal.returns-clause-left
returns-clause-left c = err_then _ _ _ _ _ _ _ c.in_ok-push_text.ensures.ok (err_then _ _ _ _ _ _ _ c.in_ok-push_each.ensures.ok c.push_name.ensures.left refl) (search (rules, append_assoc))
