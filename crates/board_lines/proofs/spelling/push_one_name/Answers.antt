use Rattle.std.proofs.Common.{rules, append_assoc, ◌∷◌}
use Rattle.board_lines.proofs.Starting.{on_err, cut_more, err_then}
use Rattle.board_lines.proofs.spelling.push_one_name.Goals as goal

pub returns-in_err-push_text-clause-left : goal.returns-in_err-push_text-clause-left
returns-in_err-push_text-clause-left c = on_err _ (cut_more _ _ (32 ∷ c.args.name.now) _ _ c.in_err-push_text.ensures.left (search (rules, append_assoc)))

pub returns-clause-left : goal.returns-clause-left
returns-clause-left c = err_then _ _ _ _ _ _ _ c.in_ok-push_text.ensures.ok c.push_name.ensures.left (search (rules, append_assoc))
