use Rattle.std.proofs.Common.{rules, append_assoc}
use Rattle.board_lines.specs.Saying.{behind}
use Rattle.board_lines.proofs.Starting.{on_err, cut_more, err_then}
use Rattle.board_lines.proofs.spelling.push_set.Goals as goal

pub returns-in_err-push_name_and_number-clause-left : goal.returns-in_err-push_name_and_number-clause-left
returns-in_err-push_name_and_number-clause-left c = on_err _ (cut_more _ _ (behind c.args.roles.now) _ _ c.in_err-push_name_and_number.ensures.left (search (rules, append_assoc)))

pub returns-clause-left : goal.returns-clause-left
returns-clause-left c = err_then _ _ _ _ _ _ _ c.in_ok-push_name_and_number.ensures.ok c.push_names.ensures.left (search (rules, append_assoc))
