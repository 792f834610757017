use Rattle.std.proofs.Common.{rules, append_assoc}
use Rattle.board_lines.specs.Saying.{after_number, move_said}
use Rattle.board_lines.proofs.Starting.{on_err, cut_more, err_then}
use Rattle.board_lines.proofs.spelling.push_proposal.Goals as goal

pub returns-in_err-push_number-clause-left : goal.returns-in_err-push_number-clause-left
returns-in_err-push_number-clause-left c = on_err _ (cut_more _ _ (after_number (move_said c.args.session c.args.base c.args.mv)) _ _ c.in_err-push_number.ensures.left (search (rules, append_assoc)))

pub returns-clause-left : goal.returns-clause-left
returns-clause-left c = err_then _ _ _ _ _ _ _ c.in_ok-push_number.ensures.ok c.push_move.ensures.left (search (rules, append_assoc))
