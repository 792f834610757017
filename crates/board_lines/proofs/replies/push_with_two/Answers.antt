use Rattle.std.proofs.Common.{rules, append_assoc}
use Rattle.board_lines.specs.Replies.{spaced}
use Rattle.board_lines.proofs.Starting.{on_err, cut_more, err_then}
use Rattle.board_lines.proofs.replies.push_with_two.Goals as goal

pub returns-in_err-push_with-clause-left : goal.returns-in_err-push_with-clause-left
returns-in_err-push_with-clause-left c = on_err _ (cut_more _ _ (spaced c.args.second) _ _ c.in_err-push_with.ensures.left (search (rules, append_assoc)))

pub returns-clause-left : goal.returns-clause-left
returns-clause-left c = err_then _ _ _ _ _ _ _ c.in_ok-push_with.ensures.ok c.push_second.ensures.left (search (rules, append_assoc))
