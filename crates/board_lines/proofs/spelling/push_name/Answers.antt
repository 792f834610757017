use Rattle.std.proofs.Common.{rules, append_assoc}
use Rattle.board_lines.proofs.Starting.{on_err, cut_more, err_then}
use Rattle.board_lines.proofs.spelling.push_name.Goals as goal

pub returns-in_err-push_ascii-clause-left : goal.returns-in_err-push_ascii-clause-left
returns-in_err-push_ascii-clause-left c = on_err _ (cut_more _ _ (c.args.name.now) _ _ c.in_err-push_ascii.ensures.left (search rules))

pub returns-clause-left : goal.returns-clause-left
returns-clause-left c = err_then _ _ _ _ _ _ _ c.in_ok-push_ascii.ensures.ok c.push_text.ensures.left (search (rules, append_assoc))
