use Rattle.std.proofs.Common.{arith}
use Rattle.board_lines.proofs.Decimals.{one_more, leading_whole}
use Rattle.board_lines.proofs.Starting.{cut_more, err_then, on_err}
use Rattle.board_lines.proofs.digits.push_leading.Goals as goal

pub returns-in_err-push_first-clause-left : goal.returns-in_err-push_first-clause-left
returns-in_err-push_first-clause-left c = on_err _ (cut_more _ _ _ _ _ c.in_err-push_first.ensures.left (leading_whole c.args.n (omega arith) (omega (arith, c.requires))))

pub returns-clause-ok : goal.returns-clause-ok
returns-clause-ok c = one_more _ _ _ _ c.args.n (omega arith) (omega (arith, c.requires)) c.in_ok-push_first.ensures.ok c.push_digit.ensures.ok

pub returns-clause-left : goal.returns-clause-left
returns-clause-left c = err_then _ _ _ _ _ _ _ c.in_ok-push_first.ensures.ok c.push_digit.ensures.left (leading_whole c.args.n (omega arith) (omega (arith, c.requires)))
