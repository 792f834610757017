use Rattle.std.proofs.Common.{arith, refl}
use Rattle.board_lines.proofs.Decimals.{two_more, few_whole}
use Rattle.board_lines.proofs.Starting.{cut_more, cut_then, err_then, on_err}
use Rattle.board_lines.proofs.digits.push_few.Goals as goal

pub returns-in_err-push_leading-clause-left : goal.returns-in_err-push_leading-clause-left
returns-in_err-push_leading-clause-left c = on_err _ (cut_more _ _ _ _ _ c.in_err-push_leading.ensures.left (few_whole c.args.n c.requires.low (omega (arith, c.requires.high))))

pub returns-in_err-push_digit-clause-left : goal.returns-in_err-push_digit-clause-left
returns-in_err-push_digit-clause-left c = on_err _ (cut_then _ _ _ _ _ _ c.in_ok-push_leading.ensures.ok (cut_more _ _ _ _ _ c.in_err-push_digit.ensures.left refl) (few_whole c.args.n c.requires.low (omega (arith, c.requires.high))))

pub returns-clause-ok : goal.returns-clause-ok
returns-clause-ok c = two_more _ _ _ _ _ c.args.n c.requires.low (omega (arith, c.requires.high)) c.in_ok-push_leading.ensures.ok c.in_ok-push_digit.ensures.ok c.push_digit-2.ensures.ok

pub returns-clause-left : goal.returns-clause-left
returns-clause-left c = err_then _ _ _ _ _ _ _ c.in_ok-push_leading.ensures.ok (err_then _ _ _ _ _ _ _ c.in_ok-push_digit.ensures.ok c.push_digit-2.ensures.left refl) (few_whole c.args.n c.requires.low (omega (arith, c.requires.high)))
