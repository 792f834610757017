use Rattle.std.proofs.Common.{rules}
use Rattle.std.specs.Fmt.{decimal}
use Rattle.board_lines.proofs.Starting.{on_err, cut_more, err_then}
use Rattle.board_lines.proofs.json.push_comma.Goals as goal

pub returns-in_err-push_ascii-clause-left : goal.returns-in_err-push_ascii-clause-left
returns-in_err-push_ascii-clause-left c = on_err _ (cut_more _ _ (decimal c.args.n) _ _ c.in_err-push_ascii.ensures.left (search rules))

pub returns-clause-left : goal.returns-clause-left
returns-clause-left c = err_then _ _ _ _ _ _ _ c.in_ok-push_ascii.ensures.ok c.push_decimal.ensures.left (search rules)
