use Rattle.board_lines.proofs.Words.{fault_same, pair_bad, pair_half_bad, pair_read}
use Rattle.board_lines.proofs.arguments.pair_argument.Goals as goal

pub returns-in_err-first : goal.returns-in_err-first
returns-in_err-first c = fault_same _ _ _ c.from_residual.ensures (pair_bad c.args.numbers.now _ c.in-len2.len_at_least c.in-len2.len_below c.in_err-first.ensures)

pub returns-in_err-last : goal.returns-in_err-last
returns-in_err-last c = fault_same _ _ _ c.from_residual-in_err-last.ensures (pair_half_bad c.args.numbers.now _ _ c.in-len2.len_at_least c.in-len2.len_below c.in_ok-first.ensures c.in_err-last.ensures)

pub returns : goal.returns
returns c = pair_read c.args.numbers.now _ _ c.in-len2.len_at_least c.in-len2.len_below c.in_ok-first.ensures c.in_ok-last.ensures
