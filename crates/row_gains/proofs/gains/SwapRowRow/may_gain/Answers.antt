use Rattle.std.proofs.Common.{sym}
use Rattle.std.proofs.lemmas.Bool.{false≢true}
use Rattle.row_gains.proofs.Wins.{first_in, long_row, swap_whole, whole}
use Rattle.row_gains.proofs.gains.SwapRowRow.may_gain.Goals as goal

pub overflow_sub-end : goal.overflow_sub-end
overflow_sub-end c = c.requires.order

pub returns-then-end-from-lt-FEW : goal.returns-then-end-from-lt-FEW
returns-then-end-from-lt-FEW c = λ e. absurd (false≢true (sym e))

pub may_swap_gain_steps-requires-clause-begin : goal.may_swap_gain_steps-requires-clause-begin
may_swap_gain_steps-requires-clause-begin c = (c.requires.row c.args.from (whole c.args.from) (first_in c.args.from c.args.end c.requires.order c.if-end-from-lt-FEW.false)).0

pub may_swap_gain_steps-requires-clause-long : goal.may_swap_gain_steps-requires-clause-long
may_swap_gain_steps-requires-clause-long c = long_row c.args.from c.args.end c.requires.order c.if-end-from-lt-FEW.false

pub may_swap_gain_steps-requires-clause-row : goal.may_swap_gain_steps-requires-clause-row
may_swap_gain_steps-requires-clause-row c = swap_whole c.args.self.now c.args.from c.args.end c.requires.order c.if-end-from-lt-FEW.false c.requires.row
