use Rattle.std.proofs.Common.{sym}
use Rattle.std.proofs.lemmas.Bool.{false≢true}
use Rattle.row_gains.proofs.Wins.{cut_whole, long_row}
use Rattle.row_gains.proofs.gains.CutRowRow.may_gain.Goals as goal

pub overflow_sub-end : goal.overflow_sub-end
overflow_sub-end c = c.requires.order

pub returns-then-end-from-lt-FEW : goal.returns-then-end-from-lt-FEW
returns-then-end-from-lt-FEW c = λ e. absurd (false≢true (sym e))

pub may_gain_steps_over-requires-clause-long : goal.may_gain_steps_over-requires-clause-long
may_gain_steps_over-requires-clause-long c = long_row c.args.from c.args.end c.requires.order c.if-end-from-lt-FEW.false

pub may_gain_steps_over-requires-clause-row : goal.may_gain_steps_over-requires-clause-row
may_gain_steps_over-requires-clause-row c = cut_whole c.args.self.now c.args.from c.args.end c.requires.order c.if-end-from-lt-FEW.false c.requires.row
