use Rattle.std.proofs.Common.{◌+◌, ◌≤◌, sym}
use Rattle.std.proofs.lemmas.Bool.{false≢true}
use Rattle.row_gains.specs.Rows.{lost_by_cut, gained_by_cut}
use Rattle.row_gains.proofs.Wins.{cut_shorter, step_order, step_room, steps_all}
use Rattle.row_gains.proofs.gains.may_gain_steps_over.Goals as goal

pub may_gain_over-requires-clause-row : goal.may_gain_over-requires-clause-row
may_gain_over-requires-clause-row c = cut_shorter c.args.row.now _ c.args.end c.steps_end-whole.ensures.high c.requires.row

pub overflow_sub-end : goal.overflow_sub-end
overflow_sub-end c = step_room c.args.from c.args.end c.requires.long

pub may_gain_over-requires-2-clause-order : goal.may_gain_over-requires-2-clause-order
may_gain_over-requires-2-clause-order c = step_order c.args.end

pub returns-then-may_gain_over : goal.returns-then-may_gain_over
returns-then-may_gain_over c = λ e. absurd (false≢true (sym e))

pub returns : goal.returns
returns c = λ e. steps_all (λ k. lost_by_cut c.args.row.now k ≤ c.args.more + gained_by_cut c.args.row.now k) c.args.from _ c.args.end c.steps_end-whole.ensures.last (c.may_gain_over.ensures c.if-may_gain_over.false) (c.may_gain_over-2.ensures e)
