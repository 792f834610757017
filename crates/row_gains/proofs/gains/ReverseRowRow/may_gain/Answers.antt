use Rattle.row_gains.proofs.gains.ReverseRowRow.may_gain.Goals as goal

pub overflow_sub-end : goal.overflow_sub-end
overflow_sub-end c = c.requires.order
