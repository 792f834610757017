use Rattle.row_gains.proofs.Wins.{step_fits, step_low, step_high, step_last}
use Rattle.row_gains.proofs.gains.steps_end.Goals as goal

pub overflow_sub-result : goal.overflow_sub-result
overflow_sub-result c = step_low c.args.from c.args.end c.requires.long

pub overflow_sub-result-2 : goal.overflow_sub-result-2
overflow_sub-result-2 c = step_fits c.args.from c.args.end c.requires.long

pub returns-clause-low : goal.returns-clause-low
returns-clause-low c = step_high c.args.from c.args.end c.requires.long

pub returns-clause-last : goal.returns-clause-last
returns-clause-last c = step_last c.args.from c.args.end c.requires.long
