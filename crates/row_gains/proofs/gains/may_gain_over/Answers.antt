use Rattle.row_gains.proofs.Wins.{never, next_fits, passed, within, within_next}
use Rattle.row_gains.proofs.gains.may_gain_over.Goals as goal

pub loop-k-init : goal.loop-k-init
loop-k-init c = λ e k h l. absurd (never k c.args.from h l)

pub bounds-edges-k : goal.bounds-edges-k
bounds-edges-k c = within c.loop-k.k c.args.end _ c.loop-k-test.true c.requires.row.edges

pub bounds-to-k : goal.bounds-to-k
bounds-to-k c = within c.loop-k.k c.args.end _ c.loop-k-test.true c.requires.row.to

pub overflow_add-k : goal.overflow_add-k
overflow_add-k c = next_fits c.loop-k.k c.args.end c.loop-k-test.true c.ranges.end

pub bounds-on-k : goal.bounds-on-k
bounds-on-k c = within_next c.loop-k.k c.args.end _ c.loop-k-test.true c.requires.row.on

pub returns : goal.returns
returns c = λ e m h l. c.loop-k.invariant e m (passed m c.loop-k.k c.args.end h c.loop-k-test.false) l
