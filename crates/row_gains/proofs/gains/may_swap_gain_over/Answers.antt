use Rattle.row_gains.proofs.Wins.{begun_low, never, next_fits, passed, within, within_before, within_next}
use Rattle.row_gains.proofs.gains.may_swap_gain_over.Goals as goal

pub loop-k-init : goal.loop-k-init
loop-k-init c = λ e k h l. absurd (never k c.args.from h l)

pub overflow_sub-k : goal.overflow_sub-k
overflow_sub-k c = begun_low c.args.from c.loop-k.k c.requires.begin c.loop-k.auto.k

pub bounds-edges-k : goal.bounds-edges-k
bounds-edges-k c = within_before c.loop-k.k c.args.end _ c.loop-k-test.true c.requires.row.edges

pub bounds-edges-k-in-loop-k : goal.bounds-edges-k-in-loop-k
bounds-edges-k-in-loop-k c = within c.loop-k.k c.args.end _ c.loop-k-test.true c.requires.row.edges

pub bounds-before-k : goal.bounds-before-k
bounds-before-k c = within c.loop-k.k c.args.end _ c.loop-k-test.true c.requires.row.before

pub bounds-next-k : goal.bounds-next-k
bounds-next-k c = within c.loop-k.k c.args.end _ c.loop-k-test.true c.requires.row.next

pub bounds-back-k : goal.bounds-back-k
bounds-back-k c = within_before c.loop-k.k c.args.end _ c.loop-k-test.true c.requires.row.back

pub overflow_add-k : goal.overflow_add-k
overflow_add-k c = next_fits c.loop-k.k c.args.end c.loop-k-test.true c.ranges.end

pub bounds-here-k : goal.bounds-here-k
bounds-here-k c = within_next c.loop-k.k c.args.end _ c.loop-k-test.true c.requires.row.here

pub returns : goal.returns
returns c = λ e m h l. c.loop-k.invariant e m (passed m c.loop-k.k c.args.end h c.loop-k-test.false) l
