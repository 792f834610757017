use Rattle.row_gains.proofs.Wins.{inside, loses, lost_fits, never, none_on, passed, wanted_fits, whole, wins}
use Rattle.row_gains.proofs.gains.first_gain.Goals as goal

pub gained-requires : goal.gained-requires
gained-requires g c = c.requires.row c.loop-k.k c.loop-k.auto.k c.loop-k-test.true

pub lost-requires : goal.lost-requires
lost-requires g c = c.requires.row c.loop-k.k c.loop-k.auto.k c.loop-k-test.true

pub overflow_add-all_gained : goal.overflow_add-all_gained
overflow_add-all_gained g c = wanted_fits _ _ c.requires.wanted c.gained.ensures.small

pub overflow_add-all_lost : goal.overflow_add-all_lost
overflow_add-all_lost g c = lost_fits _ _ c.requires.lost c.lost.ensures.small

pub loop-k-init : goal.loop-k-init
loop-k-init g c = λ k h l. absurd (never k c.args.from h l)

pub returns-then-all_gained-all_lost-clause-low : goal.returns-then-all_gained-all_lost-clause-low
returns-then-all_gained-all_lost-clause-low g c = c.loop-k.auto.k

pub returns-then-all_gained-all_lost-clause-high : goal.returns-then-all_gained-all_lost-clause-high
returns-then-all_gained-all_lost-clause-high g c = inside c.loop-k.k c.args.end c.loop-k-test.true

pub returns-then-all_gained-all_lost-clause-none : goal.returns-then-all_gained-all_lost-clause-none
returns-then-all_gained-all_lost-clause-none g c = c.loop-k.invariant

pub returns-then-all_gained-all_lost-clause-found : goal.returns-then-all_gained-all_lost-clause-found
returns-then-all_gained-all_lost-clause-found g c = λ h. wins c.args.lost c.args.wanted _ _ _ _ c.lost.ensures.value c.gained.ensures.value c.if-all_gained-all_lost.true

pub loop-k-preserved : goal.loop-k-preserved
loop-k-preserved g c = none_on (g.R.RowCosts.loses c.args.row.now) (g.R.RowCosts.gains c.args.row.now) c.args.lost c.args.wanted c.args.from c.loop-k.k c.loop-k.invariant (loses c.args.lost c.args.wanted _ _ _ _ c.lost.ensures.value c.gained.ensures.value c.if-all_gained-all_lost.false)

pub returns-clause-low : goal.returns-clause-low
returns-clause-low g c = c.requires.order

pub returns-clause-high : goal.returns-clause-high
returns-clause-high g c = whole c.args.end

pub returns-clause-none : goal.returns-clause-none
returns-clause-none g c = λ m h l. c.loop-k.invariant m (passed m c.loop-k.k c.args.end h c.loop-k-test.false) l

pub returns-clause-found : goal.returns-clause-found
returns-clause-found g c = λ h. absurd (never c.args.end c.args.end h (whole c.args.end))
