use Rattle.std.proofs.Common.{◌<◌, ℕ, true, slice_index, subst, sym}
use Rattle.way_costs.proofs.Cells.{asked_floor, asked_more, asked_none, asked_ways, way_fits, way_from}
use Rattle.way_costs.proofs.table.ask_back.Goals as goal

pub loop-k-init : goal.loop-k-init
loop-k-init g c = asked_none true _ c.args.stop c.args.to.now _ _ c.requires.room

pub bounds-to-k : goal.bounds-to-k
bounds-to-k g c = c.loop-k-test.true

pub bounds-row-k : goal.bounds-row-k
bounds-row-k g c = subst (λ (n : ℕ). c.loop-k.k < n) (sym c.loop-k.invariant.sized) c.loop-k-test.true

pub returns-clause-sized : goal.returns-clause-sized
returns-clause-sized g c = c.loop-k.invariant.sized

pub returns-clause-ways : goal.returns-clause-ways
returns-clause-ways g c = asked_ways true _ c.args.stop c.args.to.now c.loop-k.row c.loop-k.k c.loop-k.least c.loop-k-test.false c.loop-k.invariant

pub returns-clause-least : goal.returns-clause-least
returns-clause-least g c = asked_floor true _ c.args.stop c.args.to.now c.loop-k.row c.loop-k.k c.loop-k.least c.loop-k-test.false c.loop-k.invariant

pub answer_way-way-requires-clause-to : goal.answer_way-way-requires-clause-to
answer_way-way-requires-clause-to g c = c.requires.stop

pub answer_way-way-requires-clause-from : goal.answer_way-way-requires-clause-from
answer_way-way-requires-clause-from g c = c.requires.to c.loop-k.k 0 c.loop-k-test.true

pub overflow_cast-way : goal.overflow_cast-way
overflow_cast-way g c = way_fits _ c.answer_way-way.ensures.small

pub loop-k-preserved : goal.loop-k-preserved
loop-k-preserved g c =
    asked_more true (g.C.Callback.table c.args.callback.now) c.args.stop c.args.to.now c.loop-k.row c.loop-k.k c.loop-k.least c.min-least.result c.answer_way-way.result c.loop-k-test.true c.loop-k.invariant
    (way_from true (g.C.Callback.table c.args.callback.now) c.args.stop (slice_index c.args.to.now c.loop-k.k) c.answer_way-way.result c.requires.customer c.answer_way-way.ensures.answer) c.min-least.ensures
