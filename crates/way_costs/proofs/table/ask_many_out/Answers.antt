use Rattle.std.proofs.Common.{arith, ◌<◌, ℕ, false, slice_index, subst, sym}
use Rattle.way_costs.specs.Ways.{hop_by}
use Rattle.way_costs.proofs.Cells.{way_fits, way_from}
use Rattle.way_costs.proofs.Loops.{edges_more, line_set}
use Rattle.way_costs.proofs.table.ask_many_out.Goals as goal

pub loop-k-init : goal.loop-k-init
loop-k-init g c = record { sized = c.requires.room; ways = λ k h. absurd (omega arith) }

pub bounds-to-k : goal.bounds-to-k
bounds-to-k g c = c.loop-k-test.true

pub bounds-row-k : goal.bounds-row-k
bounds-row-k g c = subst (λ (n : ℕ). c.loop-k.k < n) (sym c.loop-k.invariant.sized) c.loop-k-test.true

pub answer_way-requires-clause-from : goal.answer_way-requires-clause-from
answer_way-requires-clause-from g c = c.requires.stop

pub answer_way-requires-clause-to : goal.answer_way-requires-clause-to
answer_way-requires-clause-to g c = c.requires.to c.loop-k.k 0 c.loop-k-test.true

pub overflow_cast-row : goal.overflow_cast-row
overflow_cast-row g c = way_fits _ c.answer_way.ensures.small

pub loop-k-preserved : goal.loop-k-preserved
loop-k-preserved g c =
    let t = g.C.Callback.table c.args.callback.now in
    record {
      sized = line_set c.loop-k.row c.loop-k.k c.answer_way.result _ c.loop-k.invariant.sized;
      ways = edges_more (λ (k : ℕ). hop_by false t c.args.stop (slice_index c.args.to.now k)) c.loop-k.row c.loop-k.k c.answer_way.result
          (subst (λ (n : ℕ). c.loop-k.k < n) (sym c.loop-k.invariant.sized) c.loop-k-test.true) c.loop-k.invariant.ways
          (way_from false t c.args.stop (slice_index c.args.to.now c.loop-k.k) c.answer_way.result c.requires.customer c.answer_way.ensures.answer);
    }

pub returns-clause-sized : goal.returns-clause-sized
returns-clause-sized g c = c.loop-k.invariant.sized

pub returns-clause-ways : goal.returns-clause-ways
returns-clause-ways g c = λ k h. let end = c.loop-k-test.false in c.loop-k.invariant.ways k (omega arith)
