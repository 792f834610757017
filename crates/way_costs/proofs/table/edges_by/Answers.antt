use Rattle.way_costs.specs.Ways.{hop}
use Rattle.std.proofs.Common.{arith, length, ◌+◌, slice_index, ℕ}
use Rattle.way_costs.proofs.Loops.{before_last, edge_done, edge_in, next_before, some_long, edges_more, edges_set}
use Rattle.way_costs.proofs.table.edges_by.Goals as goal

pub overflow_sub-k-end : goal.overflow_sub-k-end
overflow_sub-k-end g c = some_long _ _ c.requires.room

pub loop-k-init : goal.loop-k-init
loop-k-init g c = record { counted = c.requires.room; hops = λ k h. absurd (omega arith) }

pub bounds-stops-k : goal.bounds-stops-k
bounds-stops-k g c = before_last c.loop-k.k (length c.args.stops.now) c.loop-k-test.true

pub bounds-stops-k-in-loop-k : goal.bounds-stops-k-in-loop-k
bounds-stops-k-in-loop-k g c = next_before c.loop-k.k (length c.args.stops.now) c.loop-k-test.true

pub way_between-requires-clause-from : goal.way_between-requires-clause-from
way_between-requires-clause-from g c = c.requires.known c.loop-k.k 0 (before_last c.loop-k.k (length c.args.stops.now) c.loop-k-test.true)

pub way_between-requires-clause-to : goal.way_between-requires-clause-to
way_between-requires-clause-to g c = c.requires.known (c.loop-k.k + 1) 0 (next_before c.loop-k.k (length c.args.stops.now) c.loop-k-test.true)

pub bounds-edges-k : goal.bounds-edges-k
bounds-edges-k g c = edge_in c.loop-k.k (length c.args.stops.now) _ c.loop-k-test.true c.loop-k.invariant.counted

pub returns : goal.returns
returns g c = record { counted = c.loop-k.invariant.counted; hops = λ k h. c.loop-k.invariant.hops k (edge_done k (length c.args.stops.now) _ _ h c.loop-k.invariant.counted c.loop-k-test.false) }

pub loop-k-preserved : goal.loop-k-preserved
loop-k-preserved g c = record {
  counted = edges_set c.loop-k.edges c.loop-k.k c.way_between.result _ c.loop-k.invariant.counted;
  hops = edges_more (λ (k : ℕ). hop (g.C.Callback.table c.args.callback.now) (slice_index c.args.stops.now k) (slice_index c.args.stops.now (k + 1)))
      c.loop-k.edges c.loop-k.k c.way_between.result (edge_in c.loop-k.k (length c.args.stops.now) _ c.loop-k-test.true c.loop-k.invariant.counted) c.loop-k.invariant.hops c.way_between.ensures;
}
