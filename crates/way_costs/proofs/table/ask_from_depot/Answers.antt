use Rattle.std.proofs.Common.{arith, ◌<◌, ℕ, slice_index, subst, sym}
use Rattle.way_costs.specs.Ways.{hop_by}
use Rattle.way_costs.proofs.Loops.{edges_more, line_set}
use Rattle.way_costs.proofs.table.ask_from_depot.Goals as goal

pub loop-k-init : goal.loop-k-init
loop-k-init g c = record { sized = c.requires.room; ways = λ k h. absurd (omega arith) }

pub way_from_depot-requires-clause-stop : goal.way_from_depot-requires-clause-stop
way_from_depot-requires-clause-stop g c = c.requires.to c.loop-k.k 0 c.loop-k-test.true

pub bounds-to-k : goal.bounds-to-k
bounds-to-k g c = c.loop-k-test.true

pub bounds-row-k : goal.bounds-row-k
bounds-row-k g c = subst (λ (n : ℕ). c.loop-k.k < n) (sym c.loop-k.invariant.sized) c.loop-k-test.true

pub loop-k-preserved : goal.loop-k-preserved
loop-k-preserved g c =
    let t = g.C.Callback.table c.args.callback.now in
    record {
      sized = line_set c.loop-k.row c.loop-k.k c.way_from_depot.result _ c.loop-k.invariant.sized;
      ways = edges_more (λ (k : ℕ). hop_by c.args.turned t 0 (slice_index c.args.to.now k)) c.loop-k.row c.loop-k.k c.way_from_depot.result
          (subst (λ (n : ℕ). c.loop-k.k < n) (sym c.loop-k.invariant.sized) c.loop-k-test.true) c.loop-k.invariant.ways c.way_from_depot.ensures;
    }

pub returns-clause-sized : goal.returns-clause-sized
returns-clause-sized g c = c.loop-k.invariant.sized

pub returns-clause-ways : goal.returns-clause-ways
returns-clause-ways g c = λ k h. let end = c.loop-k-test.false in c.loop-k.invariant.ways k (omega arith)
