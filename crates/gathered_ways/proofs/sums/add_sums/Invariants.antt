use Rattle.std.proofs.Common.{◌≡◌, ◌+◌, ◌-◌, ◌*◌, ◌<◌, ◌≤◌, false, length, slice_index}
use Rattle.callback_store.specs.Tables.{Table}
use Rattle.gathered_ways.specs.Sums.{AddsSums}
use Rattle.way_costs.specs.Ways.{AreHopsFrom, along, hop_by}
use Rattle.gathered_ways.proofs.sums.add_sums.Given as goal

-- the sums so far, and the next one
abbrev pub invariant-loop-k : goal.invariant-loop-k
invariant-loop-k l = record {
  sums : (t : Table) → AreHopsFrom false t l.stops l.stops 0 1 l.cells → AddsSums l.turned t l.stops l.k l.fn.sums.items l.sums.items;
  next : (t : Table) → AreHopsFrom false t l.stops l.stops 0 1 l.cells → l.k + 1 < length l.stops
      → l.sum + hop_by l.turned t (slice_index l.stops 0) (slice_index l.stops 1) ≡ along (hop_by l.turned t) l.stops l.k;
  bound : l.sum ≤ 4294967296 * (l.k - 1);
}
