use Rattle.std.proofs.Common.{◌≡◌, ◌+◌, ◌<◌, ℕ, length, slice_index}
use Rattle.way_costs.specs.Ways.{hop}
use Rattle.way_costs.proofs.table.edges_by.Given as goal

-- the ways so far
abbrev pub invariant-loop-k : goal.invariant-loop-k
invariant-loop-k g l = record {
  counted : length l.edges + 1 ≡ length l.stops;
  hops : (k : ℕ) → k < l.k → slice_index l.edges k ≡ hop (g.C.Callback.table l.callback) (slice_index l.stops k) (slice_index l.stops (k + 1));
}
