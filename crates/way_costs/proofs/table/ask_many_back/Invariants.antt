use Rattle.std.proofs.Common.{◌≡◌, ◌<◌, ℕ, true, length, slice_index}
use Rattle.way_costs.specs.Ways.{hop_by}
use Rattle.way_costs.proofs.table.ask_many_back.Given as goal

-- the ways so far
abbrev pub invariant-loop-k : goal.invariant-loop-k
invariant-loop-k g l = record {
  sized : length l.row ≡ length l.to;
  ways : (k : ℕ) → k < l.k → slice_index l.row k ≡ hop_by true (g.C.Callback.table l.callback) l.stop (slice_index l.to k);
}
