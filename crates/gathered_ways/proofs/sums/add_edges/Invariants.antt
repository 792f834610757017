use Rattle.std.proofs.Common.{◌≡◌, ℕ, List, ◌++◌, length}
use Rattle.gathered_ways.specs.Sums.{ArePicked}
use Rattle.gathered_ways.proofs.sums.add_edges.Given as goal

-- the edges so far stand behind the stops
abbrev pub invariant-loop-k : goal.invariant-loop-k
invariant-loop-k l = (edges : List ℕ) × (l.stops.items ≡ l.fn.stops.items ++ edges) × ArePicked (length l.fn.stops.items) l.k l.cells edges
