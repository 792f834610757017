use Rattle.std.proofs.Common.{ℕ, ◌<◌, ◌≤◌, slice_index, All}
use Rattle.way_costs.proofs.table.most_of.Given as goal

-- none of the numbers so far is above the greatest, which no bound of all numbers is below
abbrev pub invariant-loop-k : goal.invariant-loop-k
invariant-loop-k l = record {
  above : (n : ℕ) → n < l.k → slice_index l.edges n ≤ l.most;
  least : (bound : ℕ) → All (λ x. x ≤ bound) l.edges → l.most ≤ bound;
}
