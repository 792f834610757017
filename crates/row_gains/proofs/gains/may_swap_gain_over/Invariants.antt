use Rattle.std.proofs.Common.{false, ◌≡◌, ℕ, ◌+◌, ◌<◌, ◌≤◌}
use Rattle.row_gains.specs.Rows.{lost_by_swap, gained_by_swap}
use Rattle.row_gains.proofs.gains.may_swap_gain_over.Given as goal

-- none of the numbers so far wins, if none was seen to
abbrev pub invariant-loop-k : goal.invariant-loop-k
invariant-loop-k l = l.gains ≡ false → (k : ℕ) → k < l.k → l.from ≤ k → lost_by_swap l.row k ≤ l.more + gained_by_swap l.row k
