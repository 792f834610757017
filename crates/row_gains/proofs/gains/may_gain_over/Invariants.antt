use Rattle.std.proofs.Common.{false, ◌≡◌, ℕ, ◌+◌, ◌<◌, ◌≤◌}
use Rattle.row_gains.specs.Rows.{lost_by_cut, gained_by_cut}
use Rattle.row_gains.proofs.gains.may_gain_over.Given as goal

-- none of the numbers so far wins, if none was seen to
abbrev pub invariant-loop-k : goal.invariant-loop-k
invariant-loop-k l = l.gains ≡ false → (k : ℕ) → k < l.k → l.from ≤ k → lost_by_cut l.row k ≤ l.more + gained_by_cut l.row k
