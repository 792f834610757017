use Rattle.std.proofs.Common.{ℕ, ◌+◌, ◌<◌, ◌≤◌}
use Rattle.row_gains.proofs.gains.first_gain.Given as goal

-- none of the numbers so far wins
abbrev pub invariant-loop-k : goal.invariant-loop-k
invariant-loop-k g l = (k : ℕ) → k < l.k → l.from ≤ k → l.lost + g.R.RowCosts.loses l.row k ≤ l.wanted + g.R.RowCosts.gains l.row k
