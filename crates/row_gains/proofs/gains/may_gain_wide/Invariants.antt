use Rattle.std.proofs.Common.{false, ◌≡◌, ℕ, ◌+◌, ◌<◌, ◌≤◌}
use Rattle.row_gains.proofs.gains.may_gain_wide.Given as goal

-- none of the numbers so far wins, if none was seen to
abbrev pub invariant-loop-k : goal.invariant-loop-k
invariant-loop-k g l = l.gains ≡ false → (k : ℕ) → k < l.k → l.from ≤ k → l.lost + g.R.RowCosts.loses l.row k ≤ l.wanted + g.R.RowCosts.gains l.row k
