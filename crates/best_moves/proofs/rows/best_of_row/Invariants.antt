use Rattle.std.proofs.Common.{◌≤◌, ◌-◌}
use Rattle.best_moves.specs.Best.{numbers_of}
use Rattle.best_moves.specs.Rows.{move_at}
use Rattle.best_moves.specs.Search.{IsBestSoFar}
use Rattle.best_moves.specs.Searched.{searched}
use Rattle.best_moves.proofs.rows.best_of_row.Given as goal

-- the best of the moves so far
abbrev pub invariant-row : goal.invariant-row
invariant-row g l = record {
  low : l.first ≤ l.at;
  high : l.at ≤ l.end;
  best : IsBestSoFar (searched l.search) (numbers_of (move_at (searched l.search) l.row.kind l.at)) l.best.found;
}

abbrev pub decreases-row : goal.decreases-row
decreases-row g l = l.end - l.at
