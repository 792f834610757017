use Rattle.std.proofs.Common.{[], ◌∷◌}
use Rattle.best_moves.specs.Search.{IsBestSoFar}
use Rattle.best_moves.specs.Searched.{searched}
use Rattle.best_moves.proofs.shift.best_shift_inside.Given as goal

-- the best of the moves so far
abbrev pub invariant-loop-place : goal.invariant-loop-place
invariant-loop-place g l = IsBestSoFar (searched l.search) (1 ∷ l.search.v ∷ l.place ∷ []) l.best.found

-- the best of the moves so far
abbrev pub invariant-loop-count : goal.invariant-loop-count
invariant-loop-count g l = IsBestSoFar (searched l.search) (1 ∷ l.search.v ∷ l.place ∷ l.count ∷ []) l.best.found
