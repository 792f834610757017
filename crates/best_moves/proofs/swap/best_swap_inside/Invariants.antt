use Rattle.std.proofs.Common.{[], ◌∷◌}
use Rattle.best_moves.specs.Search.{IsBestSoFar}
use Rattle.best_moves.specs.Searched.{searched}
use Rattle.best_moves.proofs.swap.best_swap_inside.Given as goal

-- the best of the moves so far
abbrev pub invariant-loop-place : goal.invariant-loop-place
invariant-loop-place g l = IsBestSoFar (searched l.search) (2 ∷ l.search.v ∷ l.place ∷ []) l.best.found
