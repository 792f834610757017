use Rattle.std.proofs.Common.{[], ◌∷◌}
use Rattle.best_moves.specs.Search.{IsBestSoFar}
use Rattle.best_moves.specs.Searched.{searched}
use Rattle.best_moves.proofs.cross.best_cross.Given as goal

-- the best of the moves so far
abbrev pub invariant-loop-keep : goal.invariant-loop-keep
invariant-loop-keep g l = IsBestSoFar (searched l.search) (4 ∷ l.search.v ∷ l.keep ∷ []) l.best.found
