use Rattle.std.proofs.Common.{[], ◌∷◌}
use Rattle.best_moves.specs.Search.{IsBestSoFar}
use Rattle.best_moves.specs.Searched.{searched}
use Rattle.best_moves.proofs.reverse.best_reverse.Given as goal

-- the best of the moves so far
abbrev pub invariant-loop-first : goal.invariant-loop-first
invariant-loop-first g l = IsBestSoFar (searched l.search) (3 ∷ l.search.v ∷ l.first ∷ []) l.best.found
