use Rattle.std.proofs.Common.{◌≡◌, ℕ, ◌-◌, ◌<◌, ◌≤◌, arith, List, Option, Some}
use Rattle.move_core.specs.declared.moves.Move.{Move}
use Rattle.move_judge.specs.Near.{IsNear}
use Rattle.move_judge.specs.Allowed.{IsAllowed}
use Rattle.best_moves.specs.Best.{numbers_of}
use Rattle.best_moves.specs.Search.{gain_of, IsBestSoFar, IsNext}
use Rattle.best_moves.specs.Searched.{Searched, CountsIn, IsPossible, new_cost, old_cost, scope_of}
use Rattle.best_moves.proofs.Firsts.{best_kept, best_taken}

-- the next move gains no more than the best so far
pub kept_by_gain : (q : Searched) (x : Move) (gain : ℕ) (best : Option (Move × ℕ)) (bound : List ℕ)
    → gain ≡ old_cost q - new_cost q x → gain ≤ gain_of best → IsNext (CountsIn q) x bound
    → IsBestSoFar q (numbers_of x) best
    → IsBestSoFar q bound best
kept_by_gain q x gain best bound e h next g =
    best_kept (CountsIn q) (new_cost q) (old_cost q) x bound best (λ m c. c.lower) next (λ c. omega arith) g

-- or it is not allowed
pub kept_by_rule : (q : Searched) (x : Move) (best : Option (Move × ℕ)) (bound : List ℕ)
    → (IsAllowed (scope_of q) q.view q.skip x → ⊥) → IsNext (CountsIn q) x bound
    → IsBestSoFar q (numbers_of x) best
    → IsBestSoFar q bound best
kept_by_rule q x best bound out next g =
    best_kept (CountsIn q) (new_cost q) (old_cost q) x bound best (λ m c. c.lower) next (λ c. absurd (out c.allowed)) g

-- or it counts and gains more
pub taken_by_gain : (q : Searched) (x : Move) (gain : ℕ) (best : Option (Move × ℕ)) (bound : List ℕ)
    → gain ≡ old_cost q - new_cost q x → gain_of best < gain → IsNear q.v q.w x → IsPossible q x → IsAllowed (scope_of q) q.view q.skip x
    → IsNext (CountsIn q) x bound
    → IsBestSoFar q (numbers_of x) best
    → IsBestSoFar q bound (Some (x, gain))
taken_by_gain q x gain best bound e h near can allowed next g =
    best_taken (CountsIn q) (new_cost q) (old_cost q) x gain bound best (λ m c. c.lower) next
    (record { near = near; possible = can; allowed = allowed; lower = omega arith }) e h g
