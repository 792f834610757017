use Rattle.std.specs.Prelude.{◌≡◌, ℕ, ◌⊎◌, List, Option, Some, None}
use Rattle.move_core.specs.declared.moves.Move.{Move}
use Rattle.best_moves.specs.Best.{numbers_of, IsLower, IsFirstLeast}
use Rattle.best_moves.specs.Searched.{Searched, CountsIn, old_cost, new_cost}

-- what the best so far gains
abbrev pub gain_of : Option (Move × ℕ) → ℕ
gain_of None = 0
gain_of (Some p) = p.1

-- a move with P whose numbers come before a bound
abbrev pub IsBelow : (Move → Type 0) → List ℕ → Move → Type 0
IsBelow P bound mv = P mv × IsLower (numbers_of mv) bound

-- the best so far is the first least of the moves with P whose numbers come before a bound, or there is none
abbrev pub IsBestBelow : (Move → Type 0) → (Move → ℕ) → ℕ → List ℕ → Option (Move × ℕ) → Type 0
IsBestBelow P cost before bound None = (mv : Move) → ¬ IsBelow P bound mv
IsBestBelow P cost before bound (Some p) = IsFirstLeast (IsBelow P bound) cost before p.0 p.1

-- of the moves with P, x is the only one between its own numbers and a bound
pub record IsNext (P : Move → Type 0) (x : Move) (bound : List ℕ) : Type 0 where
  pub up : IsLower (numbers_of x) bound
  pub all : (mv : Move) → P mv → IsLower (numbers_of mv) bound → IsLower (numbers_of mv) (numbers_of x) ⊎ (mv ≡ x)

-- the best of the moves that count and whose numbers come before a bound
abbrev pub IsBestSoFar : Searched → List ℕ → Option (Move × ℕ) → Type 0
IsBestSoFar q bound best = IsBestBelow (CountsIn q) (new_cost q) (old_cost q) bound best
