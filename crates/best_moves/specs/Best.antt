use Rattle.std.specs.Prelude.{◌≡◌, ℕ, ◌+◌, ◌<◌, ◌≤◌, ◌⊎◌, true, List, [], ◌∷◌}
use Rattle.dimension_core.specs.Setting.{Setting}
use Rattle.pin_core.specs.View.{ViewState}
use Rattle.move_core.specs.declared.moves.Move.{Move}
use Rattle.move_core.specs.declared.moves.Move.TheVariants.{Insert, Remove, Shift, Swap, Reverse, Cross}
use Rattle.move_core.specs.Moves.{is_possible}
use Rattle.way_costs.specs.Costs.{cost_before, cost_after}
use Rattle.move_judge.specs.Near.{IsNear}
use Rattle.move_judge.specs.Allowed.{IsAllowed}

-- The number of a move's kind in the order of ties, then the move's numbers in the order of its fields.
abbrev pub numbers_of : Move → List ℕ
numbers_of (Shift vehicle place n to at) = 1 ∷ vehicle ∷ place ∷ n ∷ to ∷ at ∷ []
numbers_of (Swap vehicle place other at) = 2 ∷ vehicle ∷ place ∷ other ∷ at ∷ []
numbers_of (Reverse vehicle first last) = 3 ∷ vehicle ∷ first ∷ last ∷ []
numbers_of (Cross vehicle keep other keep_other) = 4 ∷ vehicle ∷ keep ∷ other ∷ keep_other ∷ []
numbers_of (Insert customer vehicle place) = 5 ∷ customer ∷ vehicle ∷ place ∷ []
numbers_of (Remove vehicle place) = 6 ∷ vehicle ∷ place ∷ []

-- numbers come before others by the first in which they differ; a list comes before each that goes on after it
abbrev pub IsLower : List ℕ → List ℕ → Type 0
IsLower [] [] = ⊥
IsLower [] (y ∷ ys) = Unit {0}
IsLower (x ∷ xs) [] = ⊥
IsLower (x ∷ xs) (y ∷ ys) = (x < y) ⊎ ((x ≡ y) × IsLower xs ys)

-- the move counts: it is near, has an effect, is allowed, and lowers the cost
pub record Counts (s : Setting) (view : ViewState) (skip : List Move) (v w : ℕ) (mv : Move) : Type 0 where
  pub near : IsNear v w mv
  pub possible : is_possible s.customers view.routes mv ≡ true
  pub allowed : IsAllowed s view skip mv
  pub lower : cost_after s view mv < cost_before s view

-- Of the moves with P, mv is the first with the least cost, and gain is what it saves.
pub record IsFirstLeast (P : Move → Type 0) (cost : Move → ℕ) (before : ℕ) (mv : Move) (gain : ℕ) : Type 0 where
  pub counts : P mv
  pub gained : cost mv + gain ≡ before
  pub least : (other : Move) → P other → cost mv ≤ cost other
  pub first : (other : Move) → P other → cost other ≡ cost mv → ¬ IsLower (numbers_of other) (numbers_of mv)

-- the best move near (v, w), and its gain
abbrev pub IsBest : Setting → ViewState → List Move → ℕ → ℕ → Move → ℕ → Type 0
IsBest s view skip v w mv gain = IsFirstLeast (Counts s view skip v w) (cost_after s view) (cost_before s view) mv gain

-- no move counts
abbrev pub IsIdle : Setting → ViewState → List Move → ℕ → ℕ → Type 0
IsIdle s view skip v w = (mv : Move) → ¬ Counts s view skip v w mv
