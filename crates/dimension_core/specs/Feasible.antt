-- Feasible plans: each route of each vehicle is in bounds in each dimension.
use Rattle.std.specs.Prelude.{ℕ, ◌+◌, ◌-◌, ◌<◌, ◌≤◌, List, [], length, slice_index_or}
use Rattle.dimension_core.specs.Cumuls.{IsInBounds, table_of}
use Rattle.dimension_core.specs.Setting.{Setting, dimension_at}

-- the vehicle's route is in bounds in the dimension at place k, from 0 on
abbrev pub FitsIn : Setting → ℕ → ℕ → List ℕ → Type 0
FitsIn s k vehicle route = IsInBounds (table_of s.tables (dimension_at s k)) (dimension_at s k) vehicle route

-- and in each dimension
abbrev pub FitsAll : Setting → ℕ → List ℕ → Type 0
FitsAll s vehicle route = (k : ℕ) → k < length s.dimensions → FitsIn s k vehicle route

-- dimension d, from 1 on, is the first in which the route is out of bounds
pub record IsFirstOut (s : Setting) (vehicle : ℕ) (route : List ℕ) (d : ℕ) : Type 0 where
  pub low : 1 ≤ d
  pub high : d ≤ length s.dimensions
  pub out : ¬ FitsIn s (d - 1) vehicle route
  pub before : (k : ℕ) → k + 1 < d → FitsIn s k vehicle route

-- each route of a plan is in bounds in each dimension
abbrev pub IsFeasible : Setting → List (List ℕ) → Type 0
IsFeasible s routes = (vehicle : ℕ) → 1 ≤ vehicle → vehicle ≤ s.vehicles → FitsAll s vehicle (slice_index_or routes (vehicle - 1) [])
