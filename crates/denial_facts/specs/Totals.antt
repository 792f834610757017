-- What a route takes in all.
use Rattle.std.specs.Prelude.{◌≡◌, ℕ, ◌+◌, ◌<◌, ◌≤◌, List, [], ◌∷◌, length}
use Rattle.callback_store.specs.Tables.{Table, entry}
use Rattle.dimension_core.specs.Cumuls.{Bounds, cap_of, range_of}
use Rattle.denial_facts.specs.Misses.{stops_of}

-- the sum of the transits from node i along some nodes
abbrev pub ways_along : Table → ℕ → List ℕ → ℕ
ways_along t i [] = 0
ways_along t i (j ∷ js) = entry t i j + ways_along t j js

-- and from the depot along a route and back
abbrev pub total_of : Table → List ℕ → ℕ
total_of t route = ways_along t 0 (stops_of route)

-- each node allows every value from 0 up to the vehicle's capacity
pub record IsUpTo (d : Bounds) (vehicle : ℕ) : Type 0 where
  pub some : 0 < length d.ranges
  pub low : (node : ℕ) → node < length d.ranges → (range_of d node).lo ≡ 0
  pub high : (node : ℕ) → node < length d.ranges → cap_of d vehicle ≤ (range_of d node).hi
