use Rattle.std.specs.Prelude.{ℕ, ◌+◌, List, [], ◌∷◌, ◌++◌, sum_by}
use Rattle.callback_store.specs.Tables.{Table, entry}
pub use Rattle.dimension_core.specs.Cumuls.{route_asks}

-- the sum of f over the steps of the way from a node over these nodes, in order
abbrev pub way : (ℕ → ℕ → ℕ) → ℕ → List ℕ → ℕ
way f i [] = 0
way f i (j ∷ js) = f i j + way f j js

-- the sum of the table's entries on that way
abbrev pub way_cost : Table → ℕ → List ℕ → ℕ
way_cost table i js = way (entry table) i js

-- the sum over neighbouring stops of a route: the depot, its customers, the depot; 0 where the route is empty
abbrev pub route_cost : Table → List ℕ → ℕ
route_cost table [] = 0
route_cost table (c ∷ cs) = way_cost table 0 ((c ∷ cs) ++ 0 ∷ [])

-- the sum over all routes
abbrev pub cost_of : Table → List (List ℕ) → ℕ
cost_of table routes = sum_by (route_cost table) routes

-- how many answers the cost of all routes takes
abbrev pub asks_of : List (List ℕ) → ℕ
asks_of routes = sum_by route_asks routes
