-- By how much a new route is out of bounds.
use Rattle.std.specs.Prelude.{◌≡◌, ℕ, ◌-◌, ◌<◌, ◌≤◌, ◌⊎◌, List, [], ◌∷◌, slice_index}
use Rattle.dimension_core.specs.Cumuls.{IsStart, cap_of, table_of}
use Rattle.dimension_core.specs.NewRoutes.{Changes}
use Rattle.dimension_core.specs.Setting.{Setting, dimension_at}
use Rattle.denial_facts.specs.declared.excess.Excess.{Excess}
use Rattle.denial_facts.specs.declared.excess.Excess.TheVariants as excesses
use Rattle.denial_facts.specs.Misses.{IsFirstMiss, stops_of}
use Rattle.denial_facts.specs.Totals.{total_of}

-- a vehicle has this new route
abbrev pub HasRoute : Changes → ℕ → List ℕ → Type 0
HasRoute [] v route = ⊥
HasRoute (c ∷ cs) v route = ((c.0 ≡ v) × (c.1 ≡ route)) ⊎ HasRoute cs v route

-- By how much a vehicle's route is out of bounds in dimension d, from 1 on: what it takes in all of the first, which is more than the vehicle's
-- capacity; or the first stop without a value in bounds, with the least value there and the greatest that is allowed.
abbrev pub IsExcess : Setting → ℕ → List ℕ → ℕ → Excess → Type 0
IsExcess s v route d (excesses.Load total most) =
    (d ≡ 1) × (total ≡ total_of (table_of s.tables (dimension_at s 0)) route) × (most ≡ cap_of (dimension_at s 0) v) × (most < total)
IsExcess s v route d (excesses.Late place node least most) =
    (1 ≤ place) × (node ≡ slice_index (stops_of route) (place - 1))
    × IsFirstMiss (table_of s.tables (dimension_at s (d - 1))) (dimension_at s (d - 1)) v (stops_of route) (place - 1) least most
IsExcess s v route d excesses.Start = (x : ℕ) → IsStart (dimension_at s (d - 1)) v x → ⊥

-- that is said of a new route of the vehicle
abbrev pub IsOutBy : Setting → Changes → ℕ → ℕ → Excess → Type 0
IsOutBy s changes v d excess = (route : List ℕ) × HasRoute changes v route × IsExcess s v route d excess
