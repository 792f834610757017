-- New routes of some vehicles, and whether they are in bounds.
use Rattle.std.specs.Prelude.{◌≡◌, ℕ, ◌≤◌, List, [], ◌∷◌, All}
use Rattle.dimension_core.specs.Setting.{Setting}
use Rattle.dimension_core.specs.Feasible.{FitsAll, IsFirstOut}

-- new routes, each for a vehicle
abbrev pub Changes : Type 0
Changes = List (ℕ × List ℕ)

-- each new route is of a vehicle and customers of the setting
abbrev pub AllKnown : Setting → Changes → Type 0
AllKnown s [] = Unit {0}
AllKnown s (c ∷ cs) = ((1 ≤ c.0) × (c.0 ≤ s.vehicles) × All (λ customer. customer ≤ s.customers) c.1) × AllKnown s cs

-- each new route is in bounds in each dimension
abbrev pub AllFit : Setting → Changes → Type 0
AllFit s [] = Unit {0}
AllFit s (c ∷ cs) = FitsAll s c.0 c.1 × AllFit s cs

-- The first new route that is out of bounds in some dimension is that of the vehicle, and d is the first such dimension.
abbrev pub IsOut : Setting → Changes → ℕ → ℕ → Type 0
IsOut s [] vehicle d = ⊥
IsOut s (c ∷ cs) vehicle d =
    (¬ FitsAll s c.0 c.1 → (vehicle ≡ c.0) × IsFirstOut s c.0 c.1 d) × (FitsAll s c.0 c.1 → IsOut s cs vehicle d)
