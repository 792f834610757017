use Rattle.std.specs.declared.sync.Arc.{Arc}
use Rattle.limits.specs.declared.TheConstants.{MOST_CUSTOMERS, MOST_EVENTS, MOST_VEHICLES}
pub use Rattle.dimension_core.specs.NewRoutes.{Changes}
use Rattle.std.specs.Prelude.{map, ◌≡◌, ℕ, ◌+◌, ◌-◌, ◌≤◌, ◌⊎◌, List, [], ◌∷◌, length, slice_get, slice_set, slice_index, slice_index_or, Some}

-- A plan as contracts see it: how many customers there are, the route of each vehicle (the first is that of vehicle 1), how many
-- commits there were, and for each vehicle the number of the last commit that changed it, 0 if there is none.
pub record PlanState : Type 0 where
  pub customers : ℕ
  pub routes : List (List ℕ)
  pub version : ℕ
  pub stamps : List ℕ

-- the route of a vehicle, vehicles counted from 1
abbrev pub route_at : List (List ℕ) → ℕ → List ℕ
route_at routes v = slice_index_or routes (v - 1) []

-- customer c stands on vehicle v at place p, places counted from 1
pub record StandsAt (routes : List (List ℕ)) (c v p : ℕ) : Type 0 where
  pub low : 1 ≤ v
  pub high : v ≤ length routes
  pub place : 1 ≤ p
  pub found : slice_get (route_at routes v) (p - 1) ≡ Some c

-- customer c stands somewhere
abbrev pub IsPlaced : List (List ℕ) → ℕ → Type 0
IsPlaced routes c = (v : ℕ) × ((p : ℕ) × StandsAt routes c v p)

-- the routes hold customers from 1 to `customers`, and none of them twice
pub record IsPlan (customers : ℕ) (routes : List (List ℕ)) : Type 0 where
  pub known : (c v p : ℕ) → StandsAt routes c v p → (1 ≤ c) × (c ≤ customers)
  pub alone : (c v p w q : ℕ) → StandsAt routes c v p → StandsAt routes c w q → (v ≡ w) × (p ≡ q)

-- shared routes as lists, and as new routes
abbrev pub routes_of : {Z : Type 0} → List (Arc (List ℕ) Z) → List (List ℕ)
routes_of routes = map (λ r. r.value) routes

abbrev pub changes_of : {Z : Type 0} → List (ℕ × Arc (List ℕ) Z) → Changes
changes_of changes = map (λ c. (c.0, c.1.value)) changes

-- some changes give a vehicle a new route
abbrev pub IsNamed : Changes → ℕ → Type 0
IsNamed [] v = ⊥
IsNamed (c ∷ cs) v = (v ≡ c.0) ⊎ IsNamed cs v

-- each vehicle is 1 to `vehicles`, and no later change names it again
abbrev pub AreApart : ℕ → Changes → Type 0
AreApart vehicles [] = Unit {0}
AreApart vehicles (c ∷ cs) = (1 ≤ c.0) × (c.0 ≤ vehicles) × (¬ IsNamed cs c.0) × AreApart vehicles cs

-- one or two new routes, for vehicles 1 to `vehicles`, each once
pub record AreChanges (vehicles : ℕ) (changes : Changes) : Type 0 where
  pub some : 1 ≤ length changes
  pub few : length changes ≤ 2
  pub apart : AreApart vehicles changes

-- the routes after each named vehicle got its new one
abbrev pub with_routes : Changes → List (List ℕ) → List (List ℕ)
with_routes [] routes = routes
with_routes (c ∷ cs) routes = with_routes cs (slice_set routes (c.0 - 1) c.1)

-- the named vehicles with the routes that they have
abbrev pub former : List (List ℕ) → Changes → Changes
former routes changes = map (λ c. (c.0, route_at routes c.0)) changes

-- the numbers of the last commits after commit n changed the named vehicles
abbrev pub with_stamps : Changes → ℕ → List ℕ → List ℕ
with_stamps [] n stamps = stamps
with_stamps (c ∷ cs) n stamps = with_stamps cs n (slice_set stamps (c.0 - 1) n)

-- the plan after one more commit, which gives the named vehicles their new routes
abbrev pub replaced : Changes → PlanState → PlanState
replaced changes plan = record {
  customers = plan.customers;
  routes = with_routes changes plan.routes;
  version = plan.version + 1;
  stamps = with_stamps changes (plan.version + 1) plan.stamps;
}

-- the number of the last commit that changed a vehicle
abbrev pub stamp_of : PlanState → ℕ → ℕ
stamp_of plan v = slice_index plan.stamps (v - 1)

-- what is known of the numbers of every plan
pub record AreSizes (plan : PlanState) : Type 0 where
  pub customers : plan.customers ≤ MOST_CUSTOMERS
  pub vehicles : length plan.routes ≤ MOST_VEHICLES
  pub stamps : length plan.stamps ≡ length plan.routes
  pub stamped : (v : ℕ) → stamp_of plan v ≤ plan.version
  pub version : plan.version ≤ MOST_EVENTS
