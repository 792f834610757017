-- Laws of plans, their routes and what they cost, each said of all plans. The public functions of `laws.rt` have them as contracts.
use Rattle.std.specs.Prelude.{◌≡◌, ℕ, ◌+◌, ◌≤◌, ◌↔◌, true, List, [], ◌∷◌, ◌++◌, length, slice_get, Some, Contains, All, sum_by}
use Rattle.callback_store.specs.Tables.{Table}
use Rattle.dimension_core.specs.Cumuls.{last_of}
use Rattle.plan_core.specs.Among.{is_among}
use Rattle.plan_core.specs.Cost.{way, way_cost, route_cost, cost_of}
use Rattle.plan_core.specs.Front.{IsCommonFront, common_front}
use Rattle.plan_core.specs.Plan.{Changes, StandsAt, IsPlan, IsNamed, AreApart, route_at, with_routes}
use Rattle.plan_core.specs.Tested.{is_plan}

-- each named vehicle has its new route afterwards, and all others keep theirs
pub record RoutesAreReplaced : Type 0 where
  pub count : (changes : Changes) (routes : List (List ℕ)) → length (with_routes changes routes) ≡ length routes
  pub others : (changes : Changes) (routes : List (List ℕ)) (v : ℕ) → AreApart (length routes) changes → 1 ≤ v → ¬ IsNamed changes v
      → route_at (with_routes changes routes) v ≡ route_at routes v
  pub named : (changes : Changes) (routes : List (List ℕ)) (k : ℕ) (c : ℕ × List ℕ) → AreApart (length routes) changes → slice_get changes k ≡ Some c
      → route_at (with_routes changes routes) c.0 ≡ c.1
  pub first : (v : ℕ) (route : List ℕ) (rest : Changes) (routes : List (List ℕ)) → AreApart (length routes) ((v, route) ∷ rest)
      → route_at (with_routes ((v, route) ∷ rest) routes) v ≡ route
  pub second : (v : ℕ) (route : List ℕ) (c : ℕ × List ℕ) (routes : List (List ℕ)) → AreApart (length routes) (c ∷ (v, route) ∷ [])
      → route_at (with_routes (c ∷ (v, route) ∷ []) routes) v ≡ route

-- no route of a plan is longer than there are customers, and each holds customers 1 to that number; and so do new routes that make a plan
pub record RoutesAreKnown : Type 0 where
  pub short : (customers : ℕ) (routes : List (List ℕ)) (v : ℕ) → IsPlan customers routes → length (route_at routes v) ≤ customers
  pub known : (customers : ℕ) (routes : List (List ℕ)) (v : ℕ) → IsPlan customers routes → All (λ c. (1 ≤ c) × (c ≤ customers)) (route_at routes v)
  pub new_short : (customers : ℕ) (changes : Changes) (routes : List (List ℕ)) (k : ℕ) (c : ℕ × List ℕ) → IsPlan customers (with_routes changes routes)
      → AreApart (length routes) changes → slice_get changes k ≡ Some c → length c.1 ≤ customers
  pub new_known : (customers : ℕ) (changes : Changes) (routes : List (List ℕ)) (k : ℕ) (c : ℕ × List ℕ) → IsPlan customers (with_routes changes routes)
      → AreApart (length routes) changes → slice_get changes k ≡ Some c → All (λ x. (1 ≤ x) × (x ≤ customers)) c.1

-- a customer stands on a vehicle exactly where it is among the customers of its route, at the place that it has there
pub record CustomersStandByRoute : Type 0 where
  pub among : (routes : List (List ℕ)) (c v p : ℕ) → StandsAt routes c v p → Contains (route_at routes v) c
  pub somewhere : (routes : List (List ℕ)) (c v : ℕ) → 1 ≤ v → v ≤ length routes → Contains (route_at routes v) c → (p : ℕ) × StandsAt routes c v p
  pub there : (routes : List (List ℕ)) (c v k : ℕ) → 1 ≤ v → v ≤ length routes → (slice_get (route_at routes v) k ≡ Some c) ↔ StandsAt routes c v (k + 1)

-- the test says whether a number is among some numbers
abbrev pub AmongIsTested : Type 0
AmongIsTested = (n : ℕ) (numbers : List ℕ) → (is_among n numbers ≡ true) ↔ Contains numbers n

-- routes that pass the test are a plan
abbrev pub PlansAreTested : Type 0
PlansAreTested = (customers : ℕ) (routes : List (List ℕ)) → is_plan customers routes ≡ true → IsPlan customers routes

-- a way costs what its two parts cost, for any cost of a step; a route that is not empty costs its way out and the way back
pub record WaysJoin : Type 0 where
  pub parts : (f : ℕ → ℕ → ℕ) (i : ℕ) (xs ys : List ℕ) → way f i (xs ++ ys) ≡ way f i xs + way f (last_of i xs) ys
  pub route : (t : Table) (route : List ℕ) → 1 ≤ length route → route_cost t route ≡ way_cost t 0 (route ++ 0 ∷ [])

-- what the routes of the named vehicles cost before some changes, and their new routes
abbrev pub cost_before : Table → Changes → List (List ℕ) → ℕ
cost_before t changes routes = sum_by (λ c. route_cost t (route_at routes c.0)) changes

abbrev pub cost_after : Table → Changes → ℕ
cost_after t changes = sum_by (λ c. route_cost t c.1) changes

-- the cost after new routes differs only by those of the named vehicles; stated in general, for one new route, and for two
pub record CostsDifferByNamed : Type 0 where
  pub all : (t : Table) (changes : Changes) (routes : List (List ℕ)) → AreApart (length routes) changes
      → cost_of t (with_routes changes routes) + cost_before t changes routes ≡ cost_of t routes + cost_after t changes
  pub one : (t : Table) (v : ℕ) (r : List ℕ) (routes : List (List ℕ)) → AreApart (length routes) ((v, r) ∷ [])
      → cost_of t (with_routes ((v, r) ∷ []) routes) + route_cost t (route_at routes v) ≡ cost_of t routes + route_cost t r
  pub two : (t : Table) (v w : ℕ) (r q : List ℕ) (routes : List (List ℕ)) → AreApart (length routes) ((v, r) ∷ (w, q) ∷ [])
      → cost_of t (with_routes ((v, r) ∷ (w, q) ∷ []) routes) + (route_cost t (route_at routes v) + route_cost t (route_at routes w))
      ≡ cost_of t routes + (route_cost t r + route_cost t q)

-- the number is the length of the longest common prefix, and no other number is
pub record FrontsAreCommon : Type 0 where
  pub is : (xs ys : List ℕ) → IsCommonFront xs ys (common_front xs ys)
  pub only : (xs ys : List ℕ) (n : ℕ) → IsCommonFront xs ys n → n ≡ common_front xs ys
