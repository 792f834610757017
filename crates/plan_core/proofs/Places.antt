use Rattle.std.proofs.Common.{◌≡◌, ℕ, ◌+◌, ◌-◌, ◌<◌, ◌≤◌, ◌∙◌, sym, ap, subst, arith, List, [], length, slice_get, slice_index, get_or, map, Option, Some, Contains}
use Rattle.std.proofs.lemmas.List.{get_or-map}
use Rattle.std.proofs.lemmas.Option.{slice_get_within, get_or_from_slice_get, slice_get-get_or}
use Rattle.plan_core.specs.Plan.{PlanState, StandsAt, IsPlan, route_at}
use Rattle.plan_core.specs.Homes.{AreHomes}

-- an element at a place of a list is among its elements
pub contains_from_place : (xs : List ℕ) (k c : ℕ) → slice_get xs k ≡ Some c → Contains xs c
contains_from_place xs k c e = (k, slice_get_within xs k c e, get_or_from_slice_get xs k c c e)

pub contains_from_stands : (routes : List (List ℕ)) (c v p : ℕ) → StandsAt routes c v p → Contains (route_at routes v) c
contains_from_stands routes c v p s = contains_from_place (route_at routes v) (p - 1) c s.found

-- a customer that is among those of a vehicle's route stands there
pub stands_from_contains : (routes : List (List ℕ)) (c v : ℕ) → 1 ≤ v → v ≤ length routes → Contains (route_at routes v) c → (p : ℕ) × StandsAt routes c v p
stands_from_contains routes c v low high (k, h, e) =
    let back : k + 1 - 1 ≡ k = omega arith in (
      k + 1,
      record {
        low = low;
        high = high;
        place = omega arith;
        found = ap (λ (n : ℕ). slice_get (route_at routes v) n) back ∙ slice_get-get_or (route_at routes v) k c h ∙ ap (λ (n : ℕ). Some n) e;
      },
    )

-- what is read at a place, seen as a list
pub map_read : {A : Type 0} (f : A → List ℕ) (xs : List A) (k : ℕ) (a : A) → k < length xs → a ≡ get_or xs k a → f a ≡ get_or (map f xs) k []
map_read f xs k a h e = ap f e ∙ sym (get_or-map f xs k a [] h)

pub stands_in : (routes : List (List ℕ)) (c v p : ℕ) (r : List ℕ) → 1 ≤ v → v ≤ length routes → r ≡ route_at routes v → 1 ≤ p
    → slice_get r (p - 1) ≡ Some c → StandsAt routes c v p
stands_in routes c v p r low high e place found = record {
  low = low;
  high = high;
  place = place;
  found = subst (λ (xs : List ℕ). slice_get xs (p - 1) ≡ Some c) e found;
}

-- a customer that stands somewhere stands nowhere else
pub only_there : (n : ℕ) (routes : List (List ℕ)) (c v p w q : ℕ) → IsPlan n routes → StandsAt routes c v p → StandsAt routes c w q
    → ◌≡◌ {A = Option (ℕ × ℕ)} (Some (v, p)) (Some (w, q))
only_there n routes c v p w q plan s t =
    let same = plan.alone c v p w q s t in
    let one : v ≡ w = same.0 in
    let two : p ≡ q = same.1 in
    cc

-- a customer that is not on the vehicle on which it last stood stands nowhere
pub not_there : (routes : List (List ℕ)) (row : List ℕ) (c v : ℕ) (r : List ℕ) → AreHomes routes row → v ≡ slice_index row (c - 1) → r ≡ route_at routes v
    → ¬ Contains r c → (w p : ℕ) → ¬ StandsAt routes c w p
not_there routes row c v r homes home e out w p s =
    let same : w ≡ v = sym (homes.at c w p s) ∙ sym home in
    out (subst (λ (xs : List ℕ). Contains xs c) (ap (λ (u : ℕ). route_at routes u) same ∙ sym e) (contains_from_stands routes c w p s))

-- a customer that is read at a place of a route stands there
pub stands_at : (routes : List (List ℕ)) (v k : ℕ) → 1 ≤ v → v ≤ length routes → k < length (route_at routes v) → StandsAt routes (get_or (route_at routes v) k 0) v (k + 1)
stands_at routes v k low high h =
    let back : k + 1 - 1 ≡ k = omega arith in
    record {
      low = low;
      high = high;
      place = omega arith;
      found = ap (λ (n : ℕ). slice_get (route_at routes v) n) back ∙ slice_get-get_or (route_at routes v) k 0 h;
    }

pub plan_as : (plan other : PlanState) → plan ≡ other → IsPlan plan.customers plan.routes → IsPlan other.customers other.routes
plan_as plan other e sound = subst (λ (s : PlanState). IsPlan s.customers s.routes) e sound
