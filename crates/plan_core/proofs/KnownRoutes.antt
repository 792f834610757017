-- The customers of a plan's routes, and of new routes that make a plan.
use Rattle.std.proofs.Common.{◌≡◌, ℕ, ◌+◌, ◌-◌, ◌<◌, ◌≤◌, ◌⊎◌, ◌↔◌, ◌∙◌, inl, inr, ap, sym, subst, arith, List, [], ◌∷◌, ◌++◌, length, replicate, slice_get, get_or, map, Some, All}
use Rattle.std.proofs.lemmas.Bool.{cases_order}
use Rattle.std.proofs.lemmas.List.{get_or_past, map_push}
use Rattle.std.proofs.lemmas.List.Elements.{All-from_get_or}
use Rattle.std.proofs.lemmas.Grind.{replicate_next}
use Rattle.std.specs.declared.sync.Arc.{Arc}
use Rattle.plan_core.specs.Plan.{Changes, StandsAt, IsPlan, AreApart, route_at, routes_of, with_routes}
use Rattle.plan_core.proofs.Exchange.{route_at-named}
use Rattle.plan_core.proofs.Places.{map_read, stands_at}
use Rattle.plan_core.proofs.Short.{routes_short}

-- the customers of the vehicle at place k, from 0 on
known_place : (n : ℕ) (routes : List (List ℕ)) (k : ℕ) → IsPlan n routes → (k < length routes) ⊎ (length routes ≤ k) → All (λ c. (1 ≤ c) × (c ≤ n)) (get_or routes k [])
known_place n routes k plan (inl h) =
    let back : k + 1 - 1 ≡ k = omega arith in
    subst (λ (m : ℕ). All (λ c. (1 ≤ c) × (c ≤ n)) (get_or routes m [])) back
    (All-from_get_or (λ c. (1 ≤ c) × (c ≤ n)) (route_at routes (k + 1)) 0 (λ i l. plan.known _ (k + 1) (i + 1) (stands_at routes (k + 1) i (omega arith) (omega arith) l)))
known_place n routes k plan (inr h) = rw (get_or_past routes k [] h) (λ i d l. absurd (omega arith))

place_cases : (a b : ℕ) → (a < b) ⊎ (b ≤ a)
place_cases a b = pick (cases_order a b)
  where
    pick : (a ≡ b) ⊎ ((a < b) ⊎ (b < a)) → (a < b) ⊎ (b ≤ a)
    pick (inl e) = inr (omega arith)
    pick (inr (inl h)) = inl h
    pick (inr (inr h)) = inr (omega arith)

pub routes_known : (n : ℕ) (routes : List (List ℕ)) (v : ℕ) → IsPlan n routes → All (λ c. (1 ≤ c) × (c ≤ n)) (route_at routes v)
routes_known n routes v plan = known_place n routes (v - 1) plan (place_cases (v - 1) (length routes))

pub new_short : (n : ℕ) (changes : Changes) (routes : List (List ℕ)) (k : ℕ) (c : ℕ × List ℕ) → IsPlan n (with_routes changes routes)
    → AreApart (length routes) changes → slice_get changes k ≡ Some c → length c.1 ≤ n
new_short n changes routes k c plan apart e =
    subst (λ (r : List ℕ). length r ≤ n) (route_at-named changes routes k c apart e) (routes_short n (with_routes changes routes) c.0 plan)

pub new_known : (n : ℕ) (changes : Changes) (routes : List (List ℕ)) (k : ℕ) (c : ℕ × List ℕ) → IsPlan n (with_routes changes routes)
    → AreApart (length routes) changes → slice_get changes k ≡ Some c → All (λ x. (1 ≤ x) × (x ≤ n)) c.1
new_known n changes routes k c plan apart e =
    subst (λ (r : List ℕ). All (λ x. (1 ≤ x) × (x ≤ n)) r) (route_at-named changes routes k c apart e) (routes_known n (with_routes changes routes) c.0 plan)

-- a place of a route, and who stands there
pub stands_there : (routes : List (List ℕ)) (c v k : ℕ) → 1 ≤ v → v ≤ length routes → (slice_get (route_at routes v) k ≡ Some c) ↔ StandsAt routes c v (k + 1)
stands_there routes c v k low high =
    let back : k + 1 - 1 ≡ k = omega arith in (
      λ e. record { low = low; high = high; place = omega arith; found = ap (λ (n : ℕ). slice_get (route_at routes v) n) back ∙ e },
      λ s. ap (λ (n : ℕ). slice_get (route_at routes v) n) (sym back) ∙ s.found,
    )

-- what is read at a place of a plan holds customers of the plan
pub read_known : {A : Type 0} (f : A → List ℕ) (xs : List A) (k n : ℕ) (a : A) → k < length xs → a ≡ get_or xs k a → IsPlan n (map f xs) → All (λ c. (1 ≤ c) × (c ≤ n)) (f a)
read_known f xs k n a h e plan =
    subst (λ (r : List ℕ). All (λ c. (1 ≤ c) × (c ≤ n)) r) (sym (map_read f xs k a h e)) (known_place n (map f xs) k plan (place_cases k (length (map f xs))))

-- one more empty route
pub empty_more : {Z : Type 0} (new routes : List (Arc (List ℕ) Z)) (n : ℕ) (route : Arc (List ℕ) Z) → new ≡ routes ++ route ∷ [] → route.value ≡ []
    → routes_of routes ≡ replicate n [] → routes_of new ≡ replicate (n + 1) []
empty_more new routes n route push none all =
    ap routes_of push ∙ map_push (λ r. r.value) routes route ∙ ap (λ rs. rs ++ route.value ∷ []) all ∙ ap (λ r. replicate n [] ++ r ∷ []) none ∙ sym (replicate_next n [])
