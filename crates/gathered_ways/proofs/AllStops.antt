-- The stops of a vehicle of a plan.
use Rattle.std.proofs.Common.{◌≡◌, ◌∙◌, ℕ, ◌+◌, ◌≤◌, sym, ap, subst, arith, List, [], ◌∷◌, ◌++◌, length, All}
use Rattle.std.proofs.lemmas.List.{append_assoc, length-append}
use Rattle.std.proofs.lemmas.List.Elements.{All-nil, All-cons, All-append}
use Rattle.dimension_core.specs.Setting.{Setting}
use Rattle.plan_core.specs.Laws.{RoutesAreKnown}
use Rattle.plan_core.specs.Plan.{IsPlan, route_at}
use Rattle.gathered_ways.specs.Sides.{stops_of_both}
use Rattle.way_costs.specs.Ways.{AreStops}

at_most : (n : ℕ) (xs : List ℕ) → All (λ c. (1 ≤ c) × (c ≤ n)) xs → All (λ c. c ≤ n) xs
at_most n xs all k d h = (all k d h).1

-- a list made of the depot, a route of a plan, and the depot is its stops
pub made_stops : (known : RoutesAreKnown) (s : Setting) (routes : List (List ℕ)) (v : ℕ) (all : List ℕ) → IsPlan s.customers routes → length routes ≡ s.vehicles
    → s.customers ≤ 1000 → 1 ≤ v → v ≤ s.vehicles → all ≡ 0 ∷ (route_at routes v ++ 0 ∷ []) → AreStops s.customers routes v all
made_stops known s routes v all plan count few low high e =
    let r = route_at routes v in
    let a : length all ≡ length (0 ∷ (r ++ 0 ∷ [])) = ap length e in
    let b : length (r ++ 0 ∷ []) ≡ length r + 1 = length-append r (0 ∷ []) in
    let short = known.short s.customers routes v plan in
    let n = count in
    let top : v ≤ length routes = omega arith in
    record {
      low = low;
      high = top;
      is = e;
      sized = omega arith;
      short = omega arith;
      known = subst (λ (xs : List ℕ). All (λ c. c ≤ s.customers) xs) (sym e)
          (All-cons (λ c. c ≤ s.customers) 0 (r ++ 0 ∷ []) (omega arith)
          (All-append (λ c. c ≤ s.customers) r (0 ∷ []) (at_most s.customers r (known.known s.customers routes v plan)) (All-cons (λ c. c ≤ s.customers) 0 [] (omega arith) (All-nil (λ c. c ≤ s.customers)))));
    }

-- a list to which these were added, one after the other
pub pushed_stops : (none room depot out all r : List ℕ) → none ≡ [] → room ≡ none → depot ≡ room ++ 0 ∷ [] → out ≡ depot ++ r → all ≡ out ++ 0 ∷ [] → all ≡ 0 ∷ (r ++ 0 ∷ [])
pushed_stops none room depot out all r e f g h i =
    i ∙ ap (λ (xs : List ℕ). xs ++ 0 ∷ []) (h ∙ ap (λ (xs : List ℕ). xs ++ r) (g ∙ ap (λ (xs : List ℕ). xs ++ 0 ∷ []) (f ∙ e)))

-- the same of the stops of two vehicles
pub pushed_both : (one over all r q : List ℕ) → one ≡ 0 ∷ (r ++ 0 ∷ []) → over ≡ one ++ q → all ≡ over ++ 0 ∷ [] → all ≡ stops_of_both r q
pushed_both one over all r q e f g =
    g ∙ ap (λ (xs : List ℕ). xs ++ 0 ∷ []) (f ∙ ap (λ (xs : List ℕ). xs ++ q) e) ∙ ap (λ (xs : List ℕ). 0 ∷ xs) (append_assoc (r ++ 0 ∷ []) q (0 ∷ []))

pub known_both : (known : RoutesAreKnown) (customers : ℕ) (routes : List (List ℕ)) (v w : ℕ) (all : List ℕ) → IsPlan customers routes
    → all ≡ stops_of_both (route_at routes v) (route_at routes w) → All (λ c. c ≤ customers) all
known_both known customers routes v w all plan e =
    let depot = All-cons (λ c. c ≤ customers) 0 [] (omega arith) (All-nil (λ c. c ≤ customers)) in
    subst (λ (xs : List ℕ). All (λ c. c ≤ customers) xs) (sym e)
    (All-cons (λ c. c ≤ customers) 0 _ (omega arith)
    (All-append (λ c. c ≤ customers) (route_at routes v ++ 0 ∷ []) (route_at routes w ++ 0 ∷ [])
    (All-append (λ c. c ≤ customers) (route_at routes v) (0 ∷ []) (at_most customers (route_at routes v) (known.known customers routes v plan)) depot)
    (All-append (λ c. c ≤ customers) (route_at routes w) (0 ∷ []) (at_most customers (route_at routes w) (known.known customers routes w plan)) depot)))
