-- How often the rows of a plan's routes ask.
use Rattle.std.proofs.Common.{◌≡◌, ℕ, ◌+◌, ◌-◌, ◌*◌, ◌<◌, ◌≤◌, ◌∙◌, refl, ap, subst, arith, List, [], ◌∷◌, length, take}
use Rattle.std.specs.Prelude.{slice_index_or, sum_by}
use Rattle.std.proofs.Math.Nat.{mul-le-mul_left}
use Rattle.std.proofs.lemmas.List.{take_more, take_all}
use Rattle.std.proofs.lemmas.List.Sums.{sum_by-append, sum_by-cons, sum_by-take-le}
use Rattle.callback_store.specs.declared.meter.Meter.{Meter}
use Rattle.callback_store.specs.Meter.{AsksJust, AsksAtMost, asks_wider, asks_after, asks_both}
use Rattle.plan_core.specs.Cost.{route_asks, asks_of}
use Rattle.plan_core.specs.Plan.{route_at}
use Rattle.range_cache.specs.Asks.{walk_asks}

pub walk_first : (r : List ℕ) → walk_asks [] r ≡ route_asks r
walk_first [] = refl
walk_first (c ∷ cs) = omega arith

-- one more vehicle
asks_push : (routes : List (List ℕ)) (k : ℕ) → k < length routes → asks_of (take (k + 1) routes) ≡ asks_of (take k routes) + route_asks (route_at routes (k + 1))
asks_push routes k h =
    let back : k ≡ k + 1 - 1 = omega arith in
    let one = sum_by-cons route_asks (slice_index_or routes k []) [] in
    let last : sum_by route_asks (slice_index_or routes k [] ∷ []) ≡ route_asks (slice_index_or routes k []) = omega arith in
    ap (sum_by route_asks) (take_more routes k [] h) ∙ sum_by-append route_asks (take k routes) (slice_index_or routes k [] ∷ [])
    ∙ ap (λ (n : ℕ). asks_of (take k routes) + n) (last ∙ ap (λ (m : ℕ). route_asks (slice_index_or routes m [])) back)

pub asks_next : (n : ℕ) (routes : List (List ℕ)) (k : ℕ) (a b c : Meter) → k < length routes → AsksJust a b (n * asks_of (take k routes))
    → AsksJust b c (n * route_asks (route_at routes (k + 1))) → AsksJust a c (n * asks_of (take (k + 1) routes))
asks_next n routes k a b c h p q =
    let e : n * asks_of (take (k + 1) routes) ≡ n * (asks_of (take k routes) + route_asks (route_at routes (k + 1))) = ap (λ (m : ℕ). n * m) (asks_push routes k h) in
    asks_both a b c _ _ _ _ _ _ p q (omega arith) (omega arith)

-- the asks for the first vehicles are at most those for all
asks_part : (n : ℕ) (routes : List (List ℕ)) (k : ℕ) → n * asks_of (take k routes) ≤ n * asks_of routes
asks_part n routes k = mul-le-mul_left n (sum_by-take-le route_asks routes k)

pub asks_some : (n : ℕ) (routes : List (List ℕ)) (k : ℕ) (a b : Meter) → AsksJust a b (n * asks_of (take k routes)) → AsksAtMost a b (n * asks_of routes)
asks_some n routes k a b p =
    let less = asks_part n routes k in
    asks_wider a b _ _ _ _ p (omega arith) (omega (arith, less))

-- where memory runs out for one more vehicle
pub asks_stop : (n : ℕ) (routes : List (List ℕ)) (k : ℕ) (a b c : Meter) → k < length routes → AsksJust a b (n * asks_of (take k routes))
    → AsksAtMost b c (n * route_asks (route_at routes (k + 1))) → AsksAtMost a c (n * asks_of routes)
asks_stop n routes k a b c h p q =
    let e : n * asks_of (take (k + 1) routes) ≡ n * (asks_of (take k routes) + route_asks (route_at routes (k + 1))) = ap (λ (m : ℕ). n * m) (asks_push routes k h) in
    let less = asks_part n routes (k + 1) in
    asks_after a b c _ _ _ p q (omega (arith, e, less))

-- and those for all vehicles
pub asks_all : (n : ℕ) (routes : List (List ℕ)) (k : ℕ) (a b : Meter) → length routes ≤ k → AsksJust a b (n * asks_of (take k routes)) → AsksJust a b (n * asks_of routes)
asks_all n routes k a b end p = subst (λ (rs : List (List ℕ)). AsksJust a b (n * asks_of rs)) (take_all k routes end) p
