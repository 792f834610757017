-- What ways and plans cost, in parts.
use Rattle.std.proofs.Common.{◌≡◌, ◌≢◌, ℕ, ◌+◌, ◌-◌, ◌≤◌, inl, inr, refl, sym, ap, subst, arith, List, [], ◌∷◌, ◌++◌, length, slice_set}
use Rattle.std.proofs.lemmas.List.{get_or-set_other, length-set}
use Rattle.std.proofs.lemmas.List.Sums.{sum_by-set, sum_by-cons}
use Rattle.callback_store.specs.Tables.{Table}
use Rattle.dimension_core.specs.Cumuls.{last_of}
use Rattle.plan_core.specs.Cost.{way, route_cost, cost_of}
use Rattle.plan_core.specs.Laws.{cost_before, cost_after}
use Rattle.plan_core.specs.Plan.{Changes, IsNamed, AreApart, route_at, with_routes}

-- a way in two parts
pub way_append : (f : ℕ → ℕ → ℕ) (i : ℕ) (xs ys : List ℕ) → way f i (xs ++ ys) ≡ way f i xs + way f (last_of i xs) ys
way_append f i [] ys = omega arith
way_append f i (x ∷ xs) ys = let e = way_append f x xs ys in omega arith

sum_same : (x y a b n m : ℕ) → n ≡ x + a → m ≡ y + b → x ≡ y → a ≡ b → n ≡ m
sum_same x y a b n m new old same rest = omega arith

-- what the named routes cost does not depend on the route of another vehicle
before_set : (t : Table) (changes : Changes) (routes : List (List ℕ)) (v n : ℕ) (r : List ℕ) → AreApart n changes → 1 ≤ v → ¬ IsNamed changes v
    → cost_before t changes (slice_set routes (v - 1) r) ≡ cost_before t changes routes
before_set t [] routes v n r apart low out = refl
before_set t (c ∷ cs) routes v n r (one, high, once, apart) low out =
    let away : c.0 - 1 ≢ v - 1 = λ e. out (inl (omega arith)) in
    let same : route_cost t (route_at (slice_set routes (v - 1) r) c.0) ≡ route_cost t (route_at routes c.0) = ap (route_cost t) (get_or-set_other routes (v - 1) (c.0 - 1) r [] away) in
    sum_same _ _ _ _ _ _ (sum_by-cons (λ (x : ℕ × List ℕ). route_cost t (route_at (slice_set routes (v - 1) r) x.0)) c cs)
    (sum_by-cons (λ (x : ℕ × List ℕ). route_cost t (route_at routes x.0)) c cs) same (before_set t cs routes v n r apart low (λ h. out (inr h)))

-- the cost after new routes differs only by those of the named vehicles
pub cost-with_routes : (t : Table) (changes : Changes) (routes : List (List ℕ)) → AreApart (length routes) changes
    → cost_of t (with_routes changes routes) + cost_before t changes routes ≡ cost_of t routes + cost_after t changes
cost-with_routes t [] routes apart = refl
cost-with_routes t (c ∷ cs) routes (one, high, once, apart) =
    let set : List (List ℕ) = slice_set routes (c.0 - 1) c.1 in
    let later : AreApart (length set) cs = subst (λ (n : ℕ). AreApart n cs) (sym (length-set routes (c.0 - 1) c.1)) apart in
    let rest = cost-with_routes t cs set later in
    let same = before_set t cs routes c.0 (length routes) c.1 apart one once in
    let first = sum_by-set (route_cost t) routes (c.0 - 1) c.1 [] (omega arith) in
    step _ _ _ _ _ _ _ _ _ _ rest same first (sum_by-cons (λ (x : ℕ × List ℕ). route_cost t (route_at routes x.0)) c cs)
    (sum_by-cons (λ (x : ℕ × List ℕ). route_cost t x.1) c cs)
  where
    step : (made set all before now after b a one new : ℕ) → made + now ≡ set + after → now ≡ before → set + one ≡ all + new → b ≡ one + before → a ≡ new + after
        → made + b ≡ all + a
    step made set all before now after b a one new rest same first old last = omega arith

pub cost-one : (t : Table) (v : ℕ) (r : List ℕ) (routes : List (List ℕ)) → AreApart (length routes) ((v, r) ∷ [])
    → cost_of t (with_routes ((v, r) ∷ []) routes) + route_cost t (route_at routes v) ≡ cost_of t routes + route_cost t r
cost-one t v r routes apart = let e = cost-with_routes t ((v, r) ∷ []) routes apart in omega arith

pub cost-two : (t : Table) (v w : ℕ) (r q : List ℕ) (routes : List (List ℕ)) → AreApart (length routes) ((v, r) ∷ (w, q) ∷ [])
    → cost_of t (with_routes ((v, r) ∷ (w, q) ∷ []) routes) + (route_cost t (route_at routes v) + route_cost t (route_at routes w))
    ≡ cost_of t routes + (route_cost t r + route_cost t q)
cost-two t v w r q routes apart = let e = cost-with_routes t ((v, r) ∷ (w, q) ∷ []) routes apart in omega arith
