use Rattle.std.proofs.Common.{◌≡◌, ◌∙◌, ℕ, ◌+◌, ◌*◌, ◌<◌, ◌≤◌, ◌==◌, true, false, sym, ap, subst, refl, arith, List, [], ◌∷◌, ◌++◌, length, map, take, drop, get_or, sum_by, le_trans, mul-le-mul_right}
use Rattle.std.proofs.lemmas.Bool.{eqb-true}
use Rattle.std.proofs.lemmas.List.{drop_more, drop_all, take_more, map_push}
use Rattle.std.proofs.lemmas.List.Sums.{sum_by_push}
use Rattle.callback_store.specs.Meter.{AsksJust, none_asked, asks_then}
use Rattle.callback_store.specs.Tables.{Table, entry, table_at}
use Rattle.callback_store.specs.declared.meter.Meter.{Meter}
use Rattle.plan_core.specs.Cost.{way_cost, route_cost, route_asks}

-- a route that is not empty costs its way
pub route_cost-some : (t : Table) (route : List ℕ) → 0 < length route → route_cost t route ≡ way_cost t 0 (route ++ 0 ∷ [])
route_cost-some t [] h = absurd (omega arith)
route_cost-some t (c ∷ cs) h = refl

-- an empty one costs nothing, and nothing is asked
pub cost_none : (t : Table) (route : List ℕ) → true ≡ (length route == 0) → 0 ≡ route_cost t route
cost_none t [] e = refl
cost_none t (c ∷ cs) e = let h = eqb-true (length (c ∷ cs)) 0 (sym e) in absurd (omega arith)

pub asks_none : (m : Meter) (route : List ℕ) → true ≡ (length route == 0) → AsksJust m m (route_asks route)
asks_none m [] e = none_asked m
asks_none m (c ∷ cs) e = let h = eqb-true (length (c ∷ cs)) 0 (sym e) in absurd (omega arith)

-- one more stop
pub way_more : (t : Table) (route : List ℕ) (i from sum all more : ℕ) → i < length route
    → sum + way_cost t from (drop i route ++ 0 ∷ []) ≡ all → more ≡ entry t from (get_or route i 0)
    → sum + more + way_cost t (get_or route i 0) (drop (i + 1) route ++ 0 ∷ []) ≡ all
way_more t route i from sum all more h e answer =
    let whole : sum + way_cost t from ((get_or route i 0 ∷ drop (i + 1) route) ++ 0 ∷ []) ≡ all =
    subst (λ (rest : List ℕ). sum + way_cost t from (rest ++ 0 ∷ []) ≡ all) (drop_more route i 0 h) e in
    omega arith

-- and the return
pub way_home : (t : Table) (route : List ℕ) (i from sum more : ℕ) → length route ≤ i → false ≡ (length route == 0)
    → sum + way_cost t from (drop i route ++ 0 ∷ []) ≡ way_cost t 0 (route ++ 0 ∷ []) → more ≡ entry t from 0 → sum + more ≡ route_cost t route
way_home t [] i from sum more h some e answer = absurd cc
way_home t (c ∷ cs) i from sum more h some e answer =
    let whole : sum + (entry t from 0 + 0) ≡ route_cost t (c ∷ cs) =
    subst (λ (rest : List ℕ). sum + way_cost t from (rest ++ 0 ∷ []) ≡ route_cost t (c ∷ cs)) (drop_all i (c ∷ cs) h) e in
    omega arith

pub asks_home : (a b d : Meter) (route : List ℕ) (i : ℕ) → i ≤ length route → length route ≤ i → false ≡ (length route == 0)
    → AsksJust a b i → AsksJust b d 1 → AsksJust a d (route_asks route)
asks_home a b d [] i low high some p q = absurd cc
asks_home a b d (c ∷ cs) i low high some p q =
    let all : i + 1 ≡ length (c ∷ cs) + 1 = omega arith in
    subst (λ (n : ℕ). AsksJust a d n) all (asks_then a b d i i 1 1 p q)

-- the sum over one more route
pub sum_more : {A : Type 0} (g : A → List ℕ) (f : List ℕ → ℕ) (xs : List A) (i sum more : ℕ) (x : A) (r : List ℕ) → i < length xs
    → sum ≡ sum_by f (map g (take i xs)) → x ≡ get_or xs i x → r ≡ g x → more ≡ f r → sum + more ≡ sum_by f (map g (take (i + 1) xs))
sum_more g f xs i sum more x r h e is read value =
    let next : map g (take (i + 1) xs) ≡ map g (take i xs) ++ g x ∷ [] =
    ap (map g) (take_more xs i x h ∙ ap (λ y. take i xs ++ y ∷ []) (sym is)) ∙ map_push g (take i xs) x in
    let last : more ≡ f (g x) = value ∙ ap f read in
    let all : sum_by f (map g (take (i + 1) xs)) ≡ sum_by f (map g (take i xs)) + f (g x) = ap (sum_by f) next ∙ sum_by_push f (map g (take i xs)) (g x) in
    omega arith

pub asks_more : {A : Type 0} (g : A → List ℕ) (xs : List A) (i : ℕ) (x : A) (r : List ℕ) (a b d : Meter) → i < length xs → x ≡ get_or xs i x → r ≡ g x
    → AsksJust a b (sum_by route_asks (map g (take i xs))) → AsksJust b d (route_asks r) → AsksJust a d (sum_by route_asks (map g (take (i + 1) xs)))
asks_more g xs i x r a b d h is read p q =
    subst (λ (n : ℕ). AsksJust a d n) (sum_more g route_asks xs i _ _ x r h refl is read refl) (asks_then a b d _ _ _ _ p q)

-- sums of small numbers are small
pub small_more : (k sum more i : ℕ) → sum ≤ i * k → more ≤ k → sum + more ≤ (i + 1) * k
small_more k sum more i h l = let e : (i + 1) * k ≡ i * k + k = grind arith in omega arith

pub small_all : (k n sum more i most : ℕ) → sum ≤ i * k → more ≤ k → i ≤ n → n ≤ most → sum + more ≤ (most + 1) * k
small_all k n sum more i most h l low high = le_trans (small_more k sum more i h l) (mul-le-mul_right k (omega arith))

-- what is read in equal tables
pub cost_as : {R : Type 0} (cost : Table → R → ℕ) (ts us : List Table) (i j n : ℕ) (r q : R) → ts ≡ us → i ≡ j → r ≡ q → n ≡ cost (table_at ts i) r
    → n ≡ cost (table_at us j) q
cost_as cost ts us i j n r q tables same rest value = value ∙ ap (λ t. cost (table_at t i) r) tables ∙ ap (λ k. cost (table_at us k) r) same ∙ ap (cost (table_at us j)) rest

-- the depot and the customers are nodes
pub depot_known : (n m : ℕ) → n ≡ m + 1 → 0 < n
depot_known n m e = omega arith

pub node_known : (x n m : ℕ) → n ≡ m + 1 → x ≤ m → x < n
node_known x n m e h = omega arith
