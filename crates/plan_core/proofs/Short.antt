use Rattle.std.proofs.Common.{◌≡◌, ◌≢◌, ℕ, zero, suc, ◌+◌, ◌-◌, ◌<◌, ◌≤◌, ◌⊎◌, ◌∙◌, sym, ap, subst, arith, inl, inr, List, [], ◌∷◌, length, get_or, map, All, true, false, nat_eq}
use Rattle.std.specs.List.{IsDistinct, list_any}
use Rattle.std.proofs.lemmas.Bool.{ne_eqb, eqb-true, cases_order}
use Rattle.std.proofs.lemmas.List.{get_or_default, get_or_past, length-map}
use Rattle.std.proofs.lemmas.List.Elements.{recursion_from_All, All-from_get_or}
use Rattle.std.proofs.lemmas.List.Folds.{Any-from_list_any}
use Rattle.std.proofs.lemmas.Map.Steps.{length-le_from_distinct_below}
use Rattle.plan_core.specs.Plan.{StandsAt, IsPlan, route_at}
use Rattle.plan_core.proofs.Places.{map_read, stands_at}

-- no number stands at two places of a list
abbrev IsApart : List ℕ → Type 0
IsApart xs = (i j : ℕ) → i < j → j < length xs → get_or xs i 0 ≢ get_or xs j 0

distinct_from_apart : (xs : List ℕ) → IsApart xs → IsDistinct nat_eq xs
unfolding IsDistinct
distinct_from_apart [] apart = tt
distinct_from_apart (x ∷ xs) apart = (
  recursion_from_All (λ y. nat_eq x y ≡ false) xs
      (λ k d h. ne_eqb x (get_or xs k d) (λ e. apart zero (suc k) (omega arith) (omega arith) (e ∙ get_or_default xs k d 0 h))),
  distinct_from_apart xs (λ i j h l. apart (suc i) (suc j) (omega arith) (omega arith)),
)

-- numbers from 1 to n, none of them twice, are at most n
few_numbers : (xs : List ℕ) (n : ℕ) → IsApart xs → ((k : ℕ) → k < length xs → (1 ≤ get_or xs k 0) × (get_or xs k 0 ≤ n)) → length xs ≤ n
few_numbers xs n apart within =
    let more : IsApart (0 ∷ xs) = zero_apart xs apart (λ k h. (within k h).0) in
    let all : length (0 ∷ xs) ≤ n + 1 = length-le_from_distinct_below (0 ∷ xs) (n + 1) (distinct_from_apart (0 ∷ xs) more) (below xs n (λ k h. (within k h).1)) in
    omega arith
  where
    zero_apart : (xs : List ℕ) → IsApart xs → ((k : ℕ) → k < length xs → 1 ≤ get_or xs k 0) → IsApart (0 ∷ xs)
    zero_apart xs apart low zero zero h l e = absurd (omega arith)
    zero_apart xs apart low zero (suc j) h l e = let some : 1 ≤ get_or xs j 0 = low j (omega arith) in omega arith
    zero_apart xs apart low (suc i) zero h l e = absurd (omega arith)
    zero_apart xs apart low (suc i) (suc j) h l e = apart i j (omega arith) (omega arith) e

    at : (xs : List ℕ) (n : ℕ) → ((k : ℕ) → k < length xs → get_or xs k 0 ≤ n) → (k : ℕ) → k < length (0 ∷ xs) → get_or (0 ∷ xs) k 0 < n + 1
    at xs n high zero h = omega arith
    at xs n high (suc k) h = omega (arith, high k (omega arith))

    below : (xs : List ℕ) (n : ℕ) → ((k : ℕ) → k < length xs → get_or xs k 0 ≤ n) → (q : ℕ) → list_any (nat_eq q) (0 ∷ xs) ≡ true → q < n + 1
    below xs n high q h =
        let some = Any-from_list_any (nat_eq q) (0 ∷ xs) h in
        let same : q ≡ some.1 = eqb-true q some.1 some.4 in
        let read : get_or (0 ∷ xs) some.0 0 ≡ some.1 = get_or_default (0 ∷ xs) some.0 0 some.1 some.2 ∙ some.3 in
        let small : get_or (0 ∷ xs) some.0 0 < n + 1 = at xs n high some.0 some.2 in
        omega arith

route_short : (n : ℕ) (routes : List (List ℕ)) (v : ℕ) → IsPlan n routes → 1 ≤ v → v ≤ length routes → length (route_at routes v) ≤ n
route_short n routes v plan low high =
    few_numbers (route_at routes v) n
    (λ i j h l e.
    let first : StandsAt routes (get_or (route_at routes v) i 0) v (i + 1) = stands_at routes v i low high (omega arith) in
    let second : StandsAt routes (get_or (route_at routes v) i 0) v (j + 1) =
    subst (λ (c : ℕ). StandsAt routes c v (j + 1)) (sym e) (stands_at routes v j low high l) in
    let same : i + 1 ≡ j + 1 = (plan.alone _ v (i + 1) v (j + 1) first second).1 in
    omega arith)
    (λ k h. plan.known _ v (k + 1) (stands_at routes v k low high h))

at_place : (n : ℕ) (routes : List (List ℕ)) (k : ℕ) → IsPlan n routes → (k < length routes) ⊎ (length routes ≤ k) → length (get_or routes k []) ≤ n
at_place n routes k plan (inl h) =
    let back : k + 1 - 1 ≡ k = omega arith in
    subst (λ (m : ℕ). length (get_or routes m []) ≤ n) back (route_short n routes (k + 1) plan (omega arith) (omega arith))
at_place n routes k plan (inr h) = rw (get_or_past routes k [] h) (omega arith)

cases_below : (a b : ℕ) → (a < b) ⊎ (b ≤ a)
cases_below a b = pick a b (cases_order a b)
  where
    pick : (a b : ℕ) → (a ≡ b) ⊎ ((a < b) ⊎ (b < a)) → (a < b) ⊎ (b ≤ a)
    pick a b (inl e) = inr (omega arith)
    pick a b (inr (inl h)) = inl h
    pick a b (inr (inr h)) = inr (omega arith)

-- no route has more customers than there are
pub routes_short : (n : ℕ) (routes : List (List ℕ)) (v : ℕ) → IsPlan n routes → length (route_at routes v) ≤ n
routes_short n routes v plan = at_place n routes (v - 1) plan (cases_below (v - 1) (length routes))

-- what is read at a place of a plan is short
pub short_read : {A : Type 0} (f : A → List ℕ) (xs : List A) (k customers : ℕ) (a : A) → k < length xs → a ≡ get_or xs k a
    → IsPlan customers (map f xs) → customers ≤ 1000 → length (f a) ≤ 1000
short_read f xs k customers a h e plan few =
    let read : f a ≡ get_or (map f xs) k [] = map_read f xs k a h e in
    let short : length (get_or (map f xs) k []) ≤ customers = at_place customers (map f xs) k plan (cases_below k (length (map f xs))) in
    rw read (omega arith)

-- and its customers are known
pub known_read : {A : Type 0} (f : A → List ℕ) (xs : List A) (k customers : ℕ) (a : A) → k < length xs → a ≡ get_or xs k a
    → IsPlan customers (map f xs) → All (λ c. c < customers + 1) (f a)
known_read f xs k customers a h e plan =
    All-from_get_or (λ c. c < customers + 1) (f a) 0 (λ i l.
    let read : f a ≡ get_or (map f xs) k [] = map_read f xs k a h e in
    let back : k + 1 - 1 ≡ k = omega arith in
    let here : route_at (map f xs) (k + 1) ≡ f a = ap (λ (n : ℕ). get_or (map f xs) n []) back ∙ sym read in
    let long : length (map f xs) ≡ length xs = length-map xs f in
    let inside : i < length (route_at (map f xs) (k + 1)) = rw here l in
    let within : get_or (route_at (map f xs) (k + 1)) i 0 ≤ customers = (plan.known _ (k + 1) (i + 1) (stands_at (map f xs) (k + 1) i (omega arith) (omega arith) inside)).1 in
    let same : get_or (route_at (map f xs) (k + 1)) i 0 ≡ get_or (f a) i 0 = ap (λ (r : List ℕ). get_or r i 0) here in
    omega arith)

pub all_short : {A : Type 0} (f : A → List ℕ) (xs : List A) (customers : ℕ) → IsPlan customers (map f xs) → customers ≤ 1000 → All (λ a. length (f a) ≤ 1000) xs
all_short f xs customers plan few k d h = short_read f xs k customers (get_or xs k d) h (get_or_default xs k d (get_or xs k d) h) plan few

pub all_known : {A : Type 0} (f : A → List ℕ) (xs : List A) (customers : ℕ) → IsPlan customers (map f xs) → All (λ a. All (λ c. c < customers + 1) (f a)) xs
all_known f xs customers plan k d h = known_read f xs k customers (get_or xs k d) h (get_or_default xs k d (get_or xs k d) h) plan
